use Rattle.std.proofs.Common.{ap, sym, subst, ◌<◌, inr, option_map, IsSome, nat_cmp}
use Rattle.review_machine_rows.proofs.Common.{APart, Less, TheHeader, nat_cmp_is, row_in, rows_of}
use Rattle.review_machine_rows.specs.Known.{IsLast, header_key}
use Rattle.review_memory_rows.proofs.Turned.{header_there}
use Rattle.review_memory_rows.specs.Kept.{part_where, row_of, KeptView}
use Rattle.review_memory_rows.proofs.kept.KeptChanges.last.Goals as goal

pub returns-in-Some : goal.returns-in-Some
returns-in-Some c =
    let rows = rows_of c.self.inside.kept in
    subst (λ (v : KeptView). IsLast header_key (row_of (rows_of v.kept)) c.get.result) c.self.view_is
    (record {
      above = λ n less. ap (λ o. option_map APart (part_where o TheHeader)) (c.in-Some.ensures.above n (sym (nat_cmp_is c.in-Some.number.now n Less (subst (λ m. m < n) c.get.ensures.value less))));
      there = inr (header_there (row_in nat_cmp rows c.get.result) (subst (λ m. IsSome (row_in nat_cmp rows m)) (sym c.get.ensures.value) c.in-Some.ensures.there));
    })
