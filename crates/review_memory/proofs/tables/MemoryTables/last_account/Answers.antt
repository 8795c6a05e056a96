use Rattle.std.proofs.Common.{ap, sym, subst, ◌<◌, inr, option_map, IsSome, nat_cmp}
use Rattle.review_machine_rows.proofs.Common.{AccountRow, Less, nat_cmp_is, row_in, rows_of}
use Rattle.review_memory.proofs.Applied.{mapped_is_some}
use Rattle.review_memory.proofs.tables.MemoryTables.last_account.Goals as goal

pub returns-in-Some : goal.returns-in-Some
returns-in-Some c =
    let rows = rows_of c.args.self.now.accounts in
    record {
      above = λ n less. ap (option_map AccountRow) (c.in-Some.ensures.above n (sym (nat_cmp_is c.in-Some.number.now n Less (subst (λ m. m < n) c.get.ensures.value less))));
      there = inr (mapped_is_some AccountRow (row_in nat_cmp rows c.get.result) (subst (λ m. IsSome (row_in nat_cmp rows m)) (sym c.get.ensures.value) c.in-Some.ensures.there));
    }
