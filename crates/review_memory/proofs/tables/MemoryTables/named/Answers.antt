use Rattle.std.proofs.Common.{◌∙◌, ap, cond, None, map, not, ◌&&◌}
use Rattle.std.{proofs.lemmas.Cmp.nat_list_eq_equiv, specs.Cmp.Lexicographic.slice_cmp, specs.Map.Iter.deref_pair}
use Rattle.std.specs.Ordering.{nat_cmp, ordering_then, is_le, is_lt}
use Rattle.review_table.specs.Rows.{row_in, rows_of}
use Rattle.review_memory.{proofs.Applied.row_between_numbers, specs.Desk.name_cmp}
use Rattle.review_memory.proofs.tables.MemoryTables.named.Goals as goal

pub loop-key-init : goal.loop-key-init
loop-key-init c = λ n is.
    let name = c.args.name.now in
    let all = row_in name_cmp (rows_of c.args.self.now.names) (record { name = name; account = n }) in
    let indexed = c.requires n name is in
    ap (λ xs. row_in name_cmp (map deref_pair xs) (record { name = name; account = n })) c.into_iter-key-iterator.ensures.into_iter_gives.0
    ∙ c.in_ok-items.ensures.found (record { name = name; account = n })
    ∙ (λ i. cond (is_le (ordering_then (slice_cmp nat_cmp (c.in_ok-copy.ensures i) name) (nat_cmp (c.first.ensures i) n))
    && not (is_lt (ordering_then (slice_cmp nat_cmp (c.in_ok-copy-2.ensures i) name) (nat_cmp (c.last.ensures i) n)))) all None)
    ∙ row_between_numbers name name n all (λ _ _. indexed.0)
    ∙ ap (λ b. cond b all None) (nat_list_eq_equiv.refl name) ∙ indexed.1
