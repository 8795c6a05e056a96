use Rattle.std.proofs.Common.{◌∙◌, ap, subst, sym}
use Rattle.review_machine_rows.proofs.Common.{Included, IsLastJoined, nat_cmp, range_contains, row_in, rows_of}
use Rattle.review_memory_rows.proofs.Joined.{last_joined, none_joined}
use Rattle.review_memory_rows.specs.Kept.{is_placed, place_cmp, row_of, KeptView}
use Rattle.review_memory_rows.proofs.kept.KeptChanges.last_joined.Goals as goal

pub returns-in_default : goal.returns-in_default
returns-in_default c =
    let key = c.args.branch.now in
    subst (λ (v : KeptView). IsLastJoined (row_of (rows_of v.kept)) key 0) c.self.view_is
    (none_joined (rows_of c.self.inside.kept) (rows_of c.self.inside.placed) c.self.invariant.by_place key
    (λ q within. c.in_default.ensures.none q ((λ i. range_contains place_cmp (Included (c.in_ok-from.ensures i)) (Included (c.in_ok-to.ensures i)) q) ∙ within)))

pub returns-then-has_place : goal.returns-then-has_place
returns-then-has_place c =
    let key = c.args.branch.now in
    let k = c.in-Some.key.now in
    subst (λ (v : KeptView). IsLastJoined (row_of (rows_of v.kept)) key k.place) c.self.view_is
    (last_joined (rows_of c.self.inside.kept) (rows_of c.self.inside.placed) c.self.invariant.by_place key k ((λ i. range_contains place_cmp (Included (sym c.in_ok-from.ensures i)) (Included (sym c.in_ok-to.ensures i)) k) ∙ c.in-Some.ensures.within)
    (ap (λ (v : KeptView). is_placed (row_in nat_cmp (rows_of v.kept) k.change) key k.place) c.self.view_is ∙ sym c.has_place.ensures ∙ c.if-has_place.true)
    (λ q less within. c.in-Some.ensures.above q less ((λ i. range_contains place_cmp (Included (c.in_ok-from.ensures i)) (Included (c.in_ok-to.ensures i)) q) ∙ within)))
