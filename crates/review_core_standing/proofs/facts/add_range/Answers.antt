use Rattle.std.proofs.Common.{◌≡◌, ◌∙◌, Some, cond, sym, ap, rules, to_z, of_z, w8}
use Rattle.std.specs.{BTreeMap.get, BTreeMap.is_at, Cmp.Lexicographic.slice_cmp, Ordering.nat_cmp, Prelude.is_some}
use Rattle.{review_core_rules.specs.Change.range_of, review_core_standing.proofs.Made.range_new}
use Rattle.review_core_standing.proofs.facts.add_range.Goals as goal

pub returns : goal.returns
returns c =
    let old = c.args.ranges.now in
    let name = c.args.label.now.name in
    let none = ap (λ n. is_some (get (slice_cmp nat_cmp) old n)) (sym c.name.ensures) ∙ (sym c.contains_key.ensures ∙ c.if-contains_key.false) in
    let key = c.in_ok-name.ensures ∙ c.name-2.ensures in
    let least : to_z w8 (of_z w8 c.least.result) ≡ c.least.result = search rules in
    let greatest : to_z w8 (of_z w8 c.greatest.result) ≡ c.greatest.result = search rules in
    range_new old c.insert.new.self name (range_of c.args.label.now) none
    (λ q. c.in_ok-insert.ensures.updates.0 q
    ∙ (λ i. cond (is_at (slice_cmp nat_cmp (key i)) q) (Some (record { least = (least ∙ c.least.ensures.least) i; greatest = (greatest ∙ c.greatest.ensures.greatest) i })) (get (slice_cmp nat_cmp) old q)))
