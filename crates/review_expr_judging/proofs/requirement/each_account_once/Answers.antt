use Rattle.std.proofs.Common.{rules, ◌≡◌, None, sym, subst}
use Rattle.std.specs.{BTreeMap.get, Cmp.Lexicographic.slice_cmp, List.Sorted.IsStrictlySortedBy, Map.keys_of}
use Rattle.{std.specs.Ordering.nat_cmp, review_expr_judging.specs.Holds.votes_on}
use Rattle.review_expr_judging.proofs.requirement.each_account_once.Goals as goal

pub returns-in_default : goal.returns-in_default
unfolding IsStrictlySortedBy
returns-in_default c =
    let none : get (slice_cmp nat_cmp) c.args.facts.now.votes c.args.label.now ≡ None = search rules in
    subst (λ o. IsStrictlySortedBy nat_cmp (keys_of (votes_on o))) (sym none) tt
