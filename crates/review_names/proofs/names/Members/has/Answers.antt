use Rattle.std.proofs.Common.{◌==◌, ap, sym, subst, ◌∙◌, nat_cmp}
use Rattle.{std.specs.List.list_any, std.specs.List.Sorted.IsStrictlySortedBy, review_names.proofs.Searches.found}
use Rattle.review_names.proofs.names.Members.has.Goals as goal

pub returns : goal.returns
returns c =
    let same = c.as_slice.ensures.accounts in
    let sorted = subst (IsStrictlySortedBy nat_cmp) (sym same) c.as_slice.ensures.ordered in
    c.is_ok.ensures.value
    ∙ (found c.as_slice.result.now c.args.account _ sorted c.binary_search.ensures.position ∙ ap (list_any (λ n. n == c.args.account)) same)
