use Rattle.std.proofs.Common.{◌≡◌, ◌∙◌, sym, ap, subst, rules, pos, true, false, ◌&&◌, ◌||◌, int_eq, IfOk}
use Rattle.{std.specs.List.list_any, review_file_rules.specs.Rights.grants_of, review_machine_rows.specs.Desks.in_rows}
use Rattle.review_machine_changes.{proofs.Ranged.within, specs.inner.Done.reaches}
use Rattle.review_machine_changes.proofs.ranges.is_in_range.Goals as goal

pub returns-then-given-eq0 : goal.returns-then-given-eq0
returns-then-given-eq0 c =
    let a = c.args in
    let grants = grants_of a.file.now a.given.now.label in
    let is_zero : int_eq a.given.now.value (pos 0) ≡ true = search rules in
    sym (within (λ x. in_rows a.rows.now a.account x.group) a.given.now.value grants
    ∙ ap (λ b. b || list_any (λ x. reaches a.given.now.value x && in_rows a.rows.now a.account x.group) grants) is_zero)

pub returns : goal.returns
returns c =
    let a = c.args in
    let grants = grants_of a.file.now a.given.now.label in
    let is_zero : int_eq a.given.now.value (pos 0) ≡ false = search rules in
    let granted : IfOk c.is_granted.result (λ b. b ≡ list_any (λ x. reaches a.given.now.value x && in_rows a.rows.now a.account x.group) c.grants_of.result.now) = search rules in
    subst (λ is. IfOk c.is_granted.result (λ b. b ≡ is))
    (ap (list_any (λ x. reaches a.given.now.value x && in_rows a.rows.now a.account x.group)) c.grants_of.ensures
    ∙ sym (within (λ x. in_rows a.rows.now a.account x.group) a.given.now.value grants
    ∙ ap (λ b. b || list_any (λ x. reaches a.given.now.value x && in_rows a.rows.now a.account x.group) grants) is_zero))
    granted
