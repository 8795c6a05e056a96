use Rattle.std.proofs.Common.{Some, ◌≡◌, sym, ap, ◌∙◌, subst, IfOk, rules, w8, to_z, of_z, option_copied}
use Rattle.review_core_rules.specs.Change.{condition_holds}
use Rattle.review_core_tables.proofs.Compiled.{copied_never, copied_none, copied_where}
use Rattle.review_core_tables.specs.Copies.{with_groups}
use Rattle.review_core_tables.proofs.copying.is_copied.Goals as goal

pub returns-in_default-clause-holds : goal.returns-in_default-clause-holds
returns-in_default-clause-holds c =
    let a = c.args in
    copied_none a.conditions.now.file.now (with_groups a.facts.now a.groups.now) a.key.now.label a.key.now.account a.value c.deref.result.now
    (rw c.deref.ensures.value a.conditions.now.compiled) (sym (ap option_copied c.in_default.is) ∙ c.condition_on.ensures)

pub returns-in_default-terms-clause-holds : goal.returns-in_default-terms-clause-holds
returns-in_default-terms-clause-holds c =
    let a = c.args in
    copied_never a.conditions.now.file.now (with_groups a.facts.now a.groups.now) a.key.now.label a.key.now.account a.value c.deref.result.now c.in-Some.condition.now
    (rw c.deref.ensures.value a.conditions.now.compiled) (sym (ap option_copied c.in-Some.is) ∙ c.condition_on.ensures) c.in_default-terms.is

pub returns-clause-holds : goal.returns-clause-holds
returns-clause-holds c =
    let a = c.args in
    let value : to_z w8 (of_z w8 a.value) ≡ a.value = search rules in
    let least : to_z w8 (of_z w8 c.least.result) ≡ c.least.result = search rules in
    let greatest : to_z w8 (of_z w8 c.greatest.result) ≡ c.greatest.result = search rules in
    copied_where a.conditions.now.file.now (with_groups a.facts.now a.groups.now) a.key.now.label a.key.now.account a.value c.deref.result.now c.in-Some.condition.now c.in-Some-terms.terms c.are_met.result
    (rw c.deref.ensures.value a.conditions.now.compiled) (sym (ap option_copied c.in-Some.is) ∙ c.condition_on.ensures) c.in-Some-terms.is
    (λ e k. subst (λ x. IfOk c.are_met.result (λ b. b ≡ x))
    (λ i. condition_holds (Some e) (record (with_groups a.facts.now a.groups.now) { value = value i; voter = a.key.now.account; range = record { least = (least ∙ c.least.ensures.least) i; greatest = (greatest ∙ c.greatest.ensures.greatest) i } }))
    (c.are_met.ensures e k))
