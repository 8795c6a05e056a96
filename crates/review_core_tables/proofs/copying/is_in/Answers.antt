use Rattle.std.proofs.Common.{Bor, Option, Some, None, ◌≡◌, refl, sym, ap, ◌∙◌, option_copied, is_some, bytes_eq}
use Rattle.{review_names.specs.Names.registered_users, review_core_tables.proofs.Accounts.told_in}
use Rattle.review_core_tables.proofs.copying.is_in.Goals as goal

copied_there : {X : Type 0} (o : Option (Bor X)) → is_some o ≡ is_some (option_copied o)
copied_there None = refl
copied_there (Some x) = refl

pub returns-in-Some : goal.returns-in-Some
returns-in-Some c =
    let a = c.args in
    told_in a.groups.now a.group.now a.account (Some c.in-Some.members.now) c.is_some.result
    (ap (λ t. bytes_eq t registered_users) (sym c.as_str.ensures.text) ∙ (sym c.eq.ensures ∙ c.if-eq.false))
    (sym c.get.ensures ∙ ap option_copied c.in-Some.is)
    (c.is_some.ensures ∙ (copied_there c.get-in-Some.result ∙ ap is_some c.get-in-Some.ensures))

pub returns-in-None : goal.returns-in-None
returns-in-None c =
    let a = c.args in
    told_in a.groups.now a.group.now a.account None _
    (ap (λ t. bytes_eq t registered_users) (sym c.as_str.ensures.text) ∙ (sym c.eq.ensures ∙ c.if-eq.false))
    (sym c.get.ensures ∙ ap option_copied c.in-None.is)
    refl
