use Rattle.std.proofs.Common.{◌≡◌, ◌∙◌, ◌||◌, ◌==◌, ◌&&◌, Bool, true, false, ap, not, refl, sym}
use Rattle.std.specs.{List.list_any, Prelude.is_some}
use Rattle.{review_core_rules.specs.EditedRows.edited_account, review_core_tables.proofs.Accounts.any_but}
use Rattle.review_core_tables.proofs.attention.callable.Goals as goal

nobody : (e b : Bool) → false ≡ (e && (b && false))
nobody true true = refl
nobody true false = refl
nobody false b = refl

all_but : (e b : Bool) → (e && b) ≡ (e && (b && true))
all_but true true = refl
all_but true false = refl
all_but false b = refl

pub returns-then-who : goal.returns-then-who
returns-then-who c = λ u.
    let w = c.args.who.now in
    let e = (w.owner == u) || ((w.uploader == u) || is_some (edited_account c.args.roles.now u)) in
    ap (list_any (λ x. x == u)) c.new.ensures.items ∙ (nobody e (not (w.caller == u)) ∙ ap (λ b. e && (not (w.caller == u) && not b)) (sym c.if-who.true))

pub returns : goal.returns
returns c = λ u.
    let w = c.args.who.now in
    let e = (w.owner == u) || ((w.uploader == u) || is_some (edited_account c.args.roles.now u)) in
    ap (list_any (λ x. x == u)) c.drop_caller.ensures ∙ (any_but w.caller u c.in_ok-accounts.accounts.items ∙ (ap (λ b. b && not (w.caller == u)) (c.in_ok-accounts.ensures u)
    ∙ (all_but e (not (w.caller == u)) ∙ ap (λ b. e && (not (w.caller == u) && not b)) (sym c.if-who.false))))
