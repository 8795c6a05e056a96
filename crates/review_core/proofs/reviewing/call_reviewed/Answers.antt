use Rattle.std.proofs.Common.{◌≡◌, ℕ, Bool, Option, ◌==◌, ◌&&◌, ◌||◌, not, ◌∙◌, ap, None}
use Rattle.std.{proofs.lemmas.Result.IfOk-weaker, specs.List.list_any, specs.Prelude.if◌then◌else◌}
use Rattle.review_core_rules.specs.Change.{is_open, kept_or, why_commented, why_replied}
use Rattle.review_core_rules.specs.{EditedRows.edited_account, declared.rows.Why.Why}
use Rattle.review_core.proofs.reviewing.call_reviewed.Goals as goal

pub returns-clause-called : goal.returns-clause-called
returns-clause-called c =
    let who = c.args.who.now in
    let now = c.call_all.new.attention in
    let old = c.args.attention.now in
    let by_state : Bool → ℕ → Option Why = λ b u. if b then why_replied c.args.stored.now c.args.given.now who.caller who.owner who.uploader u else why_commented c.args.new.now who.caller who.owner u in
    let among : ℕ → Bool = λ u. list_any (λ x. x == u) c.args.accounts.now in
    IfOk-weaker c.call_all.result
    (λ x. (u : ℕ) → edited_account now u ≡ kept_or (edited_account c.drop_called.new.attention u) (if among u then by_state c.is_open.result u else None) c.args.request)
    (λ x. (u : ℕ) → edited_account now u ≡ kept_or (if (who.caller == u) && (not (is_open c.args.state) || not who.wip) then None else edited_account old u) (if among u then by_state (is_open c.args.state) u else None) c.args.request)
    (λ x called u. called u ∙ (λ j. kept_or ((c.in_ok-drop_called.ensures.called u ∙ ap (λ b. if (who.caller == u) && b then None else edited_account old u) c.leaves-is_gone.ensures) j) (if among u then by_state (c.is_open.ensures j) u else None) c.args.request))
    c.call_all.ensures.called
