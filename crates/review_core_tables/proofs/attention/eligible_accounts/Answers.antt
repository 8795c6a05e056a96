use Rattle.std.proofs.Common.{◌≡◌, ℕ, Bool, ◌++◌, ◌∷◌, ◌||◌, ◌==◌, ◌∙◌, ap, sym, map, append-nil, arith}
use Rattle.std.{proofs.lemmas.List.at_drop_all, specs.List.filter, specs.List.list_any, specs.Prelude.is_some}
use Rattle.review_core_rules.specs.EditedRows.{edited_account}
use Rattle.review_core_tables.proofs.Accounts.{has_role as role_there}
use Rattle.review_core_tables.proofs.attention.eligible_accounts.Goals as goal

pub returns : goal.returns
returns c = λ u.
    let items = c.deref-account-items.result.now in
    let accounts = c.loop-account.accounts.items in
    let has_role : ℕ → Bool = λ v. is_some (edited_account c.args.roles.now v) in
    let whole : accounts ≡ c.args.owner ∷ c.args.uploader ∷ filter has_role (map (λ k. k.now) items) =
    sym (append-nil accounts) ∙ (sym (at_drop_all (λ xs. accounts ++ filter has_role (map (λ k. k.now) xs)) items c.loop-account.account-index (omega arith)) ∙ c.loop-account.invariant) in
    ap (list_any (λ x. x == u)) whole
    ∙ ap (λ b. (c.args.owner == u) || ((c.args.uploader == u) || b))
    (ap (λ xs. list_any (λ x. x == u) (filter has_role (map (λ k. k.now) xs))) c.deref-account-items.ensures.value ∙ role_there has_role u (map (λ k. k.now) c.in_ok-keys.keys.items) (λ some. c.in_ok-keys.ensures u some))
