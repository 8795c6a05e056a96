use Rattle.std.proofs.Common.{◌≡◌, ◌++◌, ◌∷◌, drop, map, filter, is_some}
use Rattle.review_core_rules.specs.EditedRows.{edited_account}
use Rattle.review_core_tables.proofs.attention.eligible_accounts.Given as goal

abbrev pub invariant-loop-account : goal.invariant-loop-account
invariant-loop-account l = l.accounts.items ++ filter (λ u. is_some (edited_account l.roles u)) (map (λ k. k.now) (drop l.account-index l.account-items)) ≡ l.fn.owner ∷ l.fn.uploader ∷ filter (λ u. is_some (edited_account l.roles u)) (map (λ k. k.now) l.account-items)
