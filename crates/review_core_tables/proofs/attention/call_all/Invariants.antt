use Rattle.std.proofs.Common.{◌≡◌, ℕ, drop}
use Rattle.{review_core_rules.specs.EditedRows.edited_account, review_core_tables.specs.inner.Words.called_among}
use Rattle.review_core_tables.proofs.attention.call_all.Given as goal

abbrev pub invariant-loop-account : goal.invariant-loop-account
invariant-loop-account g l = record {
  table : l.attention.rows ≡ l.fn.attention.rows;
  called : (u : ℕ) → called_among (drop l.account-index l.accounts) (g.R.Rule.calls l.rule u) l.request u (edited_account l.attention u) ≡ called_among l.accounts (g.R.Rule.calls l.rule u) l.request u (edited_account l.fn.attention u);
}
