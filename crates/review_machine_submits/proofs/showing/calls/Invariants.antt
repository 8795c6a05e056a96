use Rattle.std.proofs.Common.{◌≡◌, ◌++◌, drop, map}
use Rattle.{std.specs.Map.Iter.deref_pair, review_core_rules.specs.Shown.shown_attention_entry}
use Rattle.review_machine_submits.proofs.showing.calls.Given as goal

abbrev pub invariant-loop-account : goal.invariant-loop-account
invariant-loop-account l = l.shown.items ++ map shown_attention_entry (map deref_pair (drop l.account-index l.rows)) ≡ map shown_attention_entry (map deref_pair l.rows)
