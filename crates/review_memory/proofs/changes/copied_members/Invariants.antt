use Rattle.{std.proofs.Common.◌≡◌, std.proofs.Common.take, std.specs.List.All, review_memory.specs.Desk.IsNumber}
use Rattle.review_memory.proofs.changes.copied_members.Given as goal

abbrev pub invariant-loop-change : goal.invariant-loop-change
invariant-loop-change l = record {
  copied : l.copies.items ≡ take l.change-index l.changes;
  numbered : All (λ c. IsNumber c.key.account) (take l.change-index l.changes);
}
