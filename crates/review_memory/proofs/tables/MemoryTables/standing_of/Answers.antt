use Rattle.std.proofs.Common.{ℕ, subst}
use Rattle.{std.specs.Prelude.MatchBool, review_machine_rows.specs.Known.IsMergedWith}
use Rattle.review_memory_rows.specs.{Bases.IsCommitThere, Kept.row_of as kept_row, Kept.IsSentIn}
use Rattle.review_memory.proofs.Changed.{nowhere_here, outside_here, patch_set_here}
use Rattle.review_memory.specs.Desk.{desk_of}
use Rattle.review_memory.proofs.tables.MemoryTables.standing_of.Goals as goal

pub returns-in_default : goal.returns-in_default
returns-in_default c =
    let desk = desk_of c.args.self.now in
    let base = c.args.base.now in
    let Is = IsMergedWith (kept_row desk.changes) base in
    nowhere_here desk base
    (outside_here desk base (subst (IsCommitThere desk.branches.bases base) c.if-branch.false c.in_ok-has.ensures)
    (subst (λ b. MatchBool b ((n : ℕ) × Is n) ((n : ℕ) → Is n → ⊥)) c.if-branch-2.false c.in_ok-is_merged.ensures))
    (subst (IsSentIn (kept_row desk.changes) base) c.in_default.is c.in_ok-sent.ensures)

pub returns : goal.returns
returns c =
    let desk = desk_of c.args.self.now in
    let base = c.args.base.now in
    let Is = IsMergedWith (kept_row desk.changes) base in
    patch_set_here desk base c.in-Some.sent
    (outside_here desk base (subst (IsCommitThere desk.branches.bases base) c.if-branch.false c.in_ok-has.ensures)
    (subst (λ b. MatchBool b ((n : ℕ) × Is n) ((n : ℕ) → Is n → ⊥)) c.if-branch-2.false c.in_ok-is_merged.ensures))
    (subst (IsSentIn (kept_row desk.changes) base) c.in-Some.is c.in_ok-sent.ensures)
