use Rattle.std.proofs.Common.{ℕ, List, Option, ◌≤◌, ap, sym, subst, arith}
use Rattle.std.specs.{Cmp.Lexicographic.slice_cmp, Ordering.nat_cmp}
use Rattle.{review_table.specs.Rows.rows_of, review_machine_change_rows.specs.declared.tables.ChangeTables.ChangeTables}
use Rattle.review_memory_rows.{proofs.Dropped.none_empty, specs.Answers.answer_cmp}
use Rattle.review_memory_rows.specs.{Bases.BranchesView, Bases.total_in, Kept.KeptView, Kept.place_cmp, Kept.sent_cmp}
use Rattle.review_memory.proofs.First.{first_in_use, first_indexed, first_numbered, first_view}
use Rattle.review_memory.proofs.tables.MemoryTables.new.Goals as goal

abbrev kept_of : KeptView → List (ℕ × Option ChangeTables)
kept_of v = v.kept

pub returns-clause-sound : goal.returns-clause-sound
returns-clause-sound c = record {
  indexed = first_indexed (rows_of c.in_ok-accounts.accounts) (rows_of c.in_ok-names.names) c.in_ok-accounts.ensures.account c.in_ok-names.ensures.name;
  numbered = first_numbered (rows_of c.in_ok-members.members) c.in_ok-members.ensures.member;
  bounded = record {
    projects = omega arith;
    bases = λ p. subst (λ (b : BranchesView). total_in b.totals p ≤ 0) (sym c.new-2.ensures) (omega arith);
  };
  in_use = first_in_use (rows_of c.in_ok-accounts.accounts) (rows_of c.in_ok-names.names) c.in_ok-accounts.ensures.account c.in_ok-names.ensures.name;
  filled = record {
    accounts = c.in_ok-accounts.ensures.filled;
    names = c.in_ok-names.ensures.filled;
    members = c.in_ok-members.ensures.filled;
    files = none_empty (slice_cmp nat_cmp) c.new.result c.new.ensures;
    changes = record {
      kept = none_empty nat_cmp c.new-3.result.kept (ap (λ (v : KeptView). v.kept) c.new-3.ensures);
      sent = none_empty sent_cmp c.new-3.result.sent (ap (λ (v : KeptView). v.sent) c.new-3.ensures);
      placed = none_empty place_cmp c.new-3.result.placed (ap (λ (v : KeptView). v.placed) c.new-3.ensures);
    };
    answers = none_empty answer_cmp c.new-4.result c.new-4.ensures;
  };
}

pub returns-clause-view : goal.returns-clause-view
returns-clause-view c = first_view (rows_of c.in_ok-accounts.accounts) (rows_of c.in_ok-members.members) _ c.in_ok-accounts.ensures.account c.in_ok-members.ensures.member
    (λ i. record {
      accounts = rows_of c.in_ok-accounts.accounts;
      members = rows_of c.in_ok-members.members;
      files = rows_of (c.new.ensures i);
      branches = c.new-2.ensures i;
      changes = rows_of (kept_of (c.new-3.ensures i));
      projects = 0;
      answers = rows_of (c.new-4.ensures i);
      least = 0;
      requests = 0;
    })
