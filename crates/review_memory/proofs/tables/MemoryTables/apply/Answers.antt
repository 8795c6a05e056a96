use Rattle.std.{proofs.Common.refl, specs.Cmp.Lexicographic.slice_cmp, specs.Ordering.nat_cmp}
use Rattle.{review_machine_rows.specs.Rows.member_cmp, review_memory.proofs.Lower.removed_only}
use Rattle.review_memory.proofs.tables.MemoryTables.apply.Goals as goal

pub returns-clause-done : goal.returns-clause-done
returns-clause-done c = record {
  accounts = c.apply.ensures.all c.requires.room.accounts;
  members = c.apply-2.ensures.all c.requires.room.members;
  files = c.apply-3.ensures.all c.requires.room.files;
  edits = c.apply-4.ensures.done;
  projects_are = refl;
  least = refl;
  requests = refl;
}

pub returns-clause-spare : goal.returns-clause-spare
returns-clause-spare c = λ only. record {
  accounts = removed_only nat_cmp c.args.changes.accounts.items c.args.self.now.accounts c.apply.new.self c.apply.ensures.each only.accounts;
  names = only.names;
  members = removed_only member_cmp c.args.changes.members.items c.args.self.now.members c.apply-2.new.self c.apply-2.ensures.each only.members;
  files = removed_only (slice_cmp nat_cmp) c.args.changes.files.items c.args.self.now.files c.apply-3.new.self c.apply-3.ensures.each only.files;
  edits = c.apply-4.ensures.full only.edits;
  answers = only.answers;
}
