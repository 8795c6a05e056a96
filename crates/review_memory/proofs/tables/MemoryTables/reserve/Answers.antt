use Rattle.std.proofs.Common.{subst}
use Rattle.review_machine_rows.proofs.Common.{HasEmptyOnly, HavePlaces, is_named, member_cmp, nat_cmp, slice_cmp}
use Rattle.{review_memory_rows.proofs.Based.none_spare, review_memory.proofs.Lower.none_spare_of_edits}
use Rattle.review_memory.proofs.tables.MemoryTables.reserve.Goals as goal

pub returns-clause-room : goal.returns-clause-room
returns-clause-room c = record {
  accounts = subst (HavePlaces nat_cmp c.reserve_all.new.self) c.deref.ensures.value c.in_ok-reserve_all.ensures.ok;
  members = subst (HavePlaces member_cmp c.reserve_all-2.new.self) c.deref-2.ensures.value c.in_ok-reserve_all-2.ensures.ok;
  files = subst (HavePlaces (slice_cmp nat_cmp) c.reserve_all-3.new.self) c.deref-3.ensures.value c.in_ok-reserve_all-3.ensures.ok;
  edits = c.in_ok-reserve.ensures.room;
}

pub returns-in_err-list_names-clause-spare : goal.returns-in_err-list_names-clause-spare
returns-in_err-list_names-clause-spare c = λ full. let was = c.list_names.ensures.filled full in record {
  accounts = none_spare nat_cmp (is_named nat_cmp c.args.changes.now.accounts.items) c.list_names.new.self.accounts was.accounts;
  names = was.names;
  members = none_spare member_cmp (is_named member_cmp c.args.changes.now.members.items) c.list_names.new.self.members was.members;
  files = none_spare (slice_cmp nat_cmp) (is_named (slice_cmp nat_cmp) c.args.changes.now.files.items) c.list_names.new.self.files was.files;
  edits = none_spare_of_edits c.args.changes.now.edits c.list_names.new.self.changes was.changes;
  answers = was.answers;
}

pub returns-in_err-reserve_all-clause-spare : goal.returns-in_err-reserve_all-clause-spare
returns-in_err-reserve_all-clause-spare c = λ full. let was = c.list_names.ensures.filled full in record {
  accounts = subst (λ cs. HasEmptyOnly nat_cmp (is_named nat_cmp cs) c.reserve_all.new.self) c.deref.ensures.value (c.reserve_all.ensures.only was.accounts);
  names = was.names;
  members = none_spare member_cmp (is_named member_cmp c.args.changes.now.members.items) c.list_names.new.self.members was.members;
  files = none_spare (slice_cmp nat_cmp) (is_named (slice_cmp nat_cmp) c.args.changes.now.files.items) c.list_names.new.self.files was.files;
  edits = none_spare_of_edits c.args.changes.now.edits c.list_names.new.self.changes was.changes;
  answers = was.answers;
}

pub returns-in_err-reserve_all-2-clause-spare : goal.returns-in_err-reserve_all-2-clause-spare
returns-in_err-reserve_all-2-clause-spare c = λ full. let was = c.list_names.ensures.filled full in record {
  accounts = subst (λ cs. HasEmptyOnly nat_cmp (is_named nat_cmp cs) c.reserve_all.new.self) c.deref.ensures.value (c.reserve_all.ensures.only was.accounts);
  names = was.names;
  members = subst (λ cs. HasEmptyOnly member_cmp (is_named member_cmp cs) c.reserve_all-2.new.self) c.deref-2.ensures.value (c.reserve_all-2.ensures.only was.members);
  files = none_spare (slice_cmp nat_cmp) (is_named (slice_cmp nat_cmp) c.args.changes.now.files.items) c.list_names.new.self.files was.files;
  edits = none_spare_of_edits c.args.changes.now.edits c.list_names.new.self.changes was.changes;
  answers = was.answers;
}

pub returns-in_err-reserve_all-3-clause-spare : goal.returns-in_err-reserve_all-3-clause-spare
returns-in_err-reserve_all-3-clause-spare c = λ full. let was = c.list_names.ensures.filled full in record {
  accounts = subst (λ cs. HasEmptyOnly nat_cmp (is_named nat_cmp cs) c.reserve_all.new.self) c.deref.ensures.value (c.reserve_all.ensures.only was.accounts);
  names = was.names;
  members = subst (λ cs. HasEmptyOnly member_cmp (is_named member_cmp cs) c.reserve_all-2.new.self) c.deref-2.ensures.value (c.reserve_all-2.ensures.only was.members);
  files = subst (λ cs. HasEmptyOnly (slice_cmp nat_cmp) (is_named (slice_cmp nat_cmp) cs) c.reserve_all-3.new.self) c.deref-3.ensures.value (c.reserve_all-3.ensures.only was.files);
  edits = none_spare_of_edits c.args.changes.now.edits c.list_names.new.self.changes was.changes;
  answers = was.answers;
}

pub returns-in_err-reserve-clause-spare : goal.returns-in_err-reserve-clause-spare
returns-in_err-reserve-clause-spare c = λ full. let was = c.list_names.ensures.filled full in record {
  accounts = subst (λ cs. HasEmptyOnly nat_cmp (is_named nat_cmp cs) c.reserve_all.new.self) c.deref.ensures.value (c.reserve_all.ensures.only was.accounts);
  names = was.names;
  members = subst (λ cs. HasEmptyOnly member_cmp (is_named member_cmp cs) c.reserve_all-2.new.self) c.deref-2.ensures.value (c.reserve_all-2.ensures.only was.members);
  files = subst (λ cs. HasEmptyOnly (slice_cmp nat_cmp) (is_named (slice_cmp nat_cmp) cs) c.reserve_all-3.new.self) c.deref-3.ensures.value (c.reserve_all-3.ensures.only was.files);
  edits = none_spare_of_edits c.args.changes.now.edits c.reserve.new.self (c.in_err-reserve.ensures.full was.changes);
  answers = was.answers;
}

pub returns-clause-spare : goal.returns-clause-spare
returns-clause-spare c = λ full. let was = c.list_names.ensures.filled full in record {
  accounts = subst (λ cs. HasEmptyOnly nat_cmp (is_named nat_cmp cs) c.reserve_all.new.self) c.deref.ensures.value (c.reserve_all.ensures.only was.accounts);
  names = was.names;
  members = subst (λ cs. HasEmptyOnly member_cmp (is_named member_cmp cs) c.reserve_all-2.new.self) c.deref-2.ensures.value (c.reserve_all-2.ensures.only was.members);
  files = subst (λ cs. HasEmptyOnly (slice_cmp nat_cmp) (is_named (slice_cmp nat_cmp) cs) c.reserve_all-3.new.self) c.deref-3.ensures.value (c.reserve_all-3.ensures.only was.files);
  edits = c.in_ok-reserve.ensures.spare was.changes;
  answers = was.answers;
}
