use Rattle.std.proofs.Common.{◌≡◌, subst, Some}
use Rattle.{review_table.specs.Rows.row_in, review_table.specs.Rows.rows_of, review_machine_rows.proofs.Looked.All-step}
use Rattle.review_memory.proofs.First.{WithRow, put_keeps, put_only, with_row_here}
use Rattle.review_memory.specs.{Desk.name_cmp, declared.keys.NameKey.NameKey}
use Rattle.review_memory.proofs.tables.MemoryTables.list_names.Goals as goal

pub loop-key-preserved : goal.loop-key-preserved
loop-key-preserved c =
    let old = rows_of c.loop-key.self.names in
    let new = rows_of c.put.new.self in
    let key = c.key-item.result in
    let with : WithRow old key (Some tt) new = subst (λ k. WithRow old k (Some tt) new) c.in_ok-copy.ensures c.in_ok-put.ensures.ok in
    let keeps = put_keeps old new key with in
    record {
      same = c.loop-key.invariant.same;
      kept = λ q there. keeps q (c.loop-key.invariant.kept q there);
      only = put_only (rows_of c.args.self.now.names) old new c.args.names.now c.loop-key.key-index key c.loop-key-test.true c.key-item.is with c.loop-key.invariant.only;
      filled = λ full. let was = c.loop-key.invariant.filled full in record {
        accounts = was.accounts;
        names = c.put.ensures.kept was.names;
        members = was.members;
        files = was.files;
        changes = was.changes;
        answers = was.answers;
      };
      listed = All-step (λ (k : NameKey). row_in name_cmp old k ≡ Some tt) (λ (k : NameKey). row_in name_cmp new k ≡ Some tt)
          c.args.names.now c.loop-key.key-index key c.loop-key-test.true c.key-item.is keeps c.loop-key.invariant.listed (with_row_here old new key (Some tt) with);
    }

pub returns-in_err-put-clause-filled : goal.returns-in_err-put-clause-filled
returns-in_err-put-clause-filled c = λ full. let was = c.loop-key.invariant.filled full in record {
  accounts = was.accounts;
  names = c.in_err-put.ensures.kept was.names;
  members = was.members;
  files = was.files;
  changes = was.changes;
  answers = was.answers;
}
