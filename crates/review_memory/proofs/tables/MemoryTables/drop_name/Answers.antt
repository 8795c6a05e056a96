use Rattle.std.proofs.Common.{◌∙◌, sym, None}
use Rattle.{std.specs.BTreeMap.is_at, review_table.specs.Rows.rows_of, review_memory_rows.proofs.Based.none_spare}
use Rattle.review_memory.proofs.First.{remove_indexed, remove_adds_none, with_row_here}
use Rattle.review_memory.specs.Desk.{name_cmp}
use Rattle.review_memory.proofs.tables.MemoryTables.drop_name.Goals as goal

pub returns-then-not-has_name-clause-indexed : goal.returns-then-not-has_name-clause-indexed
returns-then-not-has_name-clause-indexed c = λ indexed.
    let key = c.args.key.now in
    remove_indexed (rows_of c.args.self.now.accounts) (rows_of c.args.self.now.names) (rows_of c.remove.new.self) key
    (λ has. let yes = c.has_name.ensures.1 has in let no = c.if-not-has_name.true in absurd (cc)) c.remove.ensures.rows indexed

pub returns-then-not-has_name-clause-no_more : goal.returns-then-not-has_name-clause-no_more
returns-then-not-has_name-clause-no_more c = remove_adds_none (rows_of c.args.self.now.names) (rows_of c.remove.new.self) c.args.key.now c.remove.ensures.rows

pub returns-then-not-has_name-clause-dropped : goal.returns-then-not-has_name-clause-dropped
returns-then-not-has_name-clause-dropped c = λ there.
    let gone = sym (with_row_here (rows_of c.args.self.now.names) (rows_of c.remove.new.self) c.args.key.now None c.remove.ensures.rows) ∙ there in absurd (cc)

pub returns-then-not-has_name-clause-filled : goal.returns-then-not-has_name-clause-filled
returns-then-not-has_name-clause-filled c = λ full. record {
  accounts = full.accounts;
  names = c.remove.ensures.mended (none_spare name_cmp (is_at (name_cmp c.args.key.now)) c.args.self.now.names full.names);
  members = full.members;
  files = full.files;
  changes = full.changes;
  answers = full.answers;
}
