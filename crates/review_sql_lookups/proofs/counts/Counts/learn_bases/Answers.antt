use Rattle.{review_table.specs.Rows.rows_of, review_machine_rows.specs.Rows.BasesOf}
use Rattle.review_sql_lookups.proofs.Bounded.{learnt}
use Rattle.review_sql_lookups.proofs.counts.Counts.learn_bases.Goals as goal

pub returns-then-count-gt0 : goal.returns-then-count-gt0
returns-then-count-gt0 c t bounded is =
    let project = c.args.project.now in
    record {
      requests_are = bounded.requests_are;
      projects_are = bounded.projects_are;
      bases_are = learnt (rows_of c.args.self.now.bases) (rows_of c.set.new.bases) project c.of.result c.set.result c.set.ensures.put c.set.ensures.same t bounded.bases_are (c.of.ensures (t.count (BasesOf project)) is);
    }
