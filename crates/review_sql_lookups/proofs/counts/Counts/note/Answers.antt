use Rattle.{std.proofs.Common.rules, review_table.specs.Rows.rows_of}
use Rattle.review_sql_lookups.proofs.Bounded.{grown, one_request_more, still}
use Rattle.review_sql_lookups.proofs.counts.Counts.note.Goals as goal

pub returns-in-Some : goal.returns-in-Some
returns-in-Some c old new kept bounded it = record {
  requests_are = one_request_more c.args.delta.now kept old new c.with_request-self.result (c.with_request-self.ensures old.requests bounded.requests_are) it;
  projects_are = c.noted-self.ensures old new kept bounded.projects_are it;
  bases_are = c.note_one.ensures old new bounded.bases_are (grown c.args.delta.now c.in-Some.put kept old new (search rules) it);
}

pub returns-in_default : goal.returns-in_default
returns-in_default c old new kept bounded it = record {
  requests_are = one_request_more c.args.delta.now kept old new c.with_request-self.result (c.with_request-self.ensures old.requests bounded.requests_are) it;
  projects_are = c.noted-self.ensures old new kept bounded.projects_are it;
  bases_are = still (rows_of c.args.self.now.bases) c.args.delta.now kept old new (search rules) it bounded.bases_are;
}
