use Rattle.review_sql_tables.proofs.Common.{rules, ◌≡◌, false, inl, subst, clean_if_open, Database, state}
use Rattle.review_sql_tables.specs.declared.versions.TablesVersion.TheVariants.{Third}
use Rattle.review_sql.{proofs.Peeking.lacking, specs.Opened.ShowsDesk}
use Rattle.review_sql.proofs.opening.ask.Goals as goal

pub returns-in-Ok-false-clause-lacking : goal.returns-in-Ok-false-clause-lacking
returns-in-Ok-false-clause-lacking g c is_open =
    let last = c.is_understood.new.conn in
    let missing : c.in-Ok-false.field-0 ≡ false = search rules in
    lacking (state g.S.Store c.args.conn.now) Third (inl (c.in-Ok-false.ensures.unknown (clean_if_open (g.S.Store.view last.store) (g.met.S.Store.shut_if_dirty last.store) is_open) missing))

pub returns-in-Ok-clause-said : goal.returns-in-Ok-clause-said
returns-in-Ok-clause-said g c is_open =
    let last = c.desk_rows.new.conn in
    let back = c.in-Ok.ensures.stays.kept is_open in
    let first = c.is_understood.ensures.stays.kept back.0 in
    let shown = c.in-Ok.ensures.shown (clean_if_open (g.S.Store.view last.store) (g.met.S.Store.shut_if_dirty last.store) is_open) in
    record {
      rows = c.deref.result.now;
      shown = subst (λ (db : Database). ShowsDesk db c.deref.result.now) first.1 (search (rules, shown, c.deref.ensures.value));
      version_is = c.said_by.ensures.version;
      requests_are = c.said_by.ensures.requests;
    }
