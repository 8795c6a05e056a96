use Rattle.review_sql_tables.proofs.Common.{sym, subst, state, desk_schema, schema_0, schema_1, schema_2, Grows, Migrates, Moves, projects_move, Within, schema_at}
use Rattle.review_sql_tables.proofs.Migrated.{grows, grows_second}
use Rattle.review_sql_tables.proofs.Sequences.{Next, follow, retold}
use Rattle.review_sql_tables.specs.declared.versions.EarlierVersion.TheVariants as earlier
use Rattle.review_sql_tables.proofs.creating.create_tables.Goals as goal

pub returns-in-Second-clause-ran : goal.returns-in-Second-clause-ran
returns-in-Second-clause-ran g c =
    let s0 = state g.S.Store c.args.tx.now.conn.now in
    let s2 = state g.S.Store c.move_projects.new.tx.conn.now in
    let both = follow _ _ s0 _ s2 _ _ c.in_ok-make_first_tables.ensures.ran c.move_projects.ensures.ran in
    subst (λ v. Within (Grows schema_0 (schema_at v)) s0 s2 c.move_projects.result) (sym c.in-Second.is)
    (retold (Next (Grows schema_0 schema_1) (Moves projects_move)) (Grows schema_0 schema_2) s0 s2 c.move_projects.result grows_second both)

pub returns-in-Third-clause-ran : goal.returns-in-Third-clause-ran
returns-in-Third-clause-ran g c =
    let s0 = state g.S.Store c.args.tx.now.conn.now in
    let s2 = state g.S.Store c.migrate_tables.new.tx.conn.now in
    let both = follow _ _ s0 _ s2 _ _ c.in_ok-make_first_tables.ensures.ran c.migrate_tables.ensures.ran in
    subst (λ v. Within (Grows schema_0 (schema_at v)) s0 s2 c.migrate_tables.result) (sym c.in-Third.is)
    (retold (Next (Grows schema_0 schema_1) (Migrates earlier.First)) (Grows schema_0 desk_schema) s0 s2 c.migrate_tables.result grows both)
