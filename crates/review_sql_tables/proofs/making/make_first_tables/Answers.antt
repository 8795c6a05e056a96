use Rattle.review_sql_tables.proofs.Common.{◌≡◌, ◌∙◌, ◌+◌, suc, take, Ok, subst, arith, state, tables_1, schema_0, schema_of, MakesBy, Grows, Within}
use Rattle.review_sql_tables.proofs.{Made.makes_first, Made.makes_next, Sequences.follow, Sequences.settled_as}
use Rattle.review_sql_tables.proofs.making.make_first_tables.Goals as goal

pub loop-at-init : goal.loop-at-init
loop-at-init g c =
    record {
      within = omega arith;
      reference = c.run_text.ensures.same_reference;
      ran = settled_as (MakesBy c.create_text.result.now) (Grows schema_0 (schema_of (take 1 tables_1))) _ _ c.in_ok-run_text.field-0 (tt {0}) (makes_first c.create_text.result.now c.create_text.ensures) c.in_ok-run_text.ensures.makes;
      opens = c.in_ok-run_text.ensures.open;
    }

pub loop-at-preserved : goal.loop-at-preserved
loop-at-preserved g c =
    let a = state g.S.Store c.args.tx.now.conn.now in
    let b = state g.S.Store c.run_text-in-loop-at.new.tx.conn.now in
    let at = c.loop-at.at in
    let low = c.loop-at-test.true in
    let sql = c.create_text-in-loop-at.result.now in
    let up : suc at ≡ at + 1 = omega arith in
    let both = follow _ _ a _ b _ _ c.loop-at.invariant.ran c.in_ok-run_text-2.ensures.makes in
    let ran = settled_as _ (Grows schema_0 (schema_of (take (suc at) tables_1))) a b c.in_ok-run_text-2.field-0 (tt {0}) (makes_next at sql low c.create_text-in-loop-at.ensures) both in
    record {
      within = omega (arith, low);
      reference = c.run_text-in-loop-at.ensures.same_reference ∙ c.loop-at.invariant.reference;
      ran = subst (λ n. Within {X = Unit {0}} (Grows schema_0 (schema_of (take n tables_1))) a b (Ok (tt {0}))) up ran;
      opens = λ clean on. c.in_ok-run_text-2.ensures.open clean (c.loop-at.invariant.ran.kept (omega (arith, c.in_ok-run_text-2.ensures.makes.survives.clean, clean)) on).1;
    }

pub returns-clause-ran : goal.returns-clause-ran
returns-clause-ran g c =
    let whole : c.loop-at.at ≡ 12 = omega (arith, c.loop-at-test.false, c.loop-at.invariant.within) in
    subst (λ n. Within {X = Unit {0}} (Grows schema_0 (schema_of (take n tables_1))) (state g.S.Store c.args.tx.now.conn.now) (state g.S.Store c.loop-at.tx.conn.now) (Ok (tt {0}))) whole c.loop-at.invariant.ran
