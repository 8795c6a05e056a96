use Rattle.review_sql_tables.proofs.Common.{rules, ◌≡◌, ◌∙◌, ◌-◌, suc, drop, get_or, ◌∷◌, Ok, Err, subst, sym, arith, drop-cons, state, SetsParts, SetsRow, Inside}
use Rattle.review_sql_tables.proofs.Sequences.{next, stop}
use Rattle.review_sql_tables.proofs.fronts.change_parts.Goals as goal

pub loop-left-preserved : goal.loop-left-preserved
loop-left-preserved g c =
    let inv = c.loop-left.invariant in
    let xs = c.args.changes.now in
    let left = c.loop-left.left in
    let item = c.index-changes-left.result in
    let is : get_or xs (left - 1) item ≡ item = search rules in
    let up : suc (left - 1) ≡ left = omega (arith, c.loop-left-test.true) in
    let split : drop (left - 1) xs ≡ item ∷ drop left xs = drop-cons xs (left - 1) item (omega (arith, c.loop-left-test.true, inv.within)) ∙ (λ i. is i ∷ drop (up i) xs) in
    let a = state g.S.Store c.args.tx.now.conn.now in
    let m = state g.S.Store c.loop-left.tx.conn.now in
    let b = state g.S.Store c.change.new.tx.conn.now in
    let same : c.in_ok-copy.field-0 ≡ item.key = search rules in
    let set = subst (λ k. Inside (SetsRow g.T.Record.table.search (c.args.owner.now, k) item.row) m b (Ok c.in_ok-change.field-0)) same c.in_ok-change.ensures.ran in
    let both = next _ _ a m b _ _ inv.ran set in
    record {
      within = omega (arith, inv.within);
      reference = c.change.ensures.same_reference ∙ inv.reference;
      ran = subst (λ cs. Inside (SetsParts g.T.Record.table.search c.args.owner.now cs) a b (Ok (tt {0}))) (sym split) both;
    }

pub returns-in_err-change-clause-ran : goal.returns-in_err-change-clause-ran
returns-in_err-change-clause-ran g c =
    let a = state g.S.Store c.args.tx.now.conn.now in
    let b = state g.S.Store c.change.new.tx.conn.now in
    let is : c.from_residual-in_err-change.result ≡ Err c.in_err-change.field-0.0 = search rules in
    let both = next _ _ a _ b _ _ c.loop-left.invariant.ran c.in_err-change.ensures.ran in
    subst (Inside (SetsParts g.T.Record.table.search c.args.owner.now c.args.changes.now) a b) (sym is) (stop _ _ a b _ _ both)
