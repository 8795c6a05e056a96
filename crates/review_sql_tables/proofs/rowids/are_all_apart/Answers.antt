use Rattle.review_sql_tables.proofs.Common.{◌≡◌, ◌∙◌, ◌+◌, ◌&&◌, suc, take, Bool, Ok, subst, arith, Decides, state, Trees, desk_tables, Looks, table_at}
use Rattle.review_sql_tables.proofs.{Found.look_on, Found.look_both, Ids.Apart, Ids.decides_more}
use Rattle.review_sql_tables.proofs.rowids.are_all_apart.Goals as goal

pub loop-at-init : goal.loop-at-init
loop-at-init g c = record { within = omega arith; reference = c.are_apart.ensures.same_reference; looks = c.in_ok-are.ensures.looks }

pub loop-at-preserved : goal.loop-at-preserved
loop-at-preserved g c =
    let s0 = state g.S.Store c.args.tx.now.conn.now in
    let s2 = state g.S.Store c.are_apart-in-loop-at.new.tx.conn.now in
    let at = c.loop-at.at in
    let up : suc at ≡ at + 1 = omega arith in
    let F : Trees → Bool → Type 0 = λ db is. Decides is (Apart db (take at desk_tables)) in
    let G : Trees → Bool → Type 0 = λ db is. Decides is (Apart db (table_at at)) in
    let a = c.loop-at.are in
    let b = c.in_ok-are-2.field-0 in
    let both = look_both F G s0 _ s2 a (Ok b) c.loop-at.invariant.looks c.in_ok-are-2.ensures.looks in
    let all = look_on (λ db y. F db a × G db y) (λ db is. Decides is (Apart db (take (suc at) desk_tables))) s0 s2 b (Ok (a && b)) both (λ db h. decides_more at db a b h.0 h.1) in
    record {
      within = omega (arith, c.loop-at-test.true);
      reference = c.are_apart-in-loop-at.ensures.same_reference ∙ c.loop-at.invariant.reference;
      looks = subst (λ n. Looks (λ db is. Decides is (Apart db (take n desk_tables))) s0 s2 (Ok (a && b))) up all;
    }

pub returns-clause-looks : goal.returns-clause-looks
returns-clause-looks g c =
    let whole : c.loop-at.at ≡ 13 = omega (arith, c.loop-at-test.false, c.loop-at.invariant.within) in
    subst (λ n. Looks (λ db is. Decides is (Apart db (take n desk_tables))) (state g.S.Store c.args.tx.now.conn.now) (state g.S.Store c.loop-at.tx.conn.now) (Ok c.loop-at.are)) whole c.loop-at.invariant.looks
