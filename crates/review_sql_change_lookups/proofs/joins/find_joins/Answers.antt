use Rattle.std.proofs.Common.{◌≡◌, ◌∙◌, ◌+◌, Some, None, Ok, subst, sym, rules, arith}
use Rattle.{sqlite.specs.Held.state, review_sql_tables.proofs.Found.look_on, review_sql_tables.specs.Ran.Looks}
use Rattle.{review_machine_rows.specs.declared.rows.PlaceKey.PlaceKey, review_sql_lookups.specs.Loads.IfTold}
use Rattle.review_sql_change_lookups.proofs.Joined.{joined_all, joined_first, joined_more, joined_none, KnowsAll, KnowsLast, KnowsOne, SoFar}
use Rattle.review_sql_change_lookups.specs.Joins.{IsLastPlace}
use Rattle.review_sql_change_lookups.proofs.joins.find_joins.Goals as goal

pub loop-before-init : goal.loop-before-init
loop-before-init g c =
    let key = c.args.branch.now in
    let last = c.in-Some.last in
    let is : c.last_place.result ≡ Some last = search rules in
    let s0 = state g.S.Store c.args.tx.now.conn.now in
    let s1 = state g.S.Store c.find_greatest.new.tx.conn.now in
    record {
      reference = c.find_greatest.ensures.same_reference;
      project = c.in_ok-key.ensures.0;
      branch = c.in_ok-key.ensures.1;
      looks = subst (λ js. Looks (SoFar key last 0 js) s0 s1 (Ok (tt {0}))) (sym c.new-joined.ensures.items) (joined_first key last c.in_ok-found.found c.last_place.result s0 s1 is (c.last_place.ensures key) c.in_ok-found.ensures.looks);
    }

pub loop-before-preserved : goal.loop-before-preserved
loop-before-preserved g c =
    let key = c.args.branch.now in
    let last = c.in-Some.last in
    let count = c.loop-before.before in
    let s0 = state g.S.Store c.args.tx.now.conn.now in
    let s1 = state g.S.Store c.loop-before.tx.conn.now in
    let s2 = state g.S.Store c.find_at.new.tx.conn.now in
    let j = c.in-Some-known.change in
    let is : c.in_ok-known.known ≡ Some j = search rules in
    let at : PlaceKey = record { project = c.loop-before.key.project; branch = c.loop-before.key.branch; place = count + 1 } in
    record {
      reference = c.find_at.ensures.same_reference ∙ c.loop-before.invariant.reference;
      project = c.loop-before.invariant.project;
      branch = c.loop-before.invariant.branch;
      looks = joined_more key last count at c.loop-before.joined.items c.push.new.self.items j s0 s1 s2 (λ i. record { project = c.loop-before.invariant.project i; branch = c.loop-before.invariant.branch i; place = count + 1 })
          c.in_ok-push.ensures.items c.loop-before.invariant.looks (subst (λ o. Looks (KnowsOne at) s1 s2 (Ok o)) is c.in_ok-known.ensures.looks);
    }

pub returns-clause-looks : goal.returns-clause-looks
returns-clause-looks g c =
    let key = c.args.branch.now in
    let last = c.in-Some.last in
    let s0 = state g.S.Store c.args.tx.now.conn.now in
    let s1 = state g.S.Store c.loop-before.tx.conn.now in
    subst (λ js. Looks (KnowsAll key) s0 s1 (Ok (Some js))) (sym c.from_vec.ensures) (joined_all key last c.loop-before.before c.loop-before.joined.items s0 s1 (omega (arith, c.loop-before-test.false)) c.loop-before.invariant.looks)

pub returns-in_default-clause-looks : goal.returns-in_default-clause-looks
returns-in_default-clause-looks g c =
    let key = c.args.branch.now in
    let none : c.last_place.result ≡ None = search rules in
    look_on (KnowsLast key) (KnowsAll key) _ _ c.in_ok-found.found (Ok None) c.in_ok-found.ensures.looks (λ db h. subst (IfTold db (IsLastPlace key db)) none (c.last_place.ensures key db h))

pub returns-in_default-known-clause-looks : goal.returns-in_default-known-clause-looks
returns-in_default-known-clause-looks g c =
    let key = c.args.branch.now in
    let last = c.in-Some.last in
    let count = c.loop-before.before in
    let s0 = state g.S.Store c.args.tx.now.conn.now in
    let s1 = state g.S.Store c.loop-before.tx.conn.now in
    let s2 = state g.S.Store c.find_at.new.tx.conn.now in
    let is : c.in_ok-known.known ≡ None = search rules in
    let at : PlaceKey = record { project = c.loop-before.key.project; branch = c.loop-before.key.branch; place = count + 1 } in
    joined_none key last count at c.loop-before.joined.items s0 s1 s2 (λ i. record { project = c.loop-before.invariant.project i; branch = c.loop-before.invariant.branch i; place = count + 1 }) c.loop-before-test.true
    c.loop-before.invariant.looks (subst (λ o. Looks (KnowsOne at) s1 s2 (Ok o)) is c.in_ok-known.ensures.looks)
