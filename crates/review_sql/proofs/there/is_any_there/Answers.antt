use Rattle.review_sql_tables.proofs.Common.{rules, ◌≡◌, ◌<◌, ℕ, List, length, refl, true, false, inl, inr, sym, subst, get_or, map, arith, cases_lt, Database, state}
use Rattle.review_sql_tables.specs.declared.texts.TheConstants.{ANY_ROW}
use Rattle.review_sql.{proofs.Staying.stays_still, proofs.Staying.stays_then, specs.Shelf.IsUnderstood}
use Rattle.review_sql.proofs.there.is_any_there.Goals as goal

pub loop-at-init : goal.loop-at-init
loop-at-init g c = record { within = omega arith; mode = c.requires.mode; stays = stays_still (state g.S.Store c.args.conn.now); opened = λ below. absurd (omega (arith, below)); none = λ clean i d below known. absurd (omega (arith, below)) }

pub loop-at-preserved : goal.loop-at-preserved
loop-at-preserved g c =
    let s0 = state g.S.Store c.args.conn.now in
    let s1 = state g.S.Store c.loop-at.conn in
    let s2 = state g.S.Store c.is_understood.new.conn in
    let below : c.loop-at.at < 15 = c.loop-at-test.true in
    let no : c.in_ok-is_understood.field-0 ≡ false = search rules in
    record {
      within = omega (arith, below);
      mode = c.is_understood.ensures.mode;
      stays = stays_then s0 s1 s2 c.loop-at.invariant.stays c.is_understood.ensures.stays;
      opened = λ _. c.in_ok-is_understood.ensures.opens;
      none = λ clean i d up_to known.
          let opens = c.in_ok-is_understood.ensures.opens clean in
          let back = c.is_understood.ensures.stays.kept opens in
          let first = c.loop-at.invariant.stays.kept back.0 in
          elim (cases_lt i c.loop-at.at) [
            | inl earlier ↦ c.loop-at.invariant.none (omega (arith, c.is_understood.ensures.stays.survives.clean, clean)) i d earlier known
            | inr late ↦
                let same : i ≡ c.loop-at.at = omega (arith, late, up_to) in
                let here = subst (λ (n : ℕ). IsUnderstood s0.now.schema (get_or (map (λ t. t.now) ANY_ROW) n d)) same known in
                let there = subst (λ (db : Database). IsUnderstood db.schema (get_or (map (λ t. t.now) ANY_ROW) c.loop-at.at d)) (sym first.1) here in
                c.in_ok-is_understood.ensures.unknown clean no (subst (λ (sql : List ℕ). IsUnderstood s1.now.schema sql) (sym (c.any_row.ensures d)) there)
          ];
    }

pub returns-clause-none : goal.returns-clause-none
returns-clause-none g c clean same any =
    let schema = (state g.S.Store c.args.conn.now).now.schema in
    let inside = any.1 in
    let short : length (map (λ t. t.now) ANY_ROW) ≡ 15 = refl in
    c.loop-at.invariant.none clean inside.0 any.0 (omega (arith, c.loop-at-test.false, inside.1, short)) (subst (λ (sql : List ℕ). IsUnderstood schema sql) (sym inside.2) any.2)

pub returns-then-branch-clause-is : goal.returns-then-branch-clause-is
returns-then-branch-clause-is g c clean same is_open =
    let text = c.any_row.result.now in
    let back = c.is_understood.ensures.stays.kept is_open in
    let first = c.loop-at.invariant.stays.kept back.0 in
    let found : c.in_ok-is_understood.field-0 ≡ true = search rules in
    (text, (c.loop-at.at, c.loop-at-test.true, sym (c.any_row.ensures text)), subst (λ (db : Database). IsUnderstood db.schema text) first.1 (c.in_ok-is_understood.ensures.is clean found))

pub returns-clause-opens : goal.returns-clause-opens
returns-clause-opens g c clean = c.loop-at.invariant.opened (omega (arith, c.loop-at-test.false)) clean
