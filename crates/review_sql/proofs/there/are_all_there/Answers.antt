use Rattle.review_sql_tables.proofs.Common.{rules, ◌≡◌, ℕ, List, true, false, inl, inr, sym, subst, get_or, arith, cases_lt, Database, state}
use Rattle.review_sql.proofs.Staying.{stays_still, stays_then}
use Rattle.review_sql.specs.Shelf.{IsUnderstood, rows_read}
use Rattle.review_sql.proofs.there.are_all_there.Goals as goal

pub loop-at-init : goal.loop-at-init
loop-at-init g c = record { within = omega arith; mode = c.requires.mode; stays = stays_still (state g.S.Store c.args.conn.now); opened = c.requires.open; all = λ clean is_open i d below. absurd (omega (arith, below)) }

pub loop-at-preserved : goal.loop-at-preserved
loop-at-preserved g c =
    let s0 = state g.S.Store c.args.conn.now in
    let s1 = state g.S.Store c.loop-at.conn in
    let s2 = state g.S.Store c.is_understood.new.conn in
    let yes : c.in_ok-is_understood.field-0 ≡ true = search rules in
    record {
      within = omega (arith, c.loop-at-test.true);
      mode = c.is_understood.ensures.mode;
      stays = stays_then s0 s1 s2 c.loop-at.invariant.stays c.is_understood.ensures.stays;
      opened = c.in_ok-is_understood.ensures.opens;
      all = λ clean is_open i d up_to.
          let back = c.is_understood.ensures.stays.kept is_open in
          let first = c.loop-at.invariant.stays.kept back.0 in
          elim (cases_lt i c.loop-at.at) [
            | inl earlier ↦ c.loop-at.invariant.all (omega (arith, c.is_understood.ensures.stays.survives.clean, clean)) back.0 i d earlier
            | inr late ↦
                let same : c.loop-at.at ≡ i = omega (arith, late, up_to) in
                let here = subst (λ (sql : List ℕ). IsUnderstood s1.now.schema sql) (c.read_row.ensures d) (c.in_ok-is_understood.ensures.is clean yes) in
                let there = subst (λ (db : Database). IsUnderstood db.schema (get_or (rows_read c.args.version) c.loop-at.at d)) first.1 here in
                subst (λ (n : ℕ). IsUnderstood s0.now.schema (get_or (rows_read c.args.version) n d)) same there
          ];
    }

pub returns-clause-all : goal.returns-clause-all
returns-clause-all g c clean same is_open = record {
  each = λ sql inside.
      let schema = (state g.S.Store c.args.conn.now).now.schema in
      let short = c.count_of-count.ensures in
      subst (λ (s : List ℕ). IsUnderstood schema s) inside.2 (c.loop-at.invariant.all clean is_open inside.0 sql (omega (arith, c.loop-at-test.false, inside.1, short)));
}

pub returns-then-not-branch-clause-missing : goal.returns-then-not-branch-clause-missing
returns-then-not-branch-clause-missing g c clean same all =
    let text = c.read_row.result.now in
    let no : c.in_ok-is_understood.field-0 ≡ false = search rules in
    let back = c.is_understood.ensures.stays.kept (c.in_ok-is_understood.ensures.opens clean) in
    let first = c.loop-at.invariant.stays.kept back.0 in
    c.in_ok-is_understood.ensures.unknown clean no
    (subst (λ (db : Database). IsUnderstood db.schema text) (sym first.1) (all.each text (c.loop-at.at, omega (arith, c.loop-at-test.true, c.count_of-count.ensures), sym (c.read_row.ensures text))))
