use Rattle.sqlite.specs.declared.error.Error.TheVariants.{InvalidQuery}
use Rattle.review_sql_tables.proofs.Common.{rules, ◌≡◌, ◌∙◌, ap, true, false, subst, Ok, IsTrue, state, Transacts, schema_at}
use Rattle.review_sql.proofs.Raised.{not_migrated_if, stays_acts, taken_back}
use Rattle.review_sql.specs.Migrated.{Upgrades, if_whole}
use Rattle.review_sql.specs.{Opened.IsThere, declared.faults.DeskFault.TheVariants.NotOurs}
use Rattle.review_sql.proofs.migrating.upgrade.Goals as goal

pub returns-in-Ok-true-clause-raised : goal.returns-in-Ok-true-clause-raised
returns-in-Ok-true-clause-raised g c =
    let R = Upgrades c.args.version c.args.is_ours c.in_ok-seen.seen.numbers in
    let s0 = state g.S.Store c.args.conn.now in
    let s1 = state g.S.Store c.see_tables.new.conn in
    let s2 = state g.S.Store c.raise.new.conn in
    let whole : c.in-Ok-true.field-0 ≡ true = search rules in
    let acts = subst (λ b. Transacts R s1 s2 (if_whole (Ok b))) whole c.in-Ok-true.ensures.acts in
    let ours : IsTrue c.args.is_ours → c.in_ok-seen.seen.is_ours ≡ true = λ yes. search (rules, yes) in
    record {
      form = λ clean given. c.in_ok-seen.ensures.form.0 (ours given) ∙ ap schema_at c.version.ensures;
      there = λ clean. subst (λ v. IsThere v s0.now c.in_ok-seen.seen.numbers) c.version.ensures (c.in_ok-seen.ensures.there (acts.done clean).0);
      acts = stays_acts R s0 s1 s2 (Ok (tt {0})) c.see_tables.ensures.stays acts;
    }

pub returns-in_err-seen-clause-refused : goal.returns-in_err-seen-clause-refused
returns-in_err-seen-clause-refused g c = not_migrated_if c.args.is_ours c.from_residual.result (state g.S.Store c.args.conn.now) (state g.S.Store c.see_tables.new.conn) c.see_tables.ensures.stays

pub returns-in-Ok-false-clause-refused : goal.returns-in-Ok-false-clause-refused
returns-in-Ok-false-clause-refused g c =
    let R = Upgrades c.args.version c.args.is_ours c.in_ok-seen.seen.numbers in
    let s0 = state g.S.Store c.args.conn.now in
    let s1 = state g.S.Store c.see_tables.new.conn in
    let s2 = state g.S.Store c.raise.new.conn in
    let whole : c.in-Ok-false.field-0 ≡ false = search rules in
    let acts = subst (λ b. Transacts R s1 s2 (if_whole (Ok b))) whole c.in-Ok-false.ensures.acts in
    let ours : IsTrue c.args.is_ours → c.in_ok-seen.seen.is_ours ≡ true = λ yes. search (rules, yes) in
    taken_back c.args.version c.args.is_ours c.in_ok-seen.seen.numbers NotOurs s0 s1 s2 InvalidQuery ((λ is. cc), (λ is. cc)) c.see_tables.ensures.stays
    (λ is_open. subst (λ v. IsThere v s0.now c.in_ok-seen.seen.numbers) c.version.ensures (c.in_ok-seen.ensures.there is_open)) (λ given. c.in_ok-seen.ensures.form.0 (ours given) ∙ ap schema_at c.version.ensures) acts

pub returns-in-Err-clause-refused : goal.returns-in-Err-clause-refused
returns-in-Err-clause-refused g c =
    let s0 = state g.S.Store c.args.conn.now in
    let s1 = state g.S.Store c.see_tables.new.conn in
    let s2 = state g.S.Store c.raise.new.conn in
    let ours : IsTrue c.args.is_ours → c.in_ok-seen.seen.is_ours ≡ true = λ yes. search (rules, yes) in
    taken_back c.args.version c.args.is_ours c.in_ok-seen.seen.numbers c.of.result s0 s1 s2 c.in-Err.error (c.of.ensures.plain.0, c.of.ensures.plain.1) c.see_tables.ensures.stays
    (λ is_open. subst (λ v. IsThere v s0.now c.in_ok-seen.seen.numbers) c.version.ensures (c.in_ok-seen.ensures.there is_open)) (λ given. c.in_ok-seen.ensures.form.0 (ours given) ∙ ap schema_at c.version.ensures) c.in-Err.ensures.acts
