use Rattle.std.proofs.Common.{◌≡◌, ◌+◌, ◌∙◌, Some, ap, arith, length, ltb-true, sym}
use Rattle.review_machine_rows.proofs.Common.{RecordBase, base_count, bases, known, number_of}
use Rattle.review_machine_rows.specs.{Answer.checks, Desks.facts_in, declared.rows.Counted.TheVariants.BasesOf}
use Rattle.review_machine_laws.proofs.{Changes.all_pass, Checked.asked_beside, Checked.record_base_told}
use Rattle.review_machine_laws.proofs.Told.{branch_within, place_told, room_told}
use Rattle.review_machine_accounts.proofs.Decided.{base_decided, refused_pair}
use Rattle.review_machine_rows.specs.declared.rows.Want.TheVariants as want
use Rattle.review_machine_accounts.proofs.branches.record_base.Goals as goal

pub returns-in-Some-clause-decided : goal.returns-in-Some-clause-decided
returns-in-Some-clause-decided c = λ reading effective h account l.
    let a = c.args in
    refused_pair h a.caller (RecordBase a.project.now a.branch.now a.commit.now) c.refused.result c.in-Some.refusal c.refused.ensures.empty c.refused.ensures.reply
    (record_base_told reading h a.caller effective a.rows.now a.project.now a.branch.now a.commit.now account l ∙ (sym c.in_ok-refusal.ensures ∙ c.in-Some.is))

pub returns-clause-decided : goal.returns-clause-decided
returns-clause-decided c = λ reading effective h account l.
    let a = c.args in
    let command = RecordBase a.project.now a.branch.now a.commit.now in
    let all = asked_beside h a.caller command a.rows.now l in
    let none = sym c.in_ok-refusal.ensures ∙ c.in_default.is in
    let last : c.number-last.result ≡ length (bases h a.project.now a.branch.now) =
    c.number-last.ensures ∙ (ap (λ k. number_of (known a.rows.now (want.LastPlace k))) c.in_ok-branch_of.ensures
    ∙ place_told reading h a.rows.now (record { project = a.project.now; branch = a.branch.now }) l.agree all.1.1.1.1.0) in
    let room = sym (room_told reading h a.rows.now (BasesOf a.project.now) l.agree all.1.1.1.0) ∙ (all_pass (checks (facts_in a.rows.now) a.caller command) none).1.1.1.0 in
    let below = ltb-true (base_count h a.project.now) 100000 room in
    let within = branch_within h a.project.now a.branch.now in
    let place : c.saturating_add-place.result ≡ length (bases h a.project.now a.branch.now) + 1 = let e = c.saturating_add-place.ensures in omega arith in
    let empty = c.nothing-delta.ensures in
    base_decided h a.caller a.project.now a.branch.now a.commit.now c.saturating_add-place.result _ place
    (record_base_told reading h a.caller effective a.rows.now a.project.now a.branch.now a.commit.now account l ∙ none) (record {
      accounts = empty.accounts;
      members = empty.members;
      file = empty.file;
      base = λ i. Some (record {
        key = record { project = (c.in_ok-base.ensures i).project; branch = (c.in_ok-base.ensures i).branch; place = c.saturating_add-place.result };
        row = (c.in_ok-base.ensures i).commit;
      });
      changes = empty.changes;
      epoch = empty.epoch;
    })
