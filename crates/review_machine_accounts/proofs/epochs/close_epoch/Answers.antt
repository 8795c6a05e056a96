use Rattle.std.proofs.Common.{◌≡◌, true, false, refl, sym, ◌∙◌, arith}
use Rattle.std.specs.Prelude.{nat_le, nat_lt}
use Rattle.review_machine_rows.proofs.Common.{CloseEpoch, EpochAhead, NotAdmin, Refused, SameState, least_open, nat_tests}
use Rattle.review_machine_laws.proofs.{Checked.admin_is, Checked.asked_beside, Told.least_told}
use Rattle.review_machine_accounts.proofs.Decided.{close_answer, refused_at, close_decided}
use Rattle.review_machine_accounts.proofs.epochs.close_epoch.Goals as goal

pub returns-then-not-admin-clause-decided : goal.returns-then-not-admin-clause-decided
returns-then-not-admin-clause-decided c = λ reading effective h known l.
    let a = c.args in
    let admin = sym (admin_is h a.caller (CloseEpoch a.least) a.rows.now refl l) ∙ (sym c.in_ok-admin.ensures ∙ c.if-not-admin.true) in
    refused_at h a.caller a.epoch (CloseEpoch a.least) c.refused.result NotAdmin c.refused.ensures.empty c.refused.ensures.reply
    (close_answer reading h a.caller a.epoch a.least (Refused NotAdmin) true false (nat_le a.least a.epoch) (nat_lt (least_open h) a.least) known admin refl refl refl)

pub returns-then-get-clause-decided : goal.returns-then-get-clause-decided
returns-then-get-clause-decided c = λ reading effective h known l.
    let a = c.args in
    let admin = sym (admin_is h a.caller (CloseEpoch a.least) a.rows.now refl l) ∙ (sym c.in_ok-admin.ensures ∙ c.if-not-admin.false) in
    let ahead : nat_le a.least a.epoch ≡ false = let t = c.if-get.true in let x = c.get.ensures.value in let y = c.get-2.ensures.value in grind (arith, nat_tests, t, x, y) in
    refused_at h a.caller a.epoch (CloseEpoch a.least) c.refused-then-get.result EpochAhead c.refused-then-get.ensures.empty c.refused-then-get.ensures.reply
    (close_answer reading h a.caller a.epoch a.least (Refused EpochAhead) true true false (nat_lt (least_open h) a.least) known admin ahead refl refl)

pub returns-then-from-open-clause-decided : goal.returns-then-from-open-clause-decided
returns-then-from-open-clause-decided c = λ reading effective h known l.
    let a = c.args in
    let admin = sym (admin_is h a.caller (CloseEpoch a.least) a.rows.now refl l) ∙ (sym c.in_ok-admin.ensures ∙ c.if-not-admin.false) in
    let within : nat_le a.least a.epoch ≡ true = let t = c.if-get.false in let x = c.get.ensures.value in let y = c.get-2.ensures.value in grind (arith, nat_tests, t, x, y) in
    let told = c.number-open.ensures ∙ least_told reading h a.rows.now l.agree (asked_beside h a.caller (CloseEpoch a.least) a.rows.now l).0 in
    let same : nat_lt (least_open h) a.least ≡ false = let t = c.if-from-open.true in let x = c.get-3.ensures.value in let y = c.from.ensures in grind (arith, nat_tests, t, x, y, told) in
    refused_at h a.caller a.epoch (CloseEpoch a.least) c.refused-then-from-open.result SameState c.refused-then-from-open.ensures.empty c.refused-then-from-open.ensures.reply
    (close_answer reading h a.caller a.epoch a.least (Refused SameState) true true true false known admin within same refl)

pub returns-clause-decided : goal.returns-clause-decided
returns-clause-decided c = λ reading effective h known l.
    let a = c.args in
    let admin = sym (admin_is h a.caller (CloseEpoch a.least) a.rows.now refl l) ∙ (sym c.in_ok-admin.ensures ∙ c.if-not-admin.false) in
    let within : nat_le a.least a.epoch ≡ true = let t = c.if-get.false in let x = c.get.ensures.value in let y = c.get-2.ensures.value in grind (arith, nat_tests, t, x, y) in
    let told = c.number-open.ensures ∙ least_told reading h a.rows.now l.agree (asked_beside h a.caller (CloseEpoch a.least) a.rows.now l).0 in
    let more : nat_lt (least_open h) a.least ≡ true = let t = c.if-from-open.false in let x = c.get-3.ensures.value in let y = c.from.ensures in grind (arith, nat_tests, t, x, y, told) in
    let empty = c.nothing-delta.ensures in
    close_decided h a.caller a.epoch a.least _ known admin within more (record { accounts = empty.accounts; members = empty.members; file = empty.file; base = empty.base; changes = empty.changes; epoch = refl })
