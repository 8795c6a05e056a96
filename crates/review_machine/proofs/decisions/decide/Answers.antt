use Rattle.std.proofs.Common.{IfOk, Option, Result, Ok, Err, ◌≡◌, ◌<◌, ℕ, List, length, true, sym, subst, ◌∙◌, option_copied}
use Rattle.review_words.specs.{History.Entry, History.is_account, declared.command.Command.Command}
use Rattle.review_words.specs.declared.command.Command.TheVariants.{CreateAccount, PutGroup, PutProject, RecordBase, CreateChange, OnChange, Submit, CloseEpoch}
use Rattle.review_words.specs.declared.reply.{NotTaken.NotTaken, Refusal.TheVariants.UnknownCaller, Reply.Reply}
use Rattle.review_machine_rows.specs.{Answer.IsAnswerBy, Answer.IsAnswerAt, Answer.most_requests, Changes.Reading}
use Rattle.review_machine_rows.specs.{Decisions.RestsOn, Files.File, Known.is_there, Known.known, Steps.OfCommand}
use Rattle.review_machine_rows.specs.{View.AreEnough, View.IsDecided, View.IsDecidedAt, declared.rows.Delta.Delta}
use Rattle.{review_machine_rows.specs.declared.rows.Rows.Rows, review_machine_laws.proofs.Checked.caller_is}
use Rattle.review_machine_accounts.proofs.Decided.{decided_in, refused_pair_in, unknown_refused}
use Rattle.review_machine_rows.specs.declared.rows.Want.TheVariants as want
use Rattle.review_machine.proofs.decisions.decide.Goals as goal

-- a command is decided, where this file was read
abbrev Decides : ℕ → ℕ → Option File → Rows → Command → Delta × Reply → Type 0
Decides caller epoch effective rows command r =
    (reading : Reading) (h : List Entry) → length h < most_requests → RestsOn (OfCommand command) h → AreEnough reading h caller (OfCommand command) effective rows → IsDecidedAt reading h caller epoch command r.0 r.1

-- the answer to a command does not depend on its epoch
abbrev IsEpochless : Command → Type 0
IsEpochless command = (reading : Reading) (h : List Entry) (caller epoch : ℕ) (reply : Reply) → IsAnswerBy reading h caller command reply → IsAnswerAt reading h caller epoch command reply

-- one that asks for no number
of_history : (result : Result (Delta × Reply) NotTaken) (caller epoch : ℕ) (effective : Option File) (rows : Rows) (command : Command) → IsEpochless command → is_there (known rows (want.Account caller)) ≡ true →
    IfOk result (λ r. (reading : Reading) (h : List Entry) → is_account h caller ≡ true → AreEnough reading h caller (OfCommand command) effective rows → IsDecided reading h caller command r.0 r.1) →
    IfOk result (Decides caller epoch effective rows command)
of_history (Ok r) caller epoch effective rows command same there decided = λ reading h room history l. decided_in epoch (same reading h caller epoch r.1) (decided reading h (sym (caller_is h caller command rows l) ∙ there) l)
of_history (Err e) caller epoch effective rows command same there decided = tt

-- one that asks for no file
of_any_file : (result : Result (Delta × Reply) NotTaken) (caller epoch : ℕ) (effective : Option File) (rows : Rows) (command : Command) → IsEpochless command → is_there (known rows (want.Account caller)) ≡ true →
    IfOk result (λ r. (reading : Reading) (file : Option File) (h : List Entry) → is_account h caller ≡ true → AreEnough reading h caller (OfCommand command) file rows → IsDecided reading h caller command r.0 r.1) →
    IfOk result (Decides caller epoch effective rows command)
of_any_file (Ok r) caller epoch effective rows command same there decided = λ reading h room history l. decided_in epoch (same reading h caller epoch r.1) (decided reading effective h (sym (caller_is h caller command rows l) ∙ there) l)
of_any_file (Err e) caller epoch effective rows command same there decided = tt

-- one that asks nothing of the history but room
of_room : (result : Result (Delta × Reply) NotTaken) (caller epoch : ℕ) (effective : Option File) (rows : Rows) (command : Command) → IsEpochless command → is_there (known rows (want.Account caller)) ≡ true →
    IfOk result (λ r. (reading : Reading) (h : List Entry) → length h < most_requests → is_account h caller ≡ true → AreEnough reading h caller (OfCommand command) effective rows → IsDecided reading h caller command r.0 r.1) →
    IfOk result (Decides caller epoch effective rows command)
of_room (Ok r) caller epoch effective rows command same there decided = λ reading h room history l. decided_in epoch (same reading h caller epoch r.1) (decided reading h room (sym (caller_is h caller command rows l) ∙ there) l)
of_room (Err e) caller epoch effective rows command same there decided = tt

-- one that asks for all
of_all : (result : Result (Delta × Reply) NotTaken) (caller epoch : ℕ) (effective : Option File) (rows : Rows) (command : Command) → IsEpochless command → is_there (known rows (want.Account caller)) ≡ true →
    IfOk result (λ r. (reading : Reading) (h : List Entry) → length h < most_requests → RestsOn (OfCommand command) h → is_account h caller ≡ true → AreEnough reading h caller (OfCommand command) effective rows → IsDecided reading h caller command r.0 r.1) →
    IfOk result (Decides caller epoch effective rows command)
of_all (Ok r) caller epoch effective rows command same there decided = λ reading h room history l. decided_in epoch (same reading h caller epoch r.1) (decided reading h room history (sym (caller_is h caller command rows l) ∙ there) l)
of_all (Err e) caller epoch effective rows command same there decided = tt

-- the one that depends on its epoch
of_epoch : (result : Result (Delta × Reply) NotTaken) (caller epoch : ℕ) (effective : Option File) (rows : Rows) (command : Command) → is_there (known rows (want.Account caller)) ≡ true →
    IfOk result (λ r. (reading : Reading) (file : Option File) (h : List Entry) → is_account h caller ≡ true → AreEnough reading h caller (OfCommand command) file rows → IsDecidedAt reading h caller epoch command r.0 r.1) →
    IfOk result (Decides caller epoch effective rows command)
of_epoch (Ok r) caller epoch effective rows command there decided = λ reading h room history l. decided reading effective h (sym (caller_is h caller command rows l) ∙ there) l
of_epoch (Err e) caller epoch effective rows command there decided = tt

pub returns-in-CreateAccount-clause-decided : goal.returns-in-CreateAccount-clause-decided
returns-in-CreateAccount-clause-decided c =
    let a = c.args in
    subst (λ k. IfOk c.create_account.result (Decides a.caller a.epoch (option_copied a.effective) a.rows.now k)) (sym c.in-CreateAccount.is)
    (of_any_file c.create_account.result a.caller a.epoch (option_copied a.effective) a.rows.now (CreateAccount c.in-CreateAccount.name) (λ reading h caller epoch reply is. is) (sym c.is_account.ensures ∙ c.if-not-is_account.false) c.create_account.ensures.decided)

pub returns-in-PutGroup-clause-decided : goal.returns-in-PutGroup-clause-decided
returns-in-PutGroup-clause-decided c =
    let a = c.args in
    subst (λ k. IfOk c.put_group.result (Decides a.caller a.epoch (option_copied a.effective) a.rows.now k)) (sym c.in-PutGroup.is)
    (of_any_file c.put_group.result a.caller a.epoch (option_copied a.effective) a.rows.now (PutGroup c.in-PutGroup.group c.in-PutGroup.members) (λ reading h caller epoch reply is. is) (sym c.is_account.ensures ∙ c.if-not-is_account.false) c.put_group.ensures.decided)

pub returns-in-PutProject-clause-decided : goal.returns-in-PutProject-clause-decided
returns-in-PutProject-clause-decided c =
    let a = c.args in
    subst (λ k. IfOk c.put_project.result (Decides a.caller a.epoch (option_copied a.effective) a.rows.now k)) (sym c.in-PutProject.is)
    (of_history c.put_project.result a.caller a.epoch (option_copied a.effective) a.rows.now (PutProject c.in-PutProject.project c.in-PutProject.file) (λ reading h caller epoch reply is. is) (sym c.is_account.ensures ∙ c.if-not-is_account.false) c.put_project.ensures.decided)

pub returns-in-RecordBase-clause-decided : goal.returns-in-RecordBase-clause-decided
returns-in-RecordBase-clause-decided c =
    let a = c.args in
    subst (λ k. IfOk c.record_base.result (Decides a.caller a.epoch (option_copied a.effective) a.rows.now k)) (sym c.in-RecordBase.is)
    (of_any_file c.record_base.result a.caller a.epoch (option_copied a.effective) a.rows.now (RecordBase c.in-RecordBase.project c.in-RecordBase.branch c.in-RecordBase.commit) (λ reading h caller epoch reply is. is) (sym c.is_account.ensures ∙ c.if-not-is_account.false) c.record_base.ensures.decided)

pub returns-in-CreateChange-clause-decided : goal.returns-in-CreateChange-clause-decided
returns-in-CreateChange-clause-decided c =
    let a = c.args in
    subst (λ k. IfOk c.create_change.result (Decides a.caller a.epoch (option_copied a.effective) a.rows.now k)) (sym c.in-CreateChange.is)
    (of_room c.create_change.result a.caller a.epoch (option_copied a.effective) a.rows.now (CreateChange c.in-CreateChange.new) (λ reading h caller epoch reply is. is) (sym c.is_account.ensures ∙ c.if-not-is_account.false) c.create_change.ensures.decided)

pub returns-in-OnChange-clause-decided : goal.returns-in-OnChange-clause-decided
returns-in-OnChange-clause-decided c =
    let a = c.args in
    subst (λ k. IfOk c.on_change.result (Decides a.caller a.epoch (option_copied a.effective) a.rows.now k)) (sym c.in-OnChange.is)
    (of_room c.on_change.result a.caller a.epoch (option_copied a.effective) a.rows.now (OnChange c.in-OnChange.change c.in-OnChange.command) (λ reading h caller epoch reply is. is) (sym c.is_account.ensures ∙ c.if-not-is_account.false) c.on_change.ensures.decided)

pub returns-in-Submit-clause-decided : goal.returns-in-Submit-clause-decided
returns-in-Submit-clause-decided c =
    let a = c.args in
    subst (λ k. IfOk c.submit.result (Decides a.caller a.epoch (option_copied a.effective) a.rows.now k)) (sym c.in-Submit.is)
    (of_all c.submit.result a.caller a.epoch (option_copied a.effective) a.rows.now (Submit c.in-Submit.change) (λ reading h caller epoch reply is. is) (sym c.is_account.ensures ∙ c.if-not-is_account.false) c.submit.ensures.decided)

pub returns-in-CloseEpoch-clause-decided : goal.returns-in-CloseEpoch-clause-decided
returns-in-CloseEpoch-clause-decided c =
    let a = c.args in
    subst (λ k. IfOk c.close_epoch.result (Decides a.caller a.epoch (option_copied a.effective) a.rows.now k)) (sym c.in-CloseEpoch.is)
    (of_epoch c.close_epoch.result a.caller a.epoch (option_copied a.effective) a.rows.now (CloseEpoch c.in-CloseEpoch.least) (sym c.is_account.ensures ∙ c.if-not-is_account.false) c.close_epoch.ensures.decided)

pub returns-then-not-is_account-clause-decided : goal.returns-then-not-is_account-clause-decided
returns-then-not-is_account-clause-decided c = λ reading h room history l.
    let a = c.args in
    refused_pair_in h a.caller a.epoch a.command.now c.refused.result UnknownCaller c.refused.ensures.empty c.refused.ensures.reply
    (unknown_refused reading h a.caller a.command.now (sym (caller_is h a.caller a.command.now a.rows.now l) ∙ (sym c.is_account.ensures ∙ c.if-not-is_account.true)))
