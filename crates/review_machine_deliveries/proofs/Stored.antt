-- Each answer of a history is stored with numbers of their forms.
use Rattle.std.proofs.Common.{◌≡◌, ◌⊎◌, ℕ, suc, ◌+◌, ◌<◌, ◌≤◌, List, [], ◌∷◌, ◌++◌, length, Option, Some, None, Bool, true, false, cond, refl, sym, ap, ◌∙◌, subst, ⊎_elim, inl, inr, arith, ltb-true, leb-true, MatchBool, All, MatchOption, nat_lt, option_map, map, ◌&&◌}
use Rattle.std.proofs.lemmas.List.Elements.{All-head, All-tail}
use Rattle.review_names.specs.Forms.{is_label, most_changes, most_comments, most_patches}
use Rattle.review_words.specs.History.{Entry, is_account, account_count}
use Rattle.review_words.specs.Texts.{IsStored, IsChangeNumber, IsCommentNumber}
use Rattle.review_words.specs.declared.changes.Review.{Review as ReviewOf}
use Rattle.review_words.specs.declared.command.Command.TheVariants.{CreateAccount, PutProject, RecordBase, CloseEpoch, CreateChange, OnChange, Submit}
use Rattle.review_words.specs.declared.faults.FileFault.TheVariants.{UnknownKey}
use Rattle.review_words.specs.declared.reply.Answer.TheVariants.{Nothing, Reviewed}
use Rattle.review_words.specs.declared.reply.Refusal.TheVariants.{BadFile, UnknownCaller, ChainOutdated, ChainAbandoned, ChainWip, ChainTooLong, RequirementUnsatisfied}
use Rattle.review_words.specs.declared.shown.ShownRequirement.{ShownRequirement}
use Rattle.review_chain.specs.declared.walks.ChainFault.TheVariants.{Outdated, Abandoned, Wip, TooLong}
use Rattle.{review_expr_judging.specs.declared.facts.ChangeFacts.ChangeFacts, review_file_rules.proofs.Placed.placed}
use Rattle.review_core_rules.specs.Change.{Change, Setting, current, said}
use Rattle.review_core_rules.specs.Facts.{AreStanding, IsFirstUnsatisfied, is_unsatisfied, stands, unsatisfied_in}
use Rattle.review_core_rules.specs.Status.{status_of}
use Rattle.review_machine_rows.proofs.Common.{AllByRecursion, ChainFault, ChangeCommand, Command, Done, Expr, File, Given, IsReady, Link, NewPatch, Refusal, Refused, Reply, RequirementView, cases_Bool, chain_ready, link_for, most_depth}
use Rattle.review_machine_rows.proofs.Readings.{reading_of}
use Rattle.review_machine_rows.specs.Answer.{IsHistory, IsAnswer, IsAnswerBy, IsAnswerWithoutParents, IsOutcome, IsOf, IsRequestOutcome, IsUploadAnswer, checks, comment_numbers, file_checks, first_refusal, given_checks, numbers_after, of_change, puts_parent, refused_by, refused_or, request_checks, review_checks, submit_checks, upload_checks, IsAnswerAt, epoch_checks}
use Rattle.review_machine_rows.specs.Changes.{Reading, Reads, change, change_count, file_of, setting_of, texts_of}
use Rattle.review_machine_rows.specs.{Desks.facts_of, Facts.DeskFacts}
use Rattle.review_machine_rows.specs.Submits.{IsSubmitAnswer, branch_after, checked_reply, judged_after, refusal_of}
use Rattle.review_machine_laws.proofs.Changes.{change_bound, Passes, all_pass, later_pass}
use Rattle.review_machine_laws.proofs.Histories.{line_read}
use Rattle.review_machine_deliveries.proofs.{Bounds.votes_bound, Files.HasName, Files.effective_names}
use Rattle.review_words.specs.declared.command.ChangeCommand.TheVariants as on
use Rattle.review_expr.specs.declared.expr.Facts.TheVariants as facts

-- the refusals of checks are stored
abbrev AllStored : List (Bool × Refusal) → Type 0
AllStored [] = Unit {0}
AllStored (c ∷ cs) = IsStored (Refused c.1) × AllStored cs

first_stored : (cs : List (Bool × Refusal)) (r : Refusal) → AllStored cs → first_refusal cs ≡ Some r → IsStored (Refused r)
first_stored [] r all is = absurd (cc)
first_stored (c ∷ cs) r all is = ⊎_elim
    (λ (t : c.0 ≡ true). first_stored cs r all.1 (sym (ap (λ b. cond b (first_refusal cs) (Some c.1)) t) ∙ is))
    (λ (f : c.0 ≡ false).
    let some : Some c.1 ≡ Some r = sym (ap (λ b. cond b (first_refusal cs) (Some c.1)) f) ∙ is in
    let same : c.1 ≡ r = cc in subst (λ x. IsStored (Refused x)) same all.0)
    (cases_Bool c.0)

both_stored : (cs ds : List (Bool × Refusal)) → AllStored cs → AllStored ds → AllStored (cs ++ ds)
both_stored [] ds one other = other
both_stored (c ∷ cs) ds one other = (one.0, both_stored cs ds one.1 other)

given_stored : (facts : DeskFacts) (file : File) (caller : ℕ) (r : ReviewOf) (c : Change) (gs : List Given) → AllStored (given_checks facts file caller r c gs)
given_stored facts file caller r c [] = tt
given_stored facts file caller r c (g ∷ gs) = (tt, (tt, (tt, (tt, (tt, tt)))))

-- the refusals of a request on a change
request_stored : (facts : DeskFacts) (caller : ℕ) (command : ChangeCommand) (c : Change) → AllStored (request_checks facts caller command c)
request_stored facts caller (on.Upload patch) c = (tt, (tt, (tt, (tt, (tt, tt)))))
request_stored facts caller (on.Review review) c =
    (tt, both_stored (given_checks facts (facts.file c.project) caller review c review.labels) _ (given_stored facts (facts.file c.project) caller review c review.labels) (tt, (tt, tt)))
request_stored facts caller (on.RemoveReviewer account) c = (tt, (tt, (tt, (tt, tt))))
request_stored facts caller on.SetWip c = (tt, (tt, (tt, tt)))
request_stored facts caller on.SetReady c = (tt, (tt, (tt, tt)))
request_stored facts caller on.Restore c = (tt, (tt, (tt, tt)))
request_stored facts caller (on.AddAttention account reason) c = (tt, (tt, (tt, (tt, tt))))
request_stored facts caller (on.RemoveAttention account reason) c = (tt, (tt, (tt, tt)))
request_stored facts caller _ c = (tt, (tt, tt))

-- the refusals of what is asked of a change, where there is one
on_stored : (each : Change → List (Bool × Refusal)) → ((c : Change) → AllStored (each c)) → (o : Option Change) → AllStored (of_change each o)
on_stored each all None = (tt, tt)
on_stored each all (Some c) = all c

checks_stored : (facts : DeskFacts) (caller : ℕ) (command : Command) → AllStored (checks facts caller command)
checks_stored facts caller (PutProject project text) = (tt, tt)
checks_stored facts caller (RecordBase project branch commit) = (tt, (tt, (tt, (tt, tt))))
checks_stored facts caller (CloseEpoch epoch) = (tt, tt)
checks_stored facts caller (CreateChange new) = (tt, (tt, (tt, (tt, (tt, (tt, tt))))))
checks_stored facts caller (Submit n) = on_stored (submit_checks facts caller) (λ c. (tt, (tt, (tt, tt)))) (facts.change n)
checks_stored facts caller (OnChange n command) = on_stored (request_checks facts caller command) (request_stored facts caller command) (facts.change n)
checks_stored facts caller _ = (tt, (tt, (tt, tt)))

refused_or_stored : (o : Option Refusal) → ((r : Refusal) → o ≡ Some r → IsStored (Refused r)) → IsStored (refused_or o Nothing)
refused_or_stored None stored = tt
refused_or_stored (Some r) stored = stored r refl

-- the numbers after some are so many, and stay below a limit
numbers_long : {X : Type 0} (n : ℕ) (xs : List X) → length (numbers_after n xs) ≡ length xs
numbers_long n [] = refl
numbers_long n (x ∷ xs) = ap suc (numbers_long (n + 1) xs)

numbers_within : {X : Type 0} (n : ℕ) (xs : List X) → n + length xs ≤ most_comments → AllByRecursion IsCommentNumber (numbers_after n xs)
numbers_within n [] below = tt
numbers_within n (x ∷ xs) below = ((omega arith, omega arith), numbers_within (n + 1) xs (omega arith))

reviewed_stored : (reading : Reading) (h : List Entry) (caller : ℕ) (review : ReviewOf) (o : Option Change) → AllByRecursion Passes (of_change (review_checks (facts_of reading h) caller review) o) →
    IsStored (Done (Reviewed (comment_numbers review o)))
reviewed_stored reading h caller review None pass = let bad : false ≡ true = pass.0 in absurd (cc)
reviewed_stored reading h caller review (Some c) pass =
    let rest = later_pass (given_checks (facts_of reading h) (file_of reading h c.project) caller review c review.labels) _ pass.1 in
    let below : length c.comments + length (said review) ≤ most_comments = leb-true (length c.comments + length (said review)) most_comments rest.1.0 in
    let long = numbers_long (length c.comments) (said review) in
    (omega arith, numbers_within (length c.comments) (said review) below)

uploaded_stored : (reading : Reading) (h : List Entry) (caller n : ℕ) (patch : NewPatch) (o : Option Change) (reply : Reply) → IsHistory h → Reads reading h → change reading h n ≡ o →
    AllByRecursion Passes (of_change (upload_checks (facts_of reading h) caller patch) o) → IsOf (λ c. IsUploadAnswer reading h caller n patch c reply) o → IsStored reply
uploaded_stored reading h caller n patch None reply history reads there pass is = absurd is
uploaded_stored reading h caller n patch (Some c) reply history reads there pass is =
    let number = change_bound reading h n c reads history there in
    let below : current c < most_patches = ltb-true (current c) most_patches pass.1.1.1.1.0 in
    let votes = votes_bound reading h caller n patch c reply history reads there is in
    subst IsStored (sym is.reply_is) (number.0, number.1, omega arith, omega arith, votes.0, votes.1)

-- what a request on a change is told
told_stored : (reading : Reading) (h : List Entry) (caller n : ℕ) (command : ChangeCommand) (reply : Reply) → IsHistory h → Reads reading h →
    AllByRecursion Passes (of_change (request_checks (facts_of reading h) caller command) (change reading h n)) → IsRequestOutcome reading h caller n command reply → IsStored reply
told_stored reading h caller n (on.Upload patch) reply history reads all is = uploaded_stored reading h caller n patch (change reading h n) reply history reads refl all is
told_stored reading h caller n (on.Review review) reply history reads all is = subst IsStored (sym is) (reviewed_stored reading h caller review (change reading h n) all)
told_stored reading h caller n _ reply history reads all is = subst IsStored (sym is) tt

-- ---- what a submit is told

bad_stored : (fault : ChainFault) (r : Refusal) → refusal_of fault ≡ Some r → IsStored (Refused r)
bad_stored Outdated r is = let e : ChainOutdated ≡ r = cc in subst (λ x. IsStored (Refused x)) e tt
bad_stored Abandoned r is = let e : ChainAbandoned ≡ r = cc in subst (λ x. IsStored (Refused x)) e tt
bad_stored Wip r is = let e : ChainWip ≡ r = cc in subst (λ x. IsStored (Refused x)) e tt
bad_stored TooLong r is = let e : ChainTooLong ≡ r = cc in subst (λ x. IsStored (Refused x)) e tt
bad_stored _ r is = absurd (let f : None ≡ Some r = is in cc)

-- a link is that of a change that is there
linked_number : (reading : Reading) (h : List Entry) (project branch : List ℕ) (n : ℕ) (o : Option Change) (l : Link) → IsHistory h → Reads reading h → change reading h n ≡ o → link_for project branch o ≡ Some l → IsChangeNumber n
linked_number reading h project branch n None l history reads there is = absurd (let f : None ≡ Some l = is in cc)
linked_number reading h project branch n (Some c) l history reads there is = change_bound reading h n c reads history there

-- the changes of a chain have numbers of their form
chain_numbers : (reading : Reading) (h : List Entry) (c : Change) (n : ℕ) → IsHistory h → Reads reading h → change reading h n ≡ Some c → (ds : List ℕ) →
    All (λ d. (d ≡ n) ⊎ IsReady (branch_after reading h c.project c.branch) d) ds → AllByRecursion IsChangeNumber ds
chain_numbers reading h c n history reads there [] all = tt
chain_numbers reading h c n history reads there (d ∷ ds) all = (
  ⊎_elim
      (λ (same : d ≡ n). change_bound reading h d c reads history (ap (change reading h) same ∙ there))
      (λ (ready : IsReady (branch_after reading h c.project c.branch) d). linked_number reading h c.project c.branch d (change reading h d) ready.link history reads refl ready.there)
      (All-head (λ d. (d ≡ n) ⊎ IsReady (branch_after reading h c.project c.branch) d) d ds all),
  chain_numbers reading h c n history reads there ds (All-tail (λ d. (d ≡ n) ⊎ IsReady (branch_after reading h c.project c.branch) d) d ds all),
)

-- the first requirement that is unsatisfied is one of the file
unsatisfied_name : (f : ChangeFacts) (qs : List (RequirementView Expr)) (name : List ℕ) → AllByRecursion HasName qs → unsatisfied_in (map (stands f) qs) ≡ Some name → is_label name ≡ true
unsatisfied_name f [] name all is = absurd (let e : None ≡ Some name = is in cc)
unsatisfied_name f (q ∷ qs) name all is = by (is_unsatisfied (status_of q (facts.Change f))) is (unsatisfied_name f qs name all.1)
  where
    by : (b : Bool) → cond b (Some q.name) (unsatisfied_in (map (stands f) qs)) ≡ Some name → (unsatisfied_in (map (stands f) qs) ≡ Some name → is_label name ≡ true) → is_label name ≡ true
    by true e on = let same : q.name ≡ name = cc in subst (λ x. is_label x ≡ true) same all.0
    by false e on = on e

-- the file of a project has requirements with names of their form
file_names : (reading : Reading) (h : List Entry) (project : List ℕ) → Reads reading h → AllByRecursion HasName (file_of reading h project).requirements
file_names reading h project reads = effective_names reading (texts_of h project) (line_read reading h reads most_depth project)

-- what is found first is a change of the chain and a requirement with a name of its form
found_stored : (reading : Reading) (h : List Entry) → IsHistory h → Reads reading h → (ds : List ℕ) (found : ℕ × List ℕ) → AllByRecursion IsChangeNumber ds → IsFirstUnsatisfied (judged_after reading h) ds (Some found) →
    IsStored (Refused (RequirementUnsatisfied found.0 found.1))
found_stored reading h history reads [] found all is = absurd (let e : Some found ≡ None = is in cc)
found_stored reading h history reads (d ∷ ds) found all is = at (change reading h d) refl is (found_stored reading h history reads ds found all.1)
  where
    first : (f : ChangeFacts) (qs : List (RequirementView Expr)) (shown : List ShownRequirement) (o : Option (List ℕ)) → AllByRecursion HasName qs → shown ≡ map (stands f) qs → unsatisfied_in shown ≡ o →
        MatchOption o (IsFirstUnsatisfied (judged_after reading h) ds (Some found)) (λ requirement. Some found ≡ Some (d, requirement)) →
        (IsFirstUnsatisfied (judged_after reading h) ds (Some found) → IsStored (Refused (RequirementUnsatisfied found.0 found.1))) → IsStored (Refused (RequirementUnsatisfied found.0 found.1))
    first f qs shown None names each none more on = on more
    first f qs shown (Some name) names each some same on =
        let e : found ≡ (d, name) = cc in
        subst (λ x. IsStored (Refused (RequirementUnsatisfied x.0 x.1))) (sym e) (all.0, unsatisfied_name f qs name names (sym (ap unsatisfied_in each) ∙ some))

    at : (o : Option Change) → change reading h d ≡ o →
        MatchOption {T = Setting × Change} (option_map (λ (x : Change). (setting_of reading h x.project, x)) o) ⊥
        (λ j. (shown : List ShownRequirement) × AreStanding j.0 j.1 shown × MatchOption (unsatisfied_in shown) (IsFirstUnsatisfied (judged_after reading h) ds (Some found)) (λ requirement. Some found ≡ Some (d, requirement))) →
        (IsFirstUnsatisfied (judged_after reading h) ds (Some found) → IsStored (Refused (RequirementUnsatisfied found.0 found.1))) → IsStored (Refused (RequirementUnsatisfied found.0 found.1))
    at None there bad on = absurd bad
    at (Some x) there (shown, standing, found_in) on =
        first standing.facts (file_of reading h x.project).requirements shown (unsatisfied_in shown) (file_names reading h x.project reads) standing.each refl found_in on

checked_stored : (reading : Reading) (h : List Entry) (chain : List ℕ) (found : Option (ℕ × List ℕ)) → IsHistory h → Reads reading h → length chain ≤ 100 → AllByRecursion IsChangeNumber chain →
    IsFirstUnsatisfied (judged_after reading h) chain found → IsStored (checked_reply chain found)
checked_stored reading h chain None history reads short all is = (short, all)
checked_stored reading h chain (Some found) history reads short all is = found_stored reading h history reads chain found all is

submit_stored : (reading : Reading) (h : List Entry) (n : ℕ) (o : Option Change) (reply : Reply) → IsHistory h → Reads reading h → change reading h n ≡ o → IsOf (λ c. IsSubmitAnswer reading h n c reply) o → IsStored reply
submit_stored reading h n None reply history reads there is = absurd is
submit_stored reading h n (Some c) reply history reads there (inl bad) = subst IsStored (sym bad.reply_is) (bad_stored bad.fault bad.refusal bad.named)
submit_stored reading h n (Some c) reply history reads there (inr has) =
    let numbers = chain_numbers reading h c n history reads there has.chain (chain_ready (branch_after reading h c.project c.branch) has.chain n has.is_chain) in
    subst IsStored (sym has.reply_is) (checked_stored reading h has.chain has.found history reads has.is_chain.short numbers has.checked)

outcome_stored : (reading : Reading) (h : List Entry) (caller : ℕ) (command : Command) (reply : Reply) → IsHistory h → Reads reading h → AllByRecursion Passes (checks (facts_of reading h) caller command) →
    IsOutcome reading h caller command reply → IsStored reply
outcome_stored reading h caller (CreateAccount name) reply history reads all is =
    let below = ltb-true (account_count h) 1000000 all.1.1.0 in subst IsStored (sym is) (omega arith, omega arith)
outcome_stored reading h caller (PutProject project text) reply history reads all (inl f) = subst IsStored (sym f.2) (placed text f.0 f.1)
outcome_stored reading h caller (PutProject project text) reply history reads all (inr f) =
    subst IsStored (sym f.2)
    (refused_or_stored (first_refusal (file_checks reading h project f.0)) (λ r is. first_stored (file_checks reading h project f.0) r (tt, (tt, (tt, (tt, (tt, (tt, tt)))))) is))
outcome_stored reading h caller (CreateChange new) reply history reads all is =
    let below : change_count h < most_changes = ltb-true (change_count h) most_changes all.1.1.1.1.1.0 in
    subst IsStored (sym is) (omega arith, omega arith, omega arith, omega arith)
outcome_stored reading h caller (Submit n) reply history reads all is = submit_stored reading h n (change reading h n) reply history reads refl is
outcome_stored reading h caller (OnChange n command) reply history reads all is = told_stored reading h caller n command reply history reads all is
outcome_stored reading h caller _ reply history reads all is = subst IsStored (sym is) tt

answer_stored_by : (reading : Reading) (h : List Entry) (caller : ℕ) (command : Command) (reply : Reply) → IsHistory h → Reads reading h → IsAnswerBy reading h caller command reply → IsStored reply
answer_stored_by reading h caller command reply history reads is = at (refused_by reading h caller command) refl is
  where
    at : (o : Option Refusal) → refused_by reading h caller command ≡ o → MatchOption o (IsOutcome reading h caller command reply) (λ refusal. reply ≡ Refused refusal) → IsStored reply
    at None none is = outcome_stored reading h caller command reply history reads (all_pass ((is_account h caller, UnknownCaller) ∷ checks (facts_of reading h) caller command) none).1 is
    at (Some r) some is = subst IsStored (sym is) (first_stored ((is_account h caller, UnknownCaller) ∷ checks (facts_of reading h) caller command) r (tt, checks_stored (facts_of reading h) caller command) some)

answer_stored_in : (reading : Reading) (h : List Entry) (caller epoch : ℕ) (command : Command) (reply : Reply) → IsHistory h → Reads reading h → IsAnswerAt reading h caller epoch command reply → IsStored reply
answer_stored_in reading h caller epoch (CloseEpoch least) reply history reads is = at (refused_by reading h caller (CloseEpoch least)) refl is
  where
    at : (o : Option Refusal) → refused_by reading h caller (CloseEpoch least) ≡ o →
        MatchOption o (reply ≡ refused_or (first_refusal (epoch_checks (facts_of reading h) epoch least)) Nothing) (λ refusal. reply ≡ Refused refusal) → IsStored reply
    at None none is = subst IsStored (sym is) (refused_or_stored (first_refusal (epoch_checks (facts_of reading h) epoch least)) (λ r is. first_stored (epoch_checks (facts_of reading h) epoch least) r (tt, (tt, tt)) is))
    at (Some r) some is = subst IsStored (sym is) (first_stored ((is_account h caller, UnknownCaller) ∷ checks (facts_of reading h) caller (CloseEpoch least)) r (tt, checks_stored (facts_of reading h) caller (CloseEpoch least)) some)
answer_stored_in reading h caller epoch command reply history reads is = answer_stored_by reading h caller command reply history reads is

-- each answer after a history is stored
pub answer_stored : (h : List Entry) (caller epoch : ℕ) (command : Command) (reply : Reply) → IsHistory h → IsAnswer h caller epoch command reply → IsStored reply
answer_stored h caller epoch command reply history is =
    let r = reading_of h history in answer_stored_in r.0 h caller epoch command reply history r.1 (is r.0 r.1)

-- and so is that of version 1 to a text that names a parent
old_stored : (h : List Entry) (caller : ℕ) (command : Command) (reply : Reply) → IsHistory h → IsAnswerWithoutParents h caller command reply → IsStored reply
old_stored h caller command reply history is = let r = reading_of h history in at r.0 (refused_by r.0 h caller command) refl (is r.0 r.1)
  where
    at : (reading : Reading) (o : Option Refusal) → refused_by reading h caller command ≡ o → MatchOption o (reply ≡ Refused (BadFile UnknownKey)) (λ refusal. reply ≡ Refused refusal) → IsStored reply
    at reading None none is = subst IsStored (sym is) tt
    at reading (Some r) some is = subst IsStored (sym is) (first_stored ((is_account h caller, UnknownCaller) ∷ checks (facts_of reading h) caller command) r (tt, checks_stored (facts_of reading h) caller command) some)

-- and that of an entry, whatever version's rules gave it
pub entry_stored : (e : Entry) (h : List Entry) → IsHistory (e ∷ h) → IsStored e.reply
entry_stored e h history = by (nat_lt e.version 2 && puts_parent e.command) history.1
  where
    by : (b : Bool) → MatchBool b (IsAnswerWithoutParents h e.identity.caller e.command e.reply) (IsAnswer h e.identity.caller e.identity.epoch e.command e.reply) → IsStored e.reply
    by true is = old_stored h e.identity.caller e.command e.reply history.3 is
    by false is = answer_stored h e.identity.caller e.identity.epoch e.command e.reply history.3 is
