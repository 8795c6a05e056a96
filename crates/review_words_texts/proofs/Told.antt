-- A stored reply is what its fields are read as.
use Rattle.std.proofs.Common.{◌≡◌, ℕ, ◌<◌, ◌≤◌, ◌+◌, List, [], ◌∷◌, length, refl, sym, ap, ◌∙◌, subst, arith, cond, Option, Some, None, Bool, true, false, option_map, nat_le, ◌&&◌, if◌then◌else◌, codes, map, Result, Ok, Err, IfOk}
use Rattle.std.proofs.lemmas.{Bool.Decides.nat_tests, Int.Digits.length-digits_of-le, List.length-map}
use Rattle.std.specs.{Int.Digits.digits_of, List.AllByRecursion}
use Rattle.review_names.{proofs.Accounts.account_back, proofs.Numerals.number_back, specs.Bad.Gives}
use Rattle.review_names.specs.Forms.{is_label, is_within, most_changes, most_comments, most_patches}
use Rattle.review_names.specs.Numerals.{shown_digits, numeral, ◌>>=◌, number_of}
use Rattle.review_names.specs.declared.names.Bad.{Bad}
use Rattle.review_words.specs.{Faults.code_number, Faults.file_fault_number, Refusals.refusal_number}
use Rattle.review_words.specs.Texts.{expr_fields, fault_fields, most_joined, refusal_fields, reply_fields, IsPlaced, IsRefusalOf, IsStored}
use Rattle.review_words.specs.declared.faults.{ExprCode.ExprCode, FileFault.FileFault}
use Rattle.review_words.specs.declared.reply.Answer.TheVariants.{Account, Nothing, Change, Patch, Reviewed, Submitted}
use Rattle.review_words.specs.declared.reply.Refusal.{Refusal}
use Rattle.review_words.specs.declared.reply.Refusal.TheVariants.{UnknownCaller, NotAdmin, NoProject, NoBranch, NoChange, NoPatchSet, NoAccount, NoComment, NotAllowed, Closed, SameState, WorkInProgress, StalePatchSet, NoLabel, ValueOut, VoteRestricted, CommitKnown, UnknownParent, ChainOutdated, ChainAbandoned, ChainWip, ChainTooLong, RequirementUnsatisfied, NotEligible, NameTaken, BadFile, LabelNarrowed, Limit, NoParent, ParentFixed, ParentDepth, EpochAhead}
use Rattle.review_words.specs.declared.reply.Reply.{Reply, TheVariants.Done, TheVariants.Refused}
use Rattle.review_words_texts.specs.Reading.{AreShort, expr_fault_of, file_fault_of, label_of, list_of, new_change_of, new_patch_of, number_within, numbers_in, plain_answer_of, refusal_of, reply_of, unsatisfied_of}
use Rattle.review_words.specs.declared.faults.ExprCode.TheVariants as code
use Rattle.review_words.specs.declared.faults.FileFault.TheVariants as file

-- the fields of a fault, as they stand in a reply
abbrev bad_file : List (List ℕ) → List (List ℕ)
bad_file fields = codes "Refused" ∷ numeral 26 ∷ fields

-- one line for each code
expr_back : (c : ExprCode) (place : ℕ) → place < 18446744073709551616 → expr_fault_of (bad_file (numeral 7 ∷ numeral (code_number c) ∷ numeral place ∷ [])) ≡ Some (record { place = place; code = c })
unfolding expr_fault_of
expr_back code.Empty place low = rw (number_back 1 (omega arith), number_back place low) refl
expr_back code.BadTerm place low = rw (number_back 2 (omega arith), number_back place low) refl
expr_back code.Unbalanced place low = rw (number_back 3 (omega arith), number_back place low) refl
expr_back code.Mixed place low = rw (number_back 4 (omega arith), number_back place low) refl
expr_back code.BadValue place low = rw (number_back 5 (omega arith), number_back place low) refl
expr_back code.Zero place low = rw (number_back 6 (omega arith), number_back place low) refl
expr_back code.TooDeep place low = rw (number_back 7 (omega arith), number_back place low) refl
expr_back code.TooLong place low = rw (number_back 8 (omega arith), number_back place low) refl

-- one line for each fault of a file
file_back : (f : FileFault) → IsPlaced f → file_fault_of (bad_file (fault_fields f)) ≡ Some f
unfolding file_fault_of
file_back file.Toml s = rw (number_back 1 (omega arith)) refl
file_back file.UnknownKey s = rw (number_back 2 (omega arith)) refl
file_back file.Missing s = rw (number_back 3 (omega arith)) refl
file_back file.BadName s = rw (number_back 4 (omega arith)) refl
file_back file.Twice s = rw (number_back 5 (omega arith)) refl
file_back file.BadValues s = rw (number_back 6 (omega arith)) refl
file_back (file.Expr e) s = rw (number_back 7 (omega arith), expr_back e.code e.place s) refl
file_back file.UnknownLabel s = rw (number_back 8 (omega arith)) refl
file_back file.Limit s = rw (number_back 9 (omega arith)) refl

-- numbers from 1 to the greatest one
within_back : (most n : ℕ) → most < 18446744073709551616 → 1 ≤ n → n ≤ most → number_within most (numeral n) ≡ Some n
unfolding number_within is_within
within_back most n small low high =
    let test : (nat_le 1 n && nat_le n most) ≡ true = grind (arith, nat_tests, low, high) in
    rw (number_back n (omega (arith, small, high))) (ap (λ b. cond b (Some n) None) test)

unsatisfied_back : (change : ℕ) (requirement : List ℕ) → IsRefusalOf (RequirementUnsatisfied change requirement)
    → unsatisfied_of (codes "Refused" ∷ numeral 23 ∷ numeral change ∷ requirement ∷ []) ≡ Some (RequirementUnsatisfied change requirement)
unfolding unsatisfied_of label_of
unsatisfied_back change requirement s = rw (within_back most_changes change (omega arith) s.0.0 s.0.1, s.1) refl

-- one line for each refusal
refused_back : (r : Refusal) → IsRefusalOf r → reply_of (reply_fields (Refused r)) ≡ Some (Refused r)
unfolding reply_of refusal_of
refused_back UnknownCaller s = rw (number_back 1 (omega arith)) refl
refused_back NotAdmin s = rw (number_back 2 (omega arith)) refl
refused_back NoProject s = rw (number_back 3 (omega arith)) refl
refused_back NoBranch s = rw (number_back 4 (omega arith)) refl
refused_back NoChange s = rw (number_back 5 (omega arith)) refl
refused_back NoPatchSet s = rw (number_back 6 (omega arith)) refl
refused_back NoAccount s = rw (number_back 7 (omega arith)) refl
refused_back NoComment s = rw (number_back 8 (omega arith)) refl
refused_back NotAllowed s = rw (number_back 9 (omega arith)) refl
refused_back Closed s = rw (number_back 10 (omega arith)) refl
refused_back SameState s = rw (number_back 11 (omega arith)) refl
refused_back WorkInProgress s = rw (number_back 12 (omega arith)) refl
refused_back StalePatchSet s = rw (number_back 13 (omega arith)) refl
refused_back NoLabel s = rw (number_back 14 (omega arith)) refl
refused_back ValueOut s = rw (number_back 15 (omega arith)) refl
refused_back VoteRestricted s = rw (number_back 16 (omega arith)) refl
refused_back CommitKnown s = rw (number_back 17 (omega arith)) refl
refused_back UnknownParent s = rw (number_back 18 (omega arith)) refl
refused_back ChainOutdated s = rw (number_back 19 (omega arith)) refl
refused_back ChainAbandoned s = rw (number_back 20 (omega arith)) refl
refused_back ChainWip s = rw (number_back 21 (omega arith)) refl
refused_back ChainTooLong s = rw (number_back 22 (omega arith)) refl
refused_back (RequirementUnsatisfied change requirement) s = rw (number_back 23 (omega arith), unsatisfied_back change requirement s) refl
refused_back NotEligible s = rw (number_back 24 (omega arith)) refl
refused_back NameTaken s = rw (number_back 25 (omega arith)) refl
refused_back (BadFile f) s = rw (number_back 26 (omega arith), file_back f s) refl
refused_back LabelNarrowed s = rw (number_back 27 (omega arith)) refl
refused_back Limit s = rw (number_back 28 (omega arith)) refl
refused_back NoParent s = rw (number_back 29 (omega arith)) refl
refused_back ParentFixed s = rw (number_back 30 (omega arith)) refl
refused_back ParentDepth s = rw (number_back 31 (omega arith)) refl
refused_back EpochAhead s = rw (number_back 32 (omega arith)) refl

numbers_back : (most : ℕ) (ns : List ℕ) → most < 18446744073709551616 → AllByRecursion (λ n. (1 ≤ n) × (n ≤ most)) ns → numbers_in most (map numeral ns) ≡ Some ns
numbers_back most [] small s = refl
numbers_back most (n ∷ ns) small s =
    let head = within_back most n small s.0.0 s.0.1 in
    let tail = numbers_back most ns small s.1 in
    rw (head, tail) refl

list_back : (longest most : ℕ) (ns : List ℕ) → most < 18446744073709551616 → length ns ≤ longest → AllByRecursion (λ n. (1 ≤ n) × (n ≤ most)) ns → list_of longest most (map numeral ns) ≡ Some ns
unfolding list_of
list_back longest most ns small few s =
    let same = length-map ns numeral in
    let test : nat_le (length (map numeral ns)) longest ≡ true = grind (arith, nat_tests, few, same) in
    ap (λ b. cond b (numbers_in most (map numeral ns)) None) test ∙ numbers_back most ns small s

-- one line for each answer
pub reply_back : (r : Reply) → IsStored r → reply_of (reply_fields r) ≡ Some r
unfolding reply_of plain_answer_of new_change_of new_patch_of
reply_back (Done (Account n)) s = rw (account_back n s.0 s.1) refl
reply_back (Done Nothing) s = refl
reply_back (Done (Change change patch)) s = rw (within_back most_changes change (omega arith) s.0 s.1, within_back most_patches patch (omega arith) s.2 s.3) refl
reply_back (Done (Patch change patch copied outdated)) s =
    rw (within_back most_changes change (omega arith) s.0 s.1, within_back most_patches patch (omega arith) s.2 s.3, number_back copied s.4, number_back outdated s.5) refl
reply_back (Done (Reviewed comments)) s = rw (list_back most_comments most_comments comments (omega arith) s.0 s.1) refl
reply_back (Done (Submitted joined)) s = rw (list_back most_joined most_changes joined (omega arith) s.0 s.1) refl
reply_back (Refused r) s = refused_back r s
reply_back _ s = absurd s

-- The fields of a stored reply are short.
short_digits : (ds : List ℕ) → length ds ≤ 20 → length (shown_digits ds) < 1000000000
short_digits [] h = omega arith
short_digits (d ∷ ds) h = let same = length-map ds (λ x. 48 + x) in omega (arith, h, same)

short_numeral : (n : ℕ) → n < 18446744073709551616 → length (numeral n) < 1000000000
unfolding numeral
short_numeral n h = short_digits (digits_of 10 n) (length-digits_of-le 10 20 n (omega arith) (omega (arith, h)))

code_below : (c : ExprCode) → code_number c < 18446744073709551616
code_below code.Empty = omega arith
code_below _ = omega arith

fault_below : (f : FileFault) → file_fault_number f < 18446744073709551616
fault_below file.Toml = omega arith
fault_below _ = omega arith

below : (r : Refusal) → refusal_number r < 18446744073709551616
below UnknownCaller = omega arith
below _ = omega arith

short_label : (name : List ℕ) → is_label name ≡ true → length name < 1000000000
unfolding is_label
short_label name e = grind (arith, nat_tests, e)

short_expr : (f : FileFault) → IsPlaced f → AreShort (expr_fields f)
short_expr (file.Expr e) s = (short_numeral (code_number e.code) (code_below e.code), (short_numeral e.place s, tt))
short_expr _ s = tt

short_refusal : (r : Refusal) → IsRefusalOf r → AreShort (refusal_fields r)
short_refusal (RequirementUnsatisfied change requirement) s = let most = s.0.1 in (short_numeral change (omega (arith, most)), (short_label requirement s.1, tt))
short_refusal (BadFile f) s = (short_numeral (file_fault_number f) (fault_below f), short_expr f s)
short_refusal _ s = tt

short_numbers : (most : ℕ) (ns : List ℕ) → most < 18446744073709551616 → AllByRecursion (λ n. (1 ≤ n) × (n ≤ most)) ns → AreShort (map numeral ns)
short_numbers most [] small s = tt
short_numbers most (n ∷ ns) small s = let high = s.0.1 in (short_numeral n (omega (arith, small, high)), short_numbers most ns small s.1)

pub short_reply : (r : Reply) → IsStored r → AreShort (reply_fields r)
short_reply (Done (Account n)) s = (omega arith, (short_numeral n (omega (arith, s.1)), tt))
short_reply (Done Nothing) s = (omega arith, tt)
short_reply (Done (Change change patch)) s = (omega arith, (short_numeral change (omega (arith, s.1)), (short_numeral patch (omega (arith, s.3)), tt)))
short_reply (Done (Patch change patch copied outdated)) s =
    (omega arith, (short_numeral change (omega (arith, s.1)), (short_numeral patch (omega (arith, s.3)), (short_numeral copied s.4, (short_numeral outdated s.5, tt)))))
short_reply (Done (Reviewed comments)) s = (omega arith, (short_numeral (length comments) (omega (arith, s.0)), short_numbers most_comments comments (omega arith) s.1))
short_reply (Done (Submitted joined)) s = (omega arith, (short_numeral (length joined) (omega (arith, s.0)), short_numbers most_changes joined (omega arith) s.1))
short_reply (Refused r) s = (omega arith, (short_numeral (refusal_number r) (below r), short_refusal r s))
short_reply _ s = absurd s

-- What fields are read as is stored.
told_first : {A B : Type 0} (o : Option A) (f : A → Option B) (b : B) → (o >>= f) ≡ Some b → (a : A) × (o ≡ Some a) × (f a ≡ Some b)
told_first (Some a) f b e = (a, refl, e)
told_first None f b e = absurd (cc)

of_test : (b : Bool) (k n : ℕ) → cond b (Some k) None ≡ Some n → (b ≡ true) × (k ≡ n)
of_test true k n e = (refl, cc)
of_test false k n e = absurd (cc)

within_told : (most n : ℕ) (text : List ℕ) → number_within most text ≡ Some n → (1 ≤ n) × (n ≤ most)
unfolding number_within is_within
within_told most n text e =
    let first = told_first (number_of text) (λ k. if is_within most k then Some k else None) n e in
    let test = of_test (is_within most first.0) first.0 n first.2 in
    let range = subst (λ k. is_within most k ≡ true) test.1 test.0 in
    (grind (arith, nat_tests, range), grind (arith, nat_tests, range))

numbers_told : (most : ℕ) (fs : List (List ℕ)) (ns : List ℕ) → numbers_in most fs ≡ Some ns → (length ns ≡ length fs) × AllByRecursion (λ n. (1 ≤ n) × (n ≤ most)) ns
numbers_told most [] [] e = (refl, tt)
numbers_told most [] (n ∷ ns) e = absurd (cc)
numbers_told most (f ∷ fs) ns e =
    let head = told_first (number_within most f) (λ n. numbers_in most fs >>= λ rest. Some (n ∷ rest)) ns e in
    let tail = told_first (numbers_in most fs) (λ rest. Some (head.0 ∷ rest)) ns head.2 in
    let whole : head.0 ∷ tail.0 ≡ ns = cc in
    let rest = numbers_told most fs tail.0 tail.1 in
    let long : length (head.0 ∷ tail.0) ≡ length (f ∷ fs) = let same = rest.0 in omega arith in (
      sym (ap length whole) ∙ long,
      subst (AllByRecursion (λ n. (1 ≤ n) × (n ≤ most))) whole (within_told most head.0 f head.1, rest.1),
    )

-- numbers that are read from not too many fields are not too many, and of their form
pub gives_stored : (longest most : ℕ) (r : Result (List ℕ) Bad) (fs : List (List ℕ))
    → length fs ≤ longest → Gives r (numbers_in most fs) → IfOk r (λ ns. (length ns ≤ longest) × AllByRecursion (λ n. (1 ≤ n) × (n ≤ most)) ns)
gives_stored longest most (Ok ns) fs few gives = let told = numbers_told most fs ns gives in let same = told.0 in (omega (arith, few, same), told.1)
gives_stored longest most (Err e) fs few gives = tt

-- What the fields of a stored reply are cut to, read as and written as.
pub never_uncut : {A : Type 0} (view : A → List (List ℕ)) (o : Option A) (fs : List (List ℕ)) → o ≡ None → option_map view o ≡ Some fs → ⊥
never_uncut view o fs none e = let some : None ≡ Some fs = ap (option_map view) (sym none) ∙ e in cc

pub cut_to : {A : Type 0} (view : A → List (List ℕ)) (o : Option A) (x : A) (fs : List (List ℕ)) → o ≡ Some x → option_map view o ≡ Some fs → view x ≡ fs
cut_to view o x fs some e = let same : Some (view x) ≡ Some fs = ap (option_map view) (sym some) ∙ e in cc

-- what the fields of a stored reply are read as is that reply
pub told_of : (r : Reply) (fs : List (List ℕ)) (o : Result Reply Bad) → IsStored r → fs ≡ reply_fields r → Gives o (reply_of fs) → Gives o (Some r)
told_of r fs o s same gives = subst (Gives o) (ap reply_of same ∙ reply_back r s) gives
