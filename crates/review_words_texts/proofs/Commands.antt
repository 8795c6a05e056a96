-- A command is what its fields are read as.
use Rattle.std.proofs.Common.{◌≡◌, ℕ, zero, suc, ℤ, pos, negsuc, ◌+◌, ◌*◌, ◌-◌, ◌<◌, ◌≤◌, List, [], ◌∷◌, ◌++◌, append_assoc, append-nil, length, map, take, drop, slice_index, refl, sym, ap, ◌∙◌, arith, Option, Some, None, Bool, true, false, take_at, drop_at, codes, flat_map, if◌then◌else◌, ◌==◌, unwrap_or, bytes_eq}
use Rattle.std.proofs.lemmas.{Bool.Decides.nat_tests, Int.Digits.all_below_base_digits_of}
use Rattle.std.specs.{Int.Digits.digits_of, List.AllByRecursion}
use Rattle.review_names.proofs.Numerals.{value, value_numeral}
use Rattle.review_names.specs.Kinds.{kind_name, kind_named}
use Rattle.review_names.specs.{Numerals.numeral, Numerals.shown_digits, declared.kinds.ChangeKind.ChangeKind}
use Rattle.review_words.specs.Texts.{asked_fields, asked_name, command_fields, comment_fields, given_fields, role_name, role_named, shown_flag, shown_link, shown_patch, shown_truth, signed}
use Rattle.review_words.specs.declared.changes.{Given.Given, NewChange.NewChange, NewComment.NewComment}
use Rattle.review_words.specs.declared.changes.{NewPatch.NewPatch, Review.Review, Role.Role}
use Rattle.review_words.specs.declared.command.{ChangeCommand.ChangeCommand, Command.Command}
use Rattle.review_words.specs.declared.command.Command.TheVariants.{CreateAccount, PutGroup, PutProject, RecordBase, CloseEpoch, CreateChange, OnChange, Submit}
use Rattle.review_words_texts.specs.Reading.{at}
use Rattle.review_names.specs.declared.kinds.ChangeKind.TheVariants as kind
use Rattle.review_words.specs.declared.changes.Role.TheVariants as role
use Rattle.review_words.specs.declared.command.ChangeCommand.TheVariants as asked

-- What fields are read as; whatever where they are none of a command.
abbrev pub truth_of : List ℕ → Bool
truth_of text = slice_index text 0 == 116

abbrev pub flag_of : List ℕ → Option Bool
flag_of text = if slice_index text 0 == 97 then None else Some (truth_of text)

abbrev pub patch_of : List ℕ → Option ℕ
patch_of text = if slice_index text 0 == 99 then None else Some (value text)

abbrev pub link_of : List ℕ → Option ℕ
link_of text = if slice_index text 0 == 97 then None else Some (value text)

abbrev pub negative : ℕ → ℤ
negative n = negsuc (n - 1)

abbrev pub rest_of : List ℕ → List ℕ
rest_of [] = []
rest_of (c ∷ cs) = cs

abbrev pub signed_value : List ℕ → ℤ
signed_value text = if slice_index text 0 == 45 then negative (value (rest_of text)) else pos (value text)

abbrev pub kind_of : List ℕ → ChangeKind
kind_of text = unwrap_or (kind_named text) kind.Rework

abbrev pub new_change_of : List (List ℕ) → NewChange
new_change_of fields = let n = value (at fields 5) in
    record { project = at fields 0; branch = at fields 1; subject = at fields 2; commit = at fields 3; parent = at fields 4; paths = take n (drop 6 fields); wip = truth_of (at (drop n (drop 6 fields)) 0) }

abbrev pub new_patch_of : List (List ℕ) → NewPatch
new_patch_of fields = record { commit = at fields 0; parent = at fields 1; kind = kind_of (at fields 2); paths = drop 4 fields }

abbrev pub given_of : List (List ℕ) → Given
given_of fields = record { label = at fields 0; value = signed_value (at fields 1) }

abbrev pub comment_of : List (List ℕ) → NewComment
comment_of fields = record { path = at fields 0; line = value (at fields 1); message = at fields 2; unresolved = flag_of (at fields 3); in_reply_to = link_of (at fields 4) }

-- n members of so many fields each
abbrev pub members_at : {A : Type 0} → (List (List ℕ) → A) → ℕ → ℕ → List (List ℕ) → List A
members_at member size zero fields = []
members_at member size (suc n) fields = member fields ∷ members_at member size n (drop size fields)

abbrev pub comments_of : List (List ℕ) → List NewComment
comments_of fields = members_at comment_of 5 (value (at fields 0)) (drop 1 fields)

abbrev pub review_of : List (List ℕ) → Review
review_of fields = let n = value (at fields 2) in
    record { patch = patch_of (at fields 0); message = at fields 1; labels = members_at given_of 2 n (drop 3 fields); comments = comments_of (drop (2 * n) (drop 3 fields)) }

abbrev pub role_of : List ℕ → Role
role_of text = unwrap_or (role_named text) role.Cc

-- what is asked of a change, by its name and its fields
abbrev pub asked_of : List ℕ → List (List ℕ) → ChangeCommand
asked_of name fields = let account = value (at fields 0) in
    if bytes_eq name (codes "Upload") then asked.Upload (new_patch_of fields)
    else if bytes_eq name (codes "Review") then asked.Review (review_of fields)
    else if bytes_eq name (codes "AddReviewer") then asked.AddReviewer account (role_of (at fields 1))
    else if bytes_eq name (codes "RemoveReviewer") then asked.RemoveReviewer account
    else if bytes_eq name (codes "SetWip") then asked.SetWip
    else if bytes_eq name (codes "SetReady") then asked.SetReady
    else if bytes_eq name (codes "Abandon") then asked.Abandon
    else if bytes_eq name (codes "Restore") then asked.Restore
    else if bytes_eq name (codes "AddAttention") then asked.AddAttention account (at fields 1)
    else asked.RemoveAttention account (at fields 1)

-- the command of fields
abbrev pub command_of : List (List ℕ) → Command
command_of fields = let name = at fields 0 in let rest = drop 1 fields in
    if bytes_eq name (codes "CreateAccount") then CreateAccount (at rest 0)
    else if bytes_eq name (codes "PutGroup") then PutGroup (at rest 0) (map value (drop 2 rest))
    else if bytes_eq name (codes "PutProject") then PutProject (at rest 0) (at rest 1)
    else if bytes_eq name (codes "RecordBase") then RecordBase (at rest 0) (at rest 1) (at rest 2)
    else if bytes_eq name (codes "CreateChange") then CreateChange (new_change_of rest)
    else if bytes_eq name (codes "Submit") then Submit (value (at rest 0))
    else if bytes_eq name (codes "CloseEpoch") then CloseEpoch (value (at rest 0))
    else OnChange (value (at rest 0)) (asked_of name (drop 1 rest))

numbers_back : (ns : List ℕ) → map value (map numeral ns) ≡ ns
numbers_back [] = refl
numbers_back (n ∷ ns) = let head = value_numeral n in let tail = numbers_back ns in λ i. head i ∷ tail i

-- a numeral begins with a digit
first_low : (ds : List ℕ) → AllByRecursion (λ d. d < 10) ds → slice_index (shown_digits ds) 0 < 58
first_low [] h = omega arith
first_low (d ∷ ds) h = let low = h.0 in omega arith

first_high : (ds : List ℕ) → 48 ≤ slice_index (shown_digits ds) 0
first_high [] = omega arith
first_high (d ∷ ds) = omega arith

begins_low : (n : ℕ) → slice_index (numeral n) 0 < 58
unfolding numeral
begins_low n = first_low (digits_of 10 n) (all_below_base_digits_of 10 n (omega arith))

begins_high : (n : ℕ) → 48 ≤ slice_index (numeral n) 0
unfolding numeral
begins_high n = first_high (digits_of 10 n)

-- the parts of fields
truth_back : (b : Bool) → truth_of (shown_truth b) ≡ b
truth_back true = refl
truth_back false = refl

flag_back : (o : Option Bool) → flag_of (shown_flag o) ≡ o
flag_back (Some true) = refl
flag_back _ = refl

patch_back : (o : Option ℕ) → patch_of (shown_patch o) ≡ o
patch_back None = refl
patch_back (Some n) = grind (arith, nat_tests, begins_low n, value_numeral n)

link_back : (o : Option ℕ) → link_of (shown_link o) ≡ o
link_back None = refl
link_back (Some n) = grind (arith, nat_tests, begins_low n, value_numeral n)

negative_back : (m n : ℕ) → m ≡ n + 1 → negative m ≡ negsuc n
negative_back m n e = let d : m - 1 ≡ n = omega arith in ap negsuc d

signed_back : (z : ℤ) → signed_value (signed z) ≡ z
signed_back (pos n) = grind (arith, nat_tests, begins_high n, value_numeral n)
signed_back (negsuc n) = negative_back (value (numeral (n + 1))) n (value_numeral (n + 1))

kind_back : (k : ChangeKind) → kind_of (kind_name k) ≡ k
unfolding kind_named
kind_back kind.NoChange = refl
kind_back _ = refl

role_back : (r : Role) → role_of (role_name r) ≡ r
unfolding role_named
role_back role.Reviewer = refl
role_back role.Cc = refl

given_back : (g : Given) (rest : List (List ℕ)) → given_of (given_fields g ++ rest) ≡ g
given_back g rest = ap (λ v. record { label = g.label; value = v }) (signed_back g.value)

comment_back : (c : NewComment) (rest : List (List ℕ)) → comment_of (comment_fields c ++ rest) ≡ c
comment_back c rest =
    let line = value_numeral c.line in
    let flag = flag_back c.unresolved in
    let link = link_back c.in_reply_to in
    λ i. record { path = c.path; line = line i; message = c.message; unresolved = flag i; in_reply_to = link i }

-- the members of a list
members_back : {A : Type 0} (member : List (List ℕ) → A) (fields : A → List (List ℕ)) (size : ℕ)
    → ((a : A) (rest : List (List ℕ)) → (member (fields a ++ rest) ≡ a) × (drop size (fields a ++ rest) ≡ rest))
    → (xs : List A) (rest : List (List ℕ)) → members_at member size (length xs) (flat_map fields xs ++ rest) ≡ xs
members_back member fields size one [] rest = refl
members_back member fields size one (a ∷ xs) rest =
    let e = append_assoc (fields a) (flat_map fields xs) rest in
    let o = one a (flat_map fields xs ++ rest) in
    let head = ap member e ∙ o.0 in
    let tail = ap (members_at member size (length xs)) (ap (drop size) e ∙ o.1) ∙ members_back member fields size one xs rest in
    λ i. head i ∷ tail i

given_length : (gs : List Given) → length (flat_map given_fields gs) ≡ 2 * length gs
given_length [] = refl
given_length (g ∷ gs) = let t = given_length gs in omega arith

labels_back : (gs : List Given) (rest : List (List ℕ)) (n : ℕ) → n ≡ length gs → members_at given_of 2 n (flat_map given_fields gs ++ rest) ≡ gs
labels_back gs rest n e = ap (λ m. members_at given_of 2 m (flat_map given_fields gs ++ rest)) e ∙ members_back given_of given_fields 2 (λ g r. (given_back g r, refl)) gs rest

behind_labels : (gs : List Given) (rest : List (List ℕ)) (n : ℕ) → n ≡ length gs → drop (2 * n) (flat_map given_fields gs ++ rest) ≡ rest
behind_labels gs rest n e = drop_at (flat_map given_fields gs) rest (2 * n) (given_length gs ∙ sym (ap (λ m. 2 * m) e))

comments_back : (cs : List NewComment) → comments_of (numeral (length cs) ∷ flat_map comment_fields cs) ≡ cs
comments_back cs =
    ap (λ m. members_at comment_of 5 m (flat_map comment_fields cs)) (value_numeral (length cs))
    ∙ (ap (members_at comment_of 5 (length cs)) (sym (append-nil (flat_map comment_fields cs))) ∙ members_back comment_of comment_fields 5 (λ c r. (comment_back c r, refl)) cs [])

review_back : (r : Review) → review_of (asked_fields (asked.Review r)) ≡ r
review_back r =
    let behind = numeral (length r.comments) ∷ flat_map comment_fields r.comments in
    let count = value_numeral (length r.labels) in
    let patch = patch_back r.patch in
    let labels = labels_back r.labels behind (value (numeral (length r.labels))) count in
    let comments = ap comments_of (behind_labels r.labels behind (value (numeral (length r.labels))) count) ∙ comments_back r.comments in
    λ i. record { patch = patch i; message = r.message; labels = labels i; comments = comments i }

change_back : (new : NewChange) → command_of (command_fields (CreateChange new)) ≡ CreateChange new
change_back new =
    let behind = shown_truth new.wip ∷ [] in
    let count = sym (value_numeral (length new.paths)) in
    let paths = take_at new.paths behind (value (numeral (length new.paths))) count in
    let wip = ap (λ fields. truth_of (at fields 0)) (drop_at new.paths behind (value (numeral (length new.paths))) count) ∙ truth_back new.wip in
    λ i. CreateChange (record { project = new.project; branch = new.branch; subject = new.subject; commit = new.commit; parent = new.parent; paths = paths i; wip = wip i })

patch_set_back : (new : NewPatch) → new_patch_of (asked_fields (asked.Upload new)) ≡ new
patch_set_back new = ap (λ kind. record { commit = new.commit; parent = new.parent; kind = kind; paths = new.paths }) (kind_back new.kind)

call_back : (ask : ℕ → List ℕ → ChangeCommand) (account : ℕ) (reason : List ℕ) → ask (value (numeral account)) reason ≡ ask account reason
call_back ask account reason = ap (λ n. ask n reason) (value_numeral account)

-- one line for each command on a change
asked_back : (c : ChangeCommand) → asked_of (asked_name c) (asked_fields c) ≡ c
asked_back (asked.Upload new) = ap asked.Upload (patch_set_back new)
asked_back (asked.Review review) = ap asked.Review (review_back review)
asked_back (asked.AddReviewer account as_what) = let number = value_numeral account in let back = role_back as_what in λ i. asked.AddReviewer (number i) (back i)
asked_back (asked.RemoveReviewer account) = ap asked.RemoveReviewer (value_numeral account)
asked_back (asked.AddAttention account reason) = call_back asked.AddAttention account reason
asked_back (asked.RemoveAttention account reason) = call_back asked.RemoveAttention account reason
asked_back _ = refl

-- A name of what is asked of a change is that of no other command.
asked_alone : (c : ChangeCommand) (rest : List (List ℕ)) → command_of (asked_name c ∷ rest) ≡ OnChange (value (at rest 0)) (asked_of (asked_name c) (drop 1 rest))
asked_alone (asked.Upload new) rest = refl
asked_alone _ rest = refl

on_change_back : (change : ℕ) (c : ChangeCommand) → command_of (command_fields (OnChange change c)) ≡ OnChange change c
on_change_back change c =
    let number = value_numeral change in
    let back = asked_back c in
    asked_alone c (numeral change ∷ asked_fields c) ∙ (λ i. OnChange (number i) (back i))

-- one line for each command
pub command_back : (c : Command) → command_of (command_fields c) ≡ c
command_back (PutGroup group members) = ap (PutGroup group) (numbers_back members)
command_back (CreateChange new) = change_back new
command_back (OnChange change command) = on_change_back change command
command_back (Submit change) = let number = value_numeral change in λ i. Submit (number i)
command_back (CloseEpoch epoch) = let number = value_numeral epoch in λ i. CloseEpoch (number i)
command_back _ = refl
