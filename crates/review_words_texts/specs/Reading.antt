-- A text cut into its fields, and numbers and replies read from these.
use Rattle.std.specs.List.{AllByRecursion}
use Rattle.std.specs.Prelude.{[], ℕ, List, length, ◌<◌, slice_index_or, Option, Some, option_map, ◌==◌, if◌then◌else◌, None, ◌∷◌, nat_le, codes, drop}
use Rattle.std.specs.Str.{bytes_eq}
use Rattle.review_names.specs.Forms.{is_within, is_label, most_changes, most_patches, most_comments}
use Rattle.review_names.specs.Numerals.{◌>>=◌, number_of, account_of}
use Rattle.review_words.specs.Faults.{code_of_number, file_fault_of_number}
use Rattle.review_words.specs.{Refusals.refusal_of_number, Texts.most_joined}
use Rattle.review_words.specs.declared.{faults.ExprFault.ExprFault, faults.FileFault.FileFault, reply.Answer.Answer}
use Rattle.review_words.specs.declared.reply.Answer.TheVariants.{Change, Patch, Account, Nothing, Reviewed, Submitted}
use Rattle.review_words.specs.declared.reply.Refusal.{Refusal, TheVariants.RequirementUnsatisfied, TheVariants.BadFile}
use Rattle.review_words.specs.declared.reply.Reply.{Reply, TheVariants.Done, TheVariants.Refused}
use Rattle.review_words.specs.declared.faults.FileFault.TheVariants as file

-- fields that are read: each is below 10^9 bytes
abbrev pub AreShort : List (List ℕ) → Type 0
AreShort fields = AllByRecursion (λ f. length f < 1000000000) fields

-- the field at a place, or the empty one where there are not so many
abbrev pub at : List (List ℕ) → ℕ → List ℕ
at fields i = slice_index_or fields i []

-- the fault of an expression that fields tell: its code, then its place
unfoldable pub expr_fault_of : List (List ℕ) → Option ExprFault
expr_fault_of fields = do
  number ← number_of (at fields 3)
  what ← code_of_number number
  place ← number_of (at fields 4)
  Some (record { place = place; code = what })

-- the fault of a file that fields tell
unfoldable pub file_fault_of : List (List ℕ) → Option FileFault
file_fault_of fields = do
  number ← number_of (at fields 2)
  if number == 7 then option_map (λ fault. file.Expr fault) (expr_fault_of fields) else file_fault_of_number number

-- the number from 1 to the greatest one that a text shows
unfoldable pub number_within : ℕ → List ℕ → Option ℕ
number_within most text = do
  number ← number_of text
  if is_within most number then Some number else None

-- the name of a label or a requirement that a text is
unfoldable pub label_of : List ℕ → Option (List ℕ)
label_of text = if is_label text then Some text else None

-- the change that fields tell, and its requirement that is unsatisfied
unfoldable pub unsatisfied_of : List (List ℕ) → Option Refusal
unsatisfied_of fields = do
  change ← number_within most_changes (at fields 2)
  requirement ← label_of (at fields 3)
  Some (RequirementUnsatisfied change requirement)

-- the refusal that fields tell
unfoldable pub refusal_of : List (List ℕ) → Option Refusal
refusal_of fields = do
  number ← number_of (at fields 1)
  if number == 26 then option_map (λ fault. BadFile fault) (file_fault_of fields)
      else if number == 23 then unsatisfied_of fields
      else refusal_of_number number

-- the new change that fields tell, and its patch set
unfoldable pub new_change_of : List (List ℕ) → Option Answer
new_change_of fields = do
  change ← number_within most_changes (at fields 1)
  patch ← number_within most_patches (at fields 2)
  Some (Change change patch)

-- the new patch set that fields tell, and how many votes were copied and how many were not
unfoldable pub new_patch_of : List (List ℕ) → Option Answer
new_patch_of fields = do
  change ← number_within most_changes (at fields 1)
  patch ← number_within most_patches (at fields 2)
  copied ← number_of (at fields 3)
  outdated ← number_of (at fields 4)
  Some (Patch change patch copied outdated)

-- the numbers from 1 to the greatest one that fields tell
abbrev pub numbers_in : ℕ → List (List ℕ) → Option (List ℕ)
numbers_in most [] = Some []
numbers_in most (f ∷ fs) = do
  number ← number_within most f
  numbers ← numbers_in most fs
  Some (number ∷ numbers)

-- the numbers that fields tell, where there are not too many
unfoldable pub list_of : ℕ → ℕ → List (List ℕ) → Option (List ℕ)
list_of longest most fields = if nat_le (length fields) longest then numbers_in most fields else None

-- the stored answer that fields tell, where it has no list
unfoldable pub plain_answer_of : List (List ℕ) → Option Answer
plain_answer_of fields = let name = at fields 0 in
    if bytes_eq name (codes "Account") then option_map (λ account. Account account) (account_of (at fields 1))
    else if bytes_eq name (codes "Nothing") then Some Nothing
    else if bytes_eq name (codes "Change") then new_change_of fields
    else if bytes_eq name (codes "Patch") then new_patch_of fields
    else None

-- the stored reply that fields tell; the count of a list and further fields are not looked at
unfoldable pub reply_of : List (List ℕ) → Option Reply
reply_of fields = let name = at fields 0 in
    if bytes_eq name (codes "Reviewed") then option_map (λ comments. Done (Reviewed comments)) (list_of most_comments most_comments (drop 2 fields))
    else if bytes_eq name (codes "Submitted") then option_map (λ joined. Done (Submitted joined)) (list_of most_joined most_changes (drop 2 fields))
    else if bytes_eq name (codes "Refused") then option_map (λ refusal. Refused refusal) (refusal_of fields)
    else option_map (λ answer. Done answer) (plain_answer_of fields)
