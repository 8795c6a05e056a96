-- Asking that goes on: look-ups, steps, and the texts of a line.
use native.Mathlib.Numerals.{unary_clauses}
use Rattle.std.proofs.Common.{append_assoc, ◌≡◌, ℕ, ◌+◌, ◌<◌, List, [], ◌∷◌, ◌++◌, length, map, take, get_or, sym, ap, ◌∙◌, Option, Some, None, refl, subst, zero, suc, ◌≤◌, ◌-◌, true, false, cond, not, is_some, option_and_then, inl, inr, arith}
use Rattle.review_chain.{proofs.Parting.walked_alone, specs.declared.walks.Walked.Walked}
use Rattle.review_file_rules.specs.{Patterns.HasPattern, declared.fault.ReadFault.ReadFault}
use Rattle.review_file_lines.specs.Texts.{IsLineFault}
use Rattle.review_machine_rows.proofs.Asked.{change_comes, come_stays, file_comes, first_comes, to_file}
use Rattle.review_machine_rows.proofs.Common.{Branch, File, IsUnread, SomePattern, file_in, known, line_of, map-append, most_depth, option_map_or, take_more, with_above}
use Rattle.review_machine_rows.specs.Steps.{Topic, HasComeTo, MayGoOnFor, change_wants, file_wants, first_wants, last_wants, line_steps, next, next_of, or_next, parent_of, steps, unknown, unless_none, known_parent, own_in}
use Rattle.review_machine_rows.specs.declared.rows.{Rows.Rows, StoredFile.StoredFile, Want.Want}
use Rattle.review_machine_needs.specs.inner.{Asked.IsAsked, Files.unread_cause, Walks.IsWalkIn}
use Rattle.review_machine_rows.specs.declared.rows.Want.TheVariants as want
use Rattle.review_machine_rows.specs.declared.step.Step.TheVariants as step
use Rattle.review_file_rules.specs.declared.fault.ReadFault.TheVariants as read

-- ==== what is asked, look-up by look-up and step by step

-- one account more
pub accounts_more : (numbers : List ℕ) (i : ℕ) (n : ℕ) → i < length numbers → n ≡ get_or numbers i n → map want.Account (take (i + 1) numbers) ≡ map want.Account (take i numbers) ++ want.Account n ∷ []
accounts_more numbers i n below is =
    ap (map want.Account) (take_more numbers i n below ∙ ap (λ x. take i numbers ++ x ∷ []) (sym is)) ∙ map-append want.Account (take i numbers) (n ∷ [])

-- ==== asking that goes on, step by step

-- the walk of a change alone is one to it
pub walk_alone : (b : Branch) (n : ℕ) (w : Walked) → w ≡ record { change = n; first = n; count = 1 } → IsWalkIn b n w
walk_alone b n w is = subst (IsWalkIn b n) (sym is) (refl, walked_alone b n)

-- the first list is asked where it isn't empty
first_of : (ws later : List Want) → (ws ≡ [] → ⊥) → or_next ws later ≡ ws
first_of [] later some = absurd (some refl)
first_of (w ∷ ws) later some = refl

-- what is left of the steps is asked next
next_is : (file : Option File) (rows : Rows) (caller : ℕ) (topic : Topic) (ws : List Want) → next_of rows (steps file rows caller topic) ≡ ws → (ws ≡ [] → ⊥) → ws ≡ next file rows caller topic
next_is file rows caller topic ws is some = sym (ap (λ l. or_next l (last_wants rows topic)) is ∙ first_of ws (last_wants rows topic) some)

pub first_asked : (file : Option File) (rows : Rows) (caller : ℕ) (topic : Topic) (ws : List Want) → ws ≡ unknown rows (first_wants caller topic) → (ws ≡ [] → ⊥) → IsAsked file rows caller topic ws step.ByChange
first_asked file rows caller topic ws is some =
    let later = next_of rows (change_wants rows topic ∷ (line_steps rows most_depth (parent_of rows topic) ++ file_wants file caller topic ∷ [])) in
    (next_is file rows caller topic ws (ap (λ l. or_next l later) (sym is) ∙ first_of ws later some) some, first_comes file rows caller topic ws (sym is))

pub change_asked : (file : Option File) (rows : Rows) (caller : ℕ) (topic : Topic) (ws : List Want) → HasComeTo file rows caller topic step.ByChange → ws ≡ unknown rows (change_wants rows topic) → (ws ≡ [] → ⊥) →
    IsAsked file rows caller topic ws step.Above
change_asked file rows caller topic ws h is some =
    let rest = next_of rows (line_steps rows most_depth (parent_of rows topic) ++ file_wants file caller topic ∷ []) in (
      next_is file rows caller topic ws (ap (λ l. or_next l (or_next (unknown rows (change_wants rows topic)) rest)) h ∙ (ap (λ l. or_next l rest) (sym is) ∙ first_of ws rest some)) some,
      change_comes file rows caller topic ws h (sym is),
    )

or_of : (ws : List Want) (a b : List Want) → a ≡ ws → (ws ≡ [] → ⊥) → or_next a b ≡ ws
or_of ws a b is some = ap (λ l. or_next l b) is ∙ first_of ws b some

or_parts : (a b c : List Want) → or_next (or_next a b) c ≡ or_next a (or_next b c)
or_parts [] b c = refl
or_parts (w ∷ ws) b c = refl

-- what is left of some steps and of more
next_joined : (rows : Rows) (xs ys : List (List Want)) → next_of rows (xs ++ ys) ≡ or_next (next_of rows xs) (next_of rows ys)
next_joined rows [] ys = refl
next_joined rows (x ∷ xs) ys = ap (or_next (unknown rows x)) (next_joined rows xs ys) ∙ sym (or_parts (unknown rows x) (next_of rows xs) (next_of rows ys))

pub above_asked : (file : Option File) (rows : Rows) (caller : ℕ) (topic : Topic) (ws : List Want) → HasComeTo file rows caller topic step.Above → ws ≡ next_of rows (line_steps rows most_depth (parent_of rows topic)) →
    (ws ≡ [] → ⊥) → IsAsked file rows caller topic ws step.Above
above_asked file rows caller topic ws h is some =
    let line = line_steps rows most_depth (parent_of rows topic) in
    let last = file_wants file caller topic ∷ [] in
    let rest = next_of rows (line ++ last) in
    let left : rest ≡ ws = next_joined rows line last ∙ or_of ws (next_of rows line) (next_of rows last) (sym is) some in (
      next_is file rows caller topic ws (ap (λ l. or_next l (or_next (unknown rows (change_wants rows topic)) rest)) h.0 ∙ (ap (λ l. or_next l rest) h.1 ∙ left)) some,
      λ more all stays. come_stays file rows more caller topic step.Above stays h,
    )

pub file_asked : (file : Option File) (rows : Rows) (caller : ℕ) (topic : Topic) (ws : List Want) → HasComeTo file rows caller topic step.ByFile → ws ≡ unknown rows (file_wants file caller topic) → (ws ≡ [] → ⊥) →
    IsAsked file rows caller topic ws (step.Last None)
file_asked file rows caller topic ws h is some =
    (next_is file rows caller topic ws (to_file file rows caller topic h ∙ or_of ws (unknown rows (file_wants file caller topic)) [] (sym is) some) some, file_comes file rows caller topic ws h (sym is))

-- what is asked last, which goes on from a walk
pub last_asked : (file : Option File) (rows : Rows) (caller : ℕ) (topic : Topic) (ws : List Want) (o walked : Option Walked) → HasComeTo file rows caller topic (step.Last o) → ws ≡ last_wants rows topic → MayGoOnFor rows topic walked →
    IsAsked file rows caller topic ws (step.Last walked)
last_asked file rows caller topic ws o walked h is may =
    (is ∙ sym (ap (λ l. or_next l (last_wants rows topic)) h.0), λ more all stays. come_stays file rows more caller topic (step.Last walked) stays (h.0, may))

nonempty : (ws : List Want) → (ws ≡ [] → ⊥) → Some ws ≡ unless_none ws
nonempty [] some = absurd (some refl)
nonempty (w ∷ ws) some = refl

-- some look-ups that are those asked next
pub some_asked : (ws next : List Want) → ws ≡ next → (ws ≡ [] → ⊥) → Some ws ≡ unless_none next
some_asked ws next is some = nonempty ws some ∙ ap unless_none is

-- ==== what is left of the steps of a line

-- nothing is left where no project is
pub no_line : (rows : Rows) (n : ℕ) → next_of rows (line_steps rows n None) ≡ []
no_line rows zero = refl
no_line rows (suc n) = no_line rows n

-- the file of the project is left where it isn't known
pub line_unknown : (rows : Rows) (n : ℕ) (q : List ℕ) → is_some (known rows (want.File q)) ≡ false → next_of rows (line_steps rows (suc n) (Some q)) ≡ want.File q ∷ []
line_unknown rows n q is = ap (λ b. or_next (cond (not b) (want.File q ∷ []) []) (next_of rows (line_steps rows n (known_parent rows q)))) is

-- otherwise what is left of its parent's line
pub line_known : (rows : Rows) (n : ℕ) (q : List ℕ) → is_some (known rows (want.File q)) ≡ true → next_of rows (line_steps rows (suc n) (Some q)) ≡ next_of rows (line_steps rows n (known_parent rows q))
line_known rows n q is = ap (λ b. or_next (cond (not b) (want.File q ∷ []) []) (next_of rows (line_steps rows n (known_parent rows q)))) is

-- the same, where the length is told to be above none
pub line_unknown_at : (rows : Rows) (n : ℕ) (q : List ℕ) → 0 < n → is_some (known rows (want.File q)) ≡ false → next_of rows (line_steps rows n (Some q)) ≡ want.File q ∷ []
line_unknown_at rows zero q above is = elim above [ ]
line_unknown_at rows (suc n) q above is = line_unknown rows n q is

pub line_known_at : (rows : Rows) (n : ℕ) (q : List ℕ) → 0 < n → is_some (known rows (want.File q)) ≡ true → next_of rows (line_steps rows n (Some q)) ≡ next_of rows (line_steps rows (n - 1) (known_parent rows q))
line_known_at rows zero q above is = elim above [ ]
line_known_at rows (suc n) q above is = simp unary_clauses (line_known rows n q is)

-- the same, where the project and the parent of its file are told by what is known of the file
pub line_goes_on : (rows : Rows) (n : ℕ) (q copied : List ℕ) (parent : Option (List ℕ)) → copied ≡ q → 0 < n → is_some (known rows (want.File copied)) ≡ true →
    parent ≡ option_and_then (λ f. f.parent) (file_in (known rows (want.File copied))) → next_of rows (line_steps rows n (Some q)) ≡ next_of rows (line_steps rows (n - 1) parent)
line_goes_on rows n q copied parent same above there is =
    line_known_at rows n q above (ap (λ x. is_some (known rows (want.File x))) (sym same) ∙ there)
    ∙ ap (λ p. next_of rows (line_steps rows (n - 1) p)) (ap (known_parent rows) (sym same) ∙ sym is)

-- nothing is left of a line that has come to its greatest length
pub no_length : (rows : Rows) (n : ℕ) (p : Option (List ℕ)) → n ≤ 0 → next_of rows (line_steps rows n p) ≡ []
no_length rows zero p at_end = refl
no_length rows (suc n) p at_end = elim at_end [ ]

-- ==== the texts of a line as rows know them, one after the other

-- the texts of a project and its ancestors, so many at most
abbrev pub texts_from : Rows → ℕ → Option (List ℕ) → List (List ℕ)
texts_from rows n p = option_map_or (line_of (own_in rows) n) p []

-- the first text, and those of its parent's line
more : (rows : Rows) (n : ℕ) (p : List ℕ) (f : StoredFile) → 0 < n → own_in rows p ≡ Some f → line_of (own_in rows) n p ≡ f.text ∷ texts_from rows (n - 1) f.parent
more rows zero p f above is = elim above [ ]
more rows (suc n) p f above is = simp unary_clauses (ap (λ o. with_above o (line_of (own_in rows) n)) is)

pub texts_more : (rows : Rows) (n : ℕ) (next : Option (List ℕ)) (p : List ℕ) (f : StoredFile) → 0 < n → next ≡ Some p → own_in rows p ≡ Some f → texts_from rows n next ≡ f.text ∷ texts_from rows (n - 1) f.parent
texts_more rows n next p f above is there = ap (texts_from rows n) is ∙ more rows n p f above there

-- one more text is taken
pub taken_more : (taken now : List (List ℕ)) (text : List ℕ) (rest all left : List (List ℕ)) → now ≡ taken ++ text ∷ [] → left ≡ text ∷ rest → taken ++ left ≡ all → now ++ rest ≡ all
taken_more taken now text rest all left is next so = ap (λ l. l ++ rest) is ∙ (append_assoc taken (text ∷ []) rest ∙ (sym (ap (λ l. taken ++ l) next) ∙ so))

some_pattern : (texts : List (List ℕ)) (k : ℕ) (t : List ℕ) → k < length texts → get_or texts k t ≡ t → HasPattern t → SomePattern texts
some_pattern [] k t below is pattern = absurd (omega arith)
some_pattern (x ∷ xs) zero t below is pattern = inl (subst HasPattern (sym is) pattern)
some_pattern (x ∷ xs) (suc k) t below is pattern = inr (some_pattern xs k t (omega arith) is pattern)

-- why a stored line is not read
pub unread_is : (text : List ℕ) (above : List (List ℕ)) (fault : ReadFault) → IsLineFault (text ∷ above) fault → IsUnread (text ∷ above) (unread_cause fault)
unread_is text above read.Memory is = tt
unread_is text above read.Pattern is = some_pattern (text ∷ above) is.1.0 is.0 is.1.1 is.1.2 is.2
unread_is text above (read.File fault) is = is
