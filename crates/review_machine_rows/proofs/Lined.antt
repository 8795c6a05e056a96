-- The texts of a line that rows know are those of the history.
use Rattle.std.proofs.Common.{◌≡◌, ℕ, zero, suc, List, [], ◌∷◌, Option, Some, None, cond, not, refl, sym, ap, ◌∙◌, subst, is_some, option_and_then, option_map}
use Rattle.review_machine_rows.proofs.Asked.{each_known, found_of}
use Rattle.review_machine_rows.proofs.Common.{Agrees, AllByRecursion, Entry, FileRow, IsKnown, Reading, Rows, StoredFile, file_in, file_text, is_project, line_of, most_depth, option_map_or, own_of, placed, texts_of, view, with_above}
use Rattle.review_machine_rows.specs.Steps.{line_steps, line_wants, own_in, known_parent, unknown}
use Rattle.review_machine_rows.specs.declared.rows.Want.TheVariants as want

file_from : (o p : Option StoredFile) → option_map FileRow o ≡ option_map FileRow p → o ≡ p
file_from None None e = refl
file_from None (Some y) e = absurd (cc)
file_from (Some x) None e = absurd (cc)
file_from (Some x) (Some y) e = let same : x ≡ y = cc in ap Some same

-- what a project has of its own
pub own_told : (reading : Reading) (h : List Entry) (rows : Rows) (project : List ℕ) → Agrees (view reading h) rows → IsKnown rows (want.File project) → own_in rows project ≡ own_of h project
own_told reading h rows project agree there =
    let r = found_of (view reading h) rows (want.File project) agree there in
    ap file_in (r.1 ∙ ap Some r.2.1) ∙ file_from r.2.0 (own_of h project) (sym r.2.2)

-- a project is there where it has a file
pub there_is : (h : List Entry) (q : List ℕ) → is_project h q ≡ is_some (own_of h q)
there_is h q = by (file_text h q)
  where
    by : (o : Option (List ℕ)) → is_some o ≡ is_some (placed o)
    by None = refl
    by (Some t) = refl

-- fewer steps ask for less
pub fewer : (rows : Rows) (n : ℕ) (p : Option (List ℕ)) → AllByRecursion (λ s. unknown rows s ≡ []) (line_steps rows (suc n) p) → AllByRecursion (λ s. unknown rows s ≡ []) (line_steps rows n p)
fewer rows zero p all = tt
fewer rows (suc n) p all = (all.0, fewer rows n (option_and_then (known_parent rows) p) all.1)

module _ (reading : Reading) (h : List Entry) (rows : Rows) (agree : Agrees (view reading h) rows) where
  -- The line of a project whose files were asked for is that of the history: so many look-ups tell it.
  pub line_told : (n : ℕ) (project : List ℕ) → AllByRecursion (λ s. unknown rows s ≡ []) (line_steps rows n (Some project)) → line_of (own_in rows) n project ≡ line_of (own_of h) n project
  line_told zero project all = refl
  line_told (suc n) project all =
      let told = own_told reading h rows project agree (each_known rows (want.File project ∷ []) all.0).0 in
      by (own_of h project) told (λ q all. line_told n q all) (subst (λ o. AllByRecursion (λ s. unknown rows s ≡ []) (line_steps rows n (option_and_then (λ f. f.parent) o))) told all.1)
    where
      above : (p : Option (List ℕ)) → ((q : List ℕ) → AllByRecursion (λ s. unknown rows s ≡ []) (line_steps rows n (Some q)) → line_of (own_in rows) n q ≡ line_of (own_of h) n q) →
          AllByRecursion (λ s. unknown rows s ≡ []) (line_steps rows n p) → option_map_or (line_of (own_in rows) n) p [] ≡ option_map_or (line_of (own_of h) n) p []
      above None later all = refl
      above (Some q) later all = later q all

      by : (o : Option StoredFile) → own_in rows project ≡ o → ((q : List ℕ) → AllByRecursion (λ s. unknown rows s ≡ []) (line_steps rows n (Some q)) → line_of (own_in rows) n q ≡ line_of (own_of h) n q) → AllByRecursion (λ s. unknown rows s ≡ []) (line_steps rows n (option_and_then (λ f. f.parent) o)) →
          with_above (own_in rows project) (line_of (own_in rows) n) ≡ with_above o (line_of (own_of h) n)
      by None is later all = ap (λ o. with_above o (line_of (own_in rows) n)) is
      by (Some f) is later all = ap (λ o. with_above o (line_of (own_in rows) n)) is ∙ ap (λ ts. f.text ∷ ts) (above f.parent later all)

  -- The texts of a project are those of the history, where its file was asked for and then those of its ancestors.
  pub texts_told : (project : List ℕ) → IsKnown rows (want.File project) → AllByRecursion (λ s. unknown rows s ≡ []) (line_steps rows most_depth (known_parent rows project)) →
      line_of (own_in rows) most_depth project ≡ texts_of h project
  texts_told project there all =
      let told = own_told reading h rows project agree there in
      line_told most_depth project (known_line most_depth project there (known_parent rows project) refl all)
    where
      none_unknown : (q : List ℕ) → IsKnown rows (want.File q) → unknown rows (line_wants (Some q)) ≡ []
      none_unknown q is = ap (λ b. cond (not b) (want.File q ∷ []) []) is

      known_line : (n : ℕ) (q : List ℕ) → IsKnown rows (want.File q) → (p : Option (List ℕ)) → known_parent rows q ≡ p → AllByRecursion (λ s. unknown rows s ≡ []) (line_steps rows n p) →
          AllByRecursion (λ s. unknown rows s ≡ []) (line_steps rows n (Some q))
      known_line zero q is p parent all = tt
      known_line (suc n) q is p parent all = (none_unknown q is, subst (λ o. AllByRecursion (λ s. unknown rows s ≡ []) (line_steps rows n o)) (sym parent) (fewer rows n p all))
