-- What is remembered once a line is read.
use Rattle.std.proofs.Common.{◌≡◌, ◌∷◌, ◌∙◌, Bool, true, false, List, Option, Some, Result, Ok, Err, OnOk, OnErr, map, refl, sym, subst, inl, inr, ℕ, if◌then◌else◌}
use Rattle.std.specs.{BTreeMap.is_at, Cmp.Lexicographic.slice_cmp, Ordering.nat_cmp}
use Rattle.review_file_lines.specs.Kept.{IsKept, IsLineOf}
use Rattle.review_file_lines.specs.declared.lines.{LinePart.LinePart, ReadLine.ReadLine}

module _ (own : LinePart) (above : List LinePart) (name : List ℕ) (before mid : Option ReadLine) (kept : IsKept above name before mid) where
  -- nothing more is remembered
  stays : (after : Option ReadLine) → after ≡ mid → IsKept (own ∷ above) name before after
  stays after same = elim kept [ inl as_before ↦ inl (same ∙ as_before) | inr line ↦ inr (inr (subst (λ (o : Option ReadLine). IsLineOf above name o) (sym same) line)) ]

  module _ (line : ReadLine) (texts : line.texts ≡ own.text.now ∷ map (λ (p : LinePart). p.text.now) above) where
    by_name : (b : Bool) → is_at (slice_cmp nat_cmp own.project.now) name ≡ b → (after : Option ReadLine) → after ≡ (if b then Some line else mid) → IsKept (own ∷ above) name before after
    by_name true is after same = inr (inl (is, line, same, texts))
    by_name false is after same = stays after same

    -- the line is remembered, or there was no memory for it
    pub keeps : {E : Type 0} (result : Result (Unit {0}) E) (after : Option ReadLine)
        → OnOk result (after ≡ (if is_at (slice_cmp nat_cmp own.project.now) name then Some line else mid)) → OnErr result (after ≡ mid) → IsKept (own ∷ above) name before after
    keeps (Ok done) after put same = by_name (is_at (slice_cmp nat_cmp own.project.now) name) refl after put
    keeps (Err e) after put same = stays after same
