use Rattle.std.proofs.Common.{ℕ, List, Some, None, ◌++◌, ◌∷◌, ◌∙◌, drop, length, take, sym, ap, subst, refl}
use Rattle.{std.proofs.Math.Seq.drop-length, memchr.specs.Find.IsFirstByte, memchr.specs.Find.is_byte}
use Rattle.review_json_lines.proofs.Begun.{none_found, one_found, none_before}
use Rattle.review_json_lines.specs.Lines.{IsLineOf, line_feed}
use Rattle.review_json_lines.proofs.lines.Piece.take_part.Goals as goal

pub returns-in_ok-line-in-Some : goal.returns-in_ok-line-in-Some
returns-in_ok-line-in-Some c =
    let found : IsFirstByte (is_byte 10) c.args.self.now (Some c.in-Some.at) =
    subst (λ (l : List ℕ). IsFirstByte (is_byte 10) l (Some c.in-Some.at)) c.as_slice-unread.ensures c.in-Some.ensures in (
      take c.in-Some.at c.args.self.now,
      one_found _ _ found ∙ ap (λ l. take c.in-Some.at c.args.self.now ++ line_feed ∷ l) (sym c.take.ensures),
      none_before _ _ found,
      subst (λ (l : List ℕ). (bytes : List ℕ) → IsLineOf c.args.line bytes → IsLineOf c.in_ok-line-in-Some.line (bytes ++ take c.in-Some.at l)) c.as_slice-unread.ensures c.in_ok-line-in-Some.ensures,
    )

pub returns-in_ok-line-in-None : goal.returns-in_ok-line-in-None
returns-in_ok-line-in-None c =
    let none : IsFirstByte (is_byte 10) c.args.self.now None =
    subst (λ (l : List ℕ). IsFirstByte (is_byte 10) l None) c.as_slice-unread.ensures c.in-None.ensures in
    let same = c.as_slice-unread.ensures in (
      c.args.self.now,
      (refl, c.take-in-None.ensures ∙ ap (λ (l : List ℕ). drop (length l) c.args.self.now) same ∙ drop-length c.args.self.now),
      none_found _ none,
      subst (λ (l : List ℕ). (bytes : List ℕ) → IsLineOf c.args.line bytes → IsLineOf c.in_ok-line-in-None.line (bytes ++ l)) same c.in_ok-line-in-None.ensures,
    )
