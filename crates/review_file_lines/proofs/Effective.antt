-- The effective files of lines.
use Rattle.std.proofs.Common.{Result, map, length, take, drop, get_or, ◌-◌, ◌≤◌, ◌≡◌, ℕ, List, [], ◌∷◌, refl, subst, sym, suc, arith, IfErr, IsErrAnd}
use Rattle.std.proofs.lemmas.{Grind.common_steps, Result.err_from_is_err_and}
use Rattle.review_expr.specs.declared.expr.Expr.{Expr}
use Rattle.review_file_rules.{proofs.Together.never_both, specs.Inherited.IsEffective, specs.Inherited.inherit}
use Rattle.review_file_rules.specs.{Patterns.HasPattern, Reading.IsRead, Reading.IsReadFault, View.FileView}
use Rattle.review_file_rules.specs.declared.fault.ReadFault.{ReadFault}
use Rattle.review_file_lines.specs.{Texts.IsLineFault, declared.lines.LinePart.LinePart}
use Rattle.review_file_rules.specs.declared.fault.ReadFault.TheVariants as read

-- an effective file of texts is one of the same texts
effective_as : (texts others : List (List ℕ)) (f g : FileView Expr) → texts ≡ others → f ≡ g → IsEffective others g → IsEffective texts f
effective_as texts others f g same is effective = subst (λ t. IsEffective t f) (sym same) (subst (IsEffective others) (sym is) effective)

-- an own file goes on from that of its parent
effective_on : (text : List ℕ) (above : List (List ℕ)) (own parent : FileView Expr) → IsRead text own → IsEffective above parent → IsEffective (text ∷ above) (inherit parent own)
effective_on text [] own parent right effective = absurd effective
effective_on text (t ∷ ts) own parent right effective = (own, parent, right, effective, refl)

pub effective_with : (texts above : List (List ℕ)) (text : List ℕ) (f own parent : FileView Expr) → texts ≡ text ∷ above → f ≡ inherit parent own → IsRead text own → IsEffective above parent → IsEffective texts f
effective_with texts above text f own parent same is right effective = effective_as texts (text ∷ above) f (inherit parent own) same is (effective_on text above own parent right effective)

-- what the own text spells, where a line has an effective file
own_read : (text : List ℕ) (above : List (List ℕ)) (f : FileView Expr) → IsEffective (text ∷ above) f → (own : FileView Expr) × IsRead text own
own_read text [] f effective = (f, effective)
own_read text (t ∷ ts) f effective = (effective.0, effective.2)

-- a fault of the own text is one of the line
pub fault_own : (text : List ℕ) (above : List (List ℕ)) (e : ReadFault) → IsReadFault text e → (e ≡ read.Pattern → HasPattern text) → IsLineFault (text ∷ above) e
fault_own text above read.Memory is pattern = tt
fault_own text above read.Pattern is pattern = (text, (0, omega arith, refl), pattern refl)
fault_own text above (read.File fault) is pattern = λ f effective. let own = own_read text above f effective in never_both text own.0 fault own.1 is

-- and so is a fault of the line above
pub fault_above : (text parent : List ℕ) (above : List (List ℕ)) (e : ReadFault) → IsLineFault (parent ∷ above) e → IsLineFault (text ∷ parent ∷ above) e
fault_above text parent above read.Memory is = tt
fault_above text parent above read.Pattern is = (is.0, (suc is.1.0, omega (arith, is.1.1), is.1.2), is.2)
fault_above text parent above (read.File fault) is = λ f effective. is effective.1 effective.3

-- a line above is its first part and the rest
pub rest_texts : (parts : List LinePart) (p : LinePart) → 1 ≤ length parts → p ≡ get_or parts 0 p → map (λ q. q.text.now) parts ≡ p.text.now ∷ map (λ q. q.text.now) (take (length parts - 1) (drop 1 parts))
rest_texts parts p some is = grind (arith, common_steps)

fault_rest : (text : List ℕ) (parts : List LinePart) (p : LinePart) (e : ReadFault) → 1 ≤ length parts → p ≡ get_or parts 0 p → IsLineFault (p.text.now ∷ map (λ q. q.text.now) (take (length parts - 1) (drop 1 parts))) e →
    IsLineFault (text ∷ map (λ q. q.text.now) parts) e
fault_rest text parts p e some is h =
    subst (λ ts. IsLineFault (text ∷ ts) e) (sym (rest_texts parts p some is)) (fault_above text p.text.now (map (λ q. q.text.now) (take (length parts - 1) (drop 1 parts))) e h)

err_of : {T : Type 0} (r : Result T ReadFault) (P : ReadFault → Type 0) (e : ReadFault) → IsErrAnd r (λ x. x ≡ e) → P e → IfErr r P
err_of r P e is h = let p = err_from_is_err_and r is in subst (λ x. IfErr x P) (sym p.1) (subst P (sym p.2) h)

pub own_failed : {T : Type 0} (r : Result T ReadFault) (text : List ℕ) (above : List (List ℕ)) (e : ReadFault) → IsErrAnd r (λ x. x ≡ e) → IsReadFault text e → (e ≡ read.Pattern → HasPattern text) → IfErr r (IsLineFault (text ∷ above))
own_failed r text above e is fault pattern = err_of r (IsLineFault (text ∷ above)) e is (fault_own text above e fault pattern)

pub above_failed : {T : Type 0} (r : Result T ReadFault) (text : List ℕ) (parts : List LinePart) (p : LinePart) (e : ReadFault) → IsErrAnd r (λ x. x ≡ e) → 1 ≤ length parts → p ≡ get_or parts 0 p →
    IsLineFault (p.text.now ∷ map (λ q. q.text.now) (take (length parts - 1) (drop 1 parts))) e → IfErr r (IsLineFault (text ∷ map (λ q. q.text.now) parts))
above_failed r text parts p e is some first h = err_of r (IsLineFault (text ∷ map (λ q. q.text.now) parts)) e is (fault_rest text parts p e some first h)
