-- Copy conditions that were compiled.
use Rattle.std.proofs.Common.{◌≡◌, ◌<◌, ◌+◌, ℕ, ℤ, List, [], ◌∷◌, ◌++◌, length, take, get_or, ap₂, Bool, true, false, Option, Some, None, Result, Ok, Err, IfOk, map, sym, ap, ◌∙◌, subst, refl, All, cond, find, option_map, bytes_eq}
use Rattle.std.proofs.Math.{Bool.Bool-set, Logic.∥∥₁_elim}
use Rattle.std.proofs.lemmas.List.{map-append, take_more, Elements.All-head, Elements.All-tail}
use Rattle.std.specs.{Coded.Unit-prop, Option.option_map_or, declared.alloc.AllocError.AllocError}
use Rattle.review_expr_judging.specs.declared.facts.VoteFacts.{VoteFacts}
use Rattle.review_expr.specs.{Exprs.AreTermsOf, declared.compiled.Terms.Terms, declared.expr.Expr.Expr}
use Rattle.review_file_rules.specs.View.{FileView, LabelView}
use Rattle.review_core_rules.specs.Change.{condition_holds, label_in, range_of}
use Rattle.review_core_tables.specs.Conditions.{AreConditions, AreTermsOfAny, IsCompiled}
use Rattle.review_core_tables.specs.{Copies.copies_by, declared.copying.Condition.Condition}

abbrev label_of : Condition → LabelView Expr
label_of c = c.label.now

abbrev is_on : List ℕ → Condition → Bool
is_on l c = bytes_eq c.label.now.name l

same_found : (b : Bool) (c : Condition) (o : Option (LabelView Expr)) (p : Option Condition) → o ≡ option_map label_of p → cond b (Some (label_of c)) o ≡ option_map label_of (cond b (Some c) p)
same_found true c o p e = refl
same_found false c o p e = e

-- the condition of a name stands where its label does
find_label : (l : List ℕ) (cs : List Condition) → find (λ x. bytes_eq x.name l) (map label_of cs) ≡ option_map label_of (find (is_on l) cs)
find_label l [] = refl
find_label l (c ∷ cs) = same_found (is_on l c) c _ _ (find_label l cs)

found_first : (b : Bool) (d c : Condition) (o : Option Condition) → cond b (Some d) o ≡ Some c → IsCompiled d → (o ≡ Some c → IsCompiled c) → IsCompiled c
found_first true d c o e here later = let g : d ≡ c = let h : Some d ≡ Some c = e in cc in subst IsCompiled g here
found_first false d c o e here later = later e

found_compiled : (f : Condition → Bool) (cs : List Condition) (c : Condition) → All IsCompiled cs → find f cs ≡ Some c → IsCompiled c
found_compiled f [] c all e = absurd (let g : None ≡ Some c = e in cc)
found_compiled f (d ∷ ds) c all e = found_first (f d) d c (find f ds) e (All-head IsCompiled d ds all) (λ h. found_compiled f ds c (All-tail IsCompiled d ds all) h)

label_found : (file : FileView Expr) (l : List ℕ) (cs : List Condition) (o : Option Condition) → AreConditions file.labels cs → o ≡ find (is_on l) cs → label_in file l ≡ option_map label_of o
label_found file l cs o k e = ap (find (λ x. bytes_eq x.name l)) (sym k.each) ∙ find_label l cs ∙ ap (option_map label_of) (sym e)

no_terms : (o : Option Expr) (t : Option Terms) → AreTermsOfAny o t → t ≡ None → o ≡ None
no_terms None t k e = refl
no_terms (Some x) None k e = absurd k
no_terms (Some x) (Some t) k e = absurd (let g : Some t ≡ None = e in cc)

terms_of : (o : Option Expr) (ts : Option Terms) (t : Terms) → AreTermsOfAny o ts → ts ≡ Some t → (e : Expr) × (o ≡ Some e) × AreTermsOf e t
terms_of None None t k e = absurd (let g : None ≡ Some t = e in cc)
terms_of None (Some u) t k e = absurd k
terms_of (Some x) None t k e = absurd k
terms_of (Some x) (Some u) t k e = (x, refl, subst (AreTermsOf x) (let g : Some u ≡ Some t = e in cc) k)

-- no vote on a label that a file doesn't have is copied
pub copied_none : (file : FileView Expr) (f : VoteFacts) (l : List ℕ) (a : ℕ) (v : ℤ) (cs : List Condition) → ∥ AreConditions file.labels cs ∥₁ → None ≡ find (is_on l) cs → false ≡ copies_by file f l a v
copied_none file f l a v cs made e = ∥∥₁_elim made (Bool-set _ _) (λ k. sym (ap (λ o. option_map_or (λ x. condition_holds x.copy_condition (record f { value = v; voter = a; range = range_of x })) o false) (label_found file l cs None k e)))

-- nor is one on a label without a copy condition
pub copied_never : (file : FileView Expr) (f : VoteFacts) (l : List ℕ) (a : ℕ) (v : ℤ) (cs : List Condition) (c : Condition) → ∥ AreConditions file.labels cs ∥₁ → Some c ≡ find (is_on l) cs → c.terms ≡ None → false ≡ copies_by file f l a v
copied_never file f l a v cs c made e none =
    ∥∥₁_elim made (Bool-set _ _)
    (λ k. sym (ap (λ o. option_map_or (λ x. condition_holds x.copy_condition (record f { value = v; voter = a; range = range_of x })) o false) (label_found file l cs (Some c) k e)
    ∙ ap (λ o. condition_holds o (record f { value = v; voter = a; range = range_of (label_of c) })) (no_terms (label_of c).copy_condition c.terms (found_compiled (is_on l) cs c k.compiled (sym e)) none)))

told_prop : (r : Result Bool AllocError) (x : Bool) → IsProp (IfOk r (λ b. b ≡ x))
told_prop (Ok b) x = Bool-set b x
told_prop (Err e) x = Unit-prop

-- a vote is copied where the copy condition of its label holds
pub copied_where : (file : FileView Expr) (f : VoteFacts) (l : List ℕ) (a : ℕ) (v : ℤ) (cs : List Condition) (c : Condition) (t : Terms) (r : Result Bool AllocError) → ∥ AreConditions file.labels cs ∥₁ → Some c ≡ find (is_on l) cs → c.terms ≡ Some t →
    ((e : Expr) → AreTermsOf e t → IfOk r (λ b. b ≡ condition_holds (Some e) (record f { value = v; voter = a; range = range_of (label_of c) }))) → IfOk r (λ b. b ≡ copies_by file f l a v)
copied_where file f l a v cs c t r made found some held =
    ∥∥₁_elim made (told_prop r _)
    (λ k.
    let x = terms_of (label_of c).copy_condition c.terms t (found_compiled (is_on l) cs c k.compiled (sym found)) some in
    subst (λ b. IfOk r (λ d. d ≡ b))
    (sym (ap (λ o. option_map_or (λ y. condition_holds y.copy_condition (record f { value = v; voter = a; range = range_of y })) o false) (label_found file l cs (Some c) k found)
    ∙ ap (λ o. condition_holds o (record f { value = v; voter = a; range = range_of (label_of c) })) x.1))
    (held x.0 x.2))

-- one condition more, of the next label
pub next_label : (labels : List (LabelView Expr)) (i : ℕ) (l : LabelView Expr) (cs new : List Condition) (c : Condition) → i < length labels → l ≡ get_or labels i l → new ≡ cs ++ c ∷ [] → label_of c ≡ l → map label_of cs ≡ take i labels →
    map label_of new ≡ take (i + 1) labels
next_label labels i l cs new c below is more same before =
    ap (map label_of) more ∙ (map-append label_of cs (c ∷ []) ∙ (ap₂ (λ xs x. xs ++ x ∷ []) before (same ∙ is) ∙ sym (take_more labels i l below)))
