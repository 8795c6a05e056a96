-- Texts and the files that they spell.
use Rattle.std.proofs.Common.{◌≡◌, ℕ, List, [], ◌∷◌, ◌++◌, Bool, true, false, cond, Less, Equal, Greater, nat_cmp, filter, refl, ap, ◌∙◌, fold, map}
use Rattle.toml.specs.Data.{Data}
use Rattle.review_expr_spelling.specs.Words.{copy_reading, requirement_reading}
use Rattle.review_expr.proofs.Excluded.{one_tree}
use Rattle.review_file_rules.proofs.Trees.{one_file, OneFile}
use Rattle.review_file_rules.specs.Expressions.{EachTo, IsRequirement}
use Rattle.review_file_rules.specs.{Inherited.counts, Inherited.inherit, Inherited.put_by, Reading.IsRead}
use Rattle.review_file_rules.specs.{Spelled.named, Spelled.requirement_in, View.FileView, View.RequirementView}
use Rattle.review_machine_rows.proofs.Common.{AllByRecursion, Expr, Ordering, Reading, effective_of, is_label, match_ordering, slice_cmp}

-- ==== a text spells at most one file

pub spelled_once : OneFile
spelled_once = one_file (one_tree copy_reading) (one_tree requirement_reading)

-- ==== the requirements of an effective file have names of their form

-- each text is read right
abbrev pub AreReadRight : Reading → List (List ℕ) → Type 0
AreReadRight reading texts = AllByRecursion (λ t. IsRead t (reading t)) texts

-- a requirement has a name of its form
abbrev pub HasName : RequirementView Expr → Type 0
HasName r = is_label r.name ≡ true

each_name : (ms : List (List ℕ × Data)) (rs : List (RequirementView Expr)) → EachTo IsRequirement (map requirement_in (named ms)) rs → AllByRecursion HasName rs
each_name [] [] are = tt
each_name [] (r ∷ rs) are = absurd are
each_name (m ∷ ms) rs are = by (is_label m.0) refl rs are (each_name ms)
  where
    by : (b : Bool) → is_label m.0 ≡ b → (qs : List (RequirementView Expr)) → EachTo IsRequirement (map requirement_in (cond b (m ∷ named ms) (named ms))) qs →
        ((more : List (RequirementView Expr)) → EachTo IsRequirement (map requirement_in (named ms)) more → AllByRecursion HasName more) → AllByRecursion HasName qs
    by false other qs are on = on qs are
    by true is [] are on = absurd are
    by true is (q ∷ qs) are on = (ap is_label are.0.0 ∙ is, on qs are.1)

names_of_form : (text : List ℕ) (f : FileView Expr) → IsRead text f → AllByRecursion HasName f.requirements
names_of_form text f read = each_name _ f.requirements read.1.2.0.1.3

-- ---- requirements put by name

put_names : (rs : List (RequirementView Expr)) (r : RequirementView Expr) → AllByRecursion HasName rs → HasName r → AllByRecursion HasName (put_by (λ x. x.name) rs r)
put_names [] r all has = (has, tt)
put_names (q ∷ qs) r all has = by (slice_cmp nat_cmp r.name q.name) (put_names qs r all.1 has)
  where
    by : (o : Ordering) → AllByRecursion HasName (put_by (λ x. x.name) qs r) → AllByRecursion HasName (match_ordering o (r ∷ q ∷ qs) (r ∷ qs) (q ∷ put_by (λ x. x.name) qs r))
    by Less later = (has, all)
    by Equal later = (has, all.1)
    by Greater later = (all.0, later)

fold_names : (acc rs : List (RequirementView Expr)) → AllByRecursion HasName acc → AllByRecursion HasName rs → AllByRecursion HasName (fold (put_by (λ x. x.name)) acc rs)
fold_names acc [] one other = one
fold_names acc (r ∷ rs) one other = fold_names (put_by (λ x. x.name) acc r) rs (put_names acc r one other.0) other.1

both_names : (qs rs : List (RequirementView Expr)) → AllByRecursion HasName qs → AllByRecursion HasName rs → AllByRecursion HasName (qs ++ rs)
both_names [] rs one other = other
both_names (q ∷ qs) rs one other = (one.0, both_names qs rs one.1 other)

some_names : (p : RequirementView Expr → Bool) (rs : List (RequirementView Expr)) → AllByRecursion HasName rs → AllByRecursion HasName (filter p rs)
some_names p [] all = tt
some_names p (r ∷ rs) all = by (p r) (some_names p rs all.1)
  where
    by : (b : Bool) → AllByRecursion HasName (filter p rs) → AllByRecursion HasName (cond b (r ∷ filter p rs) (filter p rs))
    by true later = (all.0, later)
    by false later = later

inherited_names : (parent own : FileView Expr) → AllByRecursion HasName parent.requirements → AllByRecursion HasName own.requirements → AllByRecursion HasName (inherit parent own).requirements
inherited_names parent own above here =
    fold_names [] (parent.requirements ++ filter (counts parent.requirements) own.requirements) tt (both_names parent.requirements _ above (some_names (counts parent.requirements) own.requirements here))

pub effective_names : (reading : Reading) (texts : List (List ℕ)) → AreReadRight reading texts → AllByRecursion HasName (effective_of reading texts).requirements
effective_names reading [] all = tt
effective_names reading (text ∷ []) all = names_of_form text (reading text) all.0
effective_names reading (text ∷ next ∷ above) all =
    inherited_names (effective_of reading (next ∷ above)) (reading text) (effective_names reading (next ∷ above) all.1) (names_of_form text (reading text) all.0)
