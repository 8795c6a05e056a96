-- The trees of files: by them a file is judged, and one text spells one file.
use Rattle.std.proofs.Common.{◌≡◌, ℕ, Bool, true, false, cond, Less, Equal, Greater, nat_cmp, List, [], ◌∷◌, ◌++◌, map, filter, Option, Some, None, option_map, refl, ap, sym, ◌∙◌, find, fold, bytes_eq, ℤ, ap₂, not, ◌&&◌, ◌||◌, count_by, subst}
use Rattle.std.specs.{Cmp.Lexicographic.slice_cmp, List.list_all, List.list_any, List.AllByRecursion}
use Rattle.std.specs.{Option.option_map_or, Ordering.match_ordering, declared.cmp.Ordering.Ordering}
use Rattle.toml.specs.Data.{Members, table}
use Rattle.review_names.specs.{Forms.text_set, Groups.GroupList}
use Rattle.review_expr_terms.specs.Grammar.{Tree, Term, Neg, All, Any, Trees, End, With}
use Rattle.review_expr_terms.specs.{Views.view, declared.terms.CopyTerm.CopyTerm}
use Rattle.review_expr_terms.specs.declared.terms.{LabelTerm.LabelTerm, RequirementTerm.RequirementTerm, Voters.Voters}
use Rattle.review_expr_judging.specs.Holds.{holds, all_hold, any_holds, copy_holds, requirement_holds, is_counted, label_holds, is_count, votes_of, meets, range_of, is_voter}
use Rattle.review_expr_judging.specs.Labels.{labels}
use Rattle.review_expr_judging.specs.declared.facts.{ChangeFacts.ChangeFacts, VoteFacts.VoteFacts}
use Rattle.review_expr_spelling.specs.Words.{copy_reading, requirement_reading}
use Rattle.review_expr.specs.Expressions.{HasExpr}
use Rattle.review_expr.specs.Exprs.{labels_in, holds_for, IsCopyOf, IsRequirementOf}
use Rattle.review_expr.specs.declared.expr.Expr.{Expr}
use Rattle.review_file_rules.specs.Expressions.{names_other, requires_other, EachTo, IfThere, IsLabel, IsRequirement, IsFile}
use Rattle.review_file_rules.specs.Inherited.{IsEffective, by_name, counts, inherit, joined_access, put_by, inherited_labels, inherits_unknown_label}
use Rattle.review_file_rules.specs.Named.{SameIn, SameInAll, copy_group, requirement_group, voters_group, named, all_named, groups_in}
use Rattle.review_file_rules.specs.Reading.{IsRead, IsFaultless}
use Rattle.review_file_rules.specs.{Rights.covers, Rights.has_values, Rights.is_covered, Spelled.spelled}
use Rattle.review_file_rules.specs.Trees.{ExprTree, file_trees, label_trees, requirement_trees, OfCopy, OfRequirement, tree_of}
use Rattle.review_file_rules.specs.View.{LabelView, RequirementView, FileView}
use Rattle.review_expr.specs.declared.expr.Expr.TheVariants as expr
use Rattle.review_expr_terms.specs.declared.terms.CopyTerm.TheVariants as copy
use Rattle.review_expr_terms.specs.declared.terms.RequirementTerm.TheVariants as requirement
use Rattle.review_expr_terms.specs.declared.terms.Voters.TheVariants as voters
use Rattle.review_expr.specs.declared.expr.Facts.TheVariants as facts

-- ==== the trees of an effective file are those that its parts' trees give: the texts of a line spell one effective file

module _ {X Y : Type 0} (see : X → Y) (name : X → List ℕ) (named : Y → List ℕ) (same : (x : X) → named (see x) ≡ name x) where
  -- things that are seen with their names are put in the same places
  put_seen : (ys : List X) (x : X) → map see (put_by name ys x) ≡ put_by named (map see ys) (see x)
  put_seen [] x = refl
  put_seen (y ∷ ys) x =
      at (slice_cmp nat_cmp (name x) (name y)) (put_seen ys x)
      ∙ sym (λ i. match_ordering (slice_cmp nat_cmp (same x i) (same y i)) (see x ∷ see y ∷ map see ys) (see x ∷ map see ys) (see y ∷ put_by named (map see ys) (see x)))
    where
      at : (o : Ordering) → map see (put_by name ys x) ≡ put_by named (map see ys) (see x) →
          map see (match_ordering o (x ∷ y ∷ ys) (x ∷ ys) (y ∷ put_by name ys x)) ≡ match_ordering o (see x ∷ see y ∷ map see ys) (see x ∷ map see ys) (see y ∷ put_by named (map see ys) (see x))
      at Less later = refl
      at Equal later = refl
      at Greater later = ap (λ l. see y ∷ l) later

  fold_seen : (acc xs : List X) → map see (fold (put_by name) acc xs) ≡ fold (put_by named) (map see acc) (map see xs)
  fold_seen acc [] = refl
  fold_seen acc (x ∷ xs) = fold_seen (put_by name acc x) xs ∙ ap (λ a. fold (put_by named) a (map see xs)) (put_seen acc x)

  map_append : (xs ys : List X) → map see (xs ++ ys) ≡ map see xs ++ map see ys
  map_append [] ys = refl
  map_append (x ∷ xs) ys = ap (λ l. see x ∷ l) (map_append xs ys)

  pub both_seen : (xs ys : List X) → map see (by_name name (xs ++ ys)) ≡ by_name named (map see xs ++ map see ys)
  both_seen xs ys = fold_seen [] (xs ++ ys) ∙ ap (fold (put_by named) []) (map_append xs ys)

-- ---- requirements that count

find_seen : (q : List ℕ) (rs : List (RequirementView Expr)) → find (λ r. bytes_eq r.name q) (map requirement_trees rs) ≡ option_map requirement_trees (find (λ r. bytes_eq r.name q) rs)
find_seen q [] = refl
find_seen q (r ∷ rs) = by (bytes_eq r.name q) (find_seen q rs)
  where
    by : (b : Bool) → find (λ r. bytes_eq r.name q) (map requirement_trees rs) ≡ option_map requirement_trees (find (λ r. bytes_eq r.name q) rs) → cond b (Some (requirement_trees r)) (find (λ r. bytes_eq r.name q) (map requirement_trees rs)) ≡ option_map requirement_trees (cond b (Some r) (find (λ r. bytes_eq r.name q) rs))
    by true later = refl
    by false later = later

may_seen : (o : Option (RequirementView Expr)) → option_map_or (λ q. q.can_override_in_child_projects) (option_map requirement_trees o) true ≡ option_map_or (λ q. q.can_override_in_child_projects) o true
may_seen None = refl
may_seen (Some q) = refl

counts_seen : (parent : List (RequirementView Expr)) (r : RequirementView Expr) → counts (map requirement_trees parent) (requirement_trees r) ≡ counts parent r
counts_seen parent r = ap (λ o. option_map_or (λ q. q.can_override_in_child_projects) o true) (find_seen r.name parent) ∙ may_seen (find (λ q. bytes_eq q.name r.name) parent)

kept_seen : (parent own : List (RequirementView Expr)) → map requirement_trees (filter (counts parent) own) ≡ filter (counts (map requirement_trees parent)) (map requirement_trees own)
kept_seen parent [] = refl
kept_seen parent (r ∷ rs) = by (counts parent r) (kept_seen parent rs) ∙ sym (ap (λ b. cond b (requirement_trees r ∷ filter (counts (map requirement_trees parent)) (map requirement_trees rs)) (filter (counts (map requirement_trees parent)) (map requirement_trees rs))) (counts_seen parent r))
  where
    by : (b : Bool) → map requirement_trees (filter (counts parent) rs) ≡ filter (counts (map requirement_trees parent)) (map requirement_trees rs) → map requirement_trees (cond b (r ∷ filter (counts parent) rs) (filter (counts parent) rs))
        ≡ cond b (requirement_trees r ∷ filter (counts (map requirement_trees parent)) (map requirement_trees rs)) (filter (counts (map requirement_trees parent)) (map requirement_trees rs))
    by true later = ap (λ l. requirement_trees r ∷ l) later
    by false later = later

-- The trees of an effective file.
pub inherit_trees : (parent own : FileView Expr) → file_trees (inherit parent own) ≡ inherit (file_trees parent) (file_trees own)
inherit_trees parent own =
    let labels = both_seen label_trees (λ (l : LabelView Expr). l.name) (λ (l : LabelView ExprTree). l.name) (λ l. refl) parent.labels own.labels in
    let requirements =
    both_seen requirement_trees (λ (r : RequirementView Expr). r.name) (λ (r : RequirementView ExprTree). r.name) (λ r. refl) parent.requirements (filter (counts parent.requirements) own.requirements)
    ∙ ap (λ rs. by_name (λ (r : RequirementView ExprTree). r.name) (map requirement_trees parent.requirements ++ rs)) (kept_seen parent.requirements own.requirements) in
    λ i. record { parent = own.parent; description = own.description; access = joined_access parent.access own.access; labels = labels i; requirements = requirements i }

abbrev pub OneFile : Type 0
OneFile = (text : List ℕ) (f g : FileView Expr) → IsRead text f → IsRead text g → file_trees f ≡ file_trees g

-- The texts of a line spell one effective file, up to the trees of its expressions.
pub one_effective : OneFile → (texts : List (List ℕ)) (f g : FileView Expr) → IsEffective texts f → IsEffective texts g → file_trees f ≡ file_trees g
one_effective one [] f g h k = absurd h
one_effective one (t ∷ []) f g h k = one t f g h k
one_effective one (t ∷ u ∷ us) f g h k =
    let own = one t h.0 k.0 h.2 k.2 in
    let above = one_effective one (u ∷ us) h.1 k.1 h.3 k.3 in
    ap file_trees h.4 ∙ (inherit_trees h.1 h.0 ∙ ((λ i. inherit (above i) (own i)) ∙ (sym (inherit_trees k.1 k.0) ∙ sym (ap file_trees k.4))))

-- ==== what files are asked is the same for files with the same trees

-- ---- labels with the same values

any_seen : (test : List ℕ → List (ℤ × List ℕ) → Bool) (ls : List (LabelView Expr)) → list_any (λ (l : LabelView ExprTree). test l.name l.values) (map label_trees ls) ≡ list_any (λ l. test l.name l.values) ls
any_seen test [] = refl
any_seen test (l ∷ ls) = ap (λ b. test l.name l.values || b) (any_seen test ls)

all_seen : (test : List ℕ → List (ℤ × List ℕ) → Bool) (ls : List (LabelView Expr)) → list_all (λ (l : LabelView ExprTree). test l.name l.values) (map label_trees ls) ≡ list_all (λ l. test l.name l.values) ls
all_seen test [] = refl
all_seen test (l ∷ ls) = ap (λ b. test l.name l.values && b) (all_seen test ls)

all_alike : {X : Type 0} (p q : X → Bool) (xs : List X) → ((x : X) → p x ≡ q x) → list_all p xs ≡ list_all q xs
all_alike p q [] same = refl
all_alike p q (x ∷ xs) same = ap₂ ◌&&◌ (same x) (all_alike p q xs same)

-- one file covers another where its trees do
pub covers_seen : (old new : FileView Expr) → covers (file_trees old) (file_trees new) ≡ covers old new
covers_seen old new =
    all_seen (λ name values. list_any (λ (l : LabelView ExprTree). bytes_eq l.name name && has_values l.values values) (map label_trees new.labels)) old.labels
    ∙ all_alike (λ (k : LabelView Expr). list_any (λ (l : LabelView ExprTree). bytes_eq l.name k.name && has_values l.values k.values) (map label_trees new.labels)) (is_covered new.labels) old.labels
    (λ k. any_seen (λ name values. bytes_eq name k.name && has_values values k.values) new.labels)

pub covers_alike : (old new other : FileView Expr) → file_trees new ≡ file_trees other → covers old new ≡ covers old other
covers_alike old new other same = sym (covers_seen old new) ∙ (ap (covers (file_trees old)) same ∙ covers_seen old other)

pub inherit_alike : (parent own other : FileView Expr) → file_trees own ≡ file_trees other → file_trees (inherit parent own) ≡ file_trees (inherit parent other)
inherit_alike parent own other same = inherit_trees parent own ∙ (ap (inherit (file_trees parent)) same ∙ sym (inherit_trees parent other))

-- ---- labels that requirements name

-- the labels that a tree names
abbrev tree_labels : ExprTree → List (List ℕ)
tree_labels (OfRequirement t) = labels t
tree_labels (OfCopy t) = []

labels_seen : (e : Expr) → labels_in e ≡ tree_labels (tree_of e)
labels_seen (expr.Requirement e) = refl
labels_seen (expr.Copy e) = refl

-- whether a tree names another label than those of these names
abbrev tree_other : List (LabelView ExprTree) → ExprTree → Bool
tree_other ls t = list_any (λ name. not (list_any (λ (l : LabelView ExprTree). bytes_eq l.name name) ls)) (text_set (tree_labels t))

abbrev tree_requires : List (LabelView ExprTree) → RequirementView ExprTree → Bool
tree_requires ls r = option_map_or (tree_other ls) r.applicable_if false || (tree_other ls r.submittable_if || option_map_or (tree_other ls) r.override_if false)

any_alike : {X : Type 0} (p q : X → Bool) (xs : List X) → ((x : X) → p x ≡ q x) → list_any p xs ≡ list_any q xs
any_alike p q [] same = refl
any_alike p q (x ∷ xs) same = ap₂ ◌||◌ (same x) (any_alike p q xs same)

other_seen : (ls : List (LabelView Expr)) (e : Expr) → names_other ls e ≡ tree_other (map label_trees ls) (tree_of e)
other_seen ls e =
    ap (λ ns. list_any (λ name. not (list_any (λ (l : LabelView Expr). bytes_eq l.name name) ls)) (text_set ns)) (labels_seen e)
    ∙ any_alike (λ name. not (list_any (λ (l : LabelView Expr). bytes_eq l.name name) ls)) (λ name. not (list_any (λ (l : LabelView ExprTree). bytes_eq l.name name) (map label_trees ls))) (text_set (tree_labels (tree_of e)))
    (λ name. ap not (sym (any_seen (λ n values. bytes_eq n name) ls)))

named_seen : (ls : List (LabelView Expr)) (o : Option Expr) → option_map_or (names_other ls) o false ≡ option_map_or (tree_other (map label_trees ls)) (option_map tree_of o) false
named_seen ls None = refl
named_seen ls (Some e) = other_seen ls e

requires_seen : (ls : List (LabelView Expr)) (r : RequirementView Expr) → requires_other ls r ≡ tree_requires (map label_trees ls) (requirement_trees r)
requires_seen ls r = ap₂ ◌||◌ (named_seen ls r.applicable_if) (ap₂ ◌||◌ (other_seen ls r.submittable_if) (named_seen ls r.override_if))

some_seen : (ls : List (LabelView Expr)) (rs : List (RequirementView Expr)) → list_any (requires_other ls) rs ≡ list_any (tree_requires (map label_trees ls)) (map requirement_trees rs)
some_seen ls [] = refl
some_seen ls (r ∷ rs) = ap₂ ◌||◌ (requires_seen ls r) (some_seen ls rs)

pub inherits_alike : (parent own other : FileView Expr) → file_trees own ≡ file_trees other → inherits_unknown_label parent own ≡ inherits_unknown_label parent other
inherits_alike parent own other same =
    some_seen (inherited_labels parent.labels own.labels) own.requirements
    ∙ (ap₂ (λ (t u : FileView ExprTree). list_any (tree_requires t.labels) u.requirements) (inherit_alike parent own other same) same
    ∙ sym (some_seen (inherited_labels parent.labels other.labels) other.requirements))

pub inherits_above : (parent other own : FileView Expr) → file_trees parent ≡ file_trees other → inherits_unknown_label parent own ≡ inherits_unknown_label other own
inherits_above parent other own same =
    some_seen (inherited_labels parent.labels own.labels) own.requirements
    ∙ (ap (λ (t : FileView ExprTree). list_any (tree_requires t.labels) (map requirement_trees own.requirements)) (inherit_trees parent own ∙ (ap (λ t. inherit t (file_trees own)) same ∙ sym (inherit_trees other own)))
    ∙ sym (some_seen (inherited_labels other.labels own.labels) own.requirements))

-- ==== who is in the groups that an expression names decides whether it holds

front : {A : Type 0} (P : A → Type 0) (xs ys : List A) → AllByRecursion P (xs ++ ys) → AllByRecursion P xs
front P [] ys all = tt
front P (x ∷ xs) ys all = (all.0, front P xs ys all.1)

back : {A : Type 0} (P : A → Type 0) (xs ys : List A) → AllByRecursion P (xs ++ ys) → AllByRecursion P ys
back P [] ys all = all
back P (x ∷ xs) ys all = back P xs ys all.1

-- a tree holds alike where each of its terms does
mutual
  tree : {A : Type 0} (group : A → List (List ℕ)) (p q : A → Bool) (a b : GroupList) → ((t : A) → SameInAll a b (group t) → p t ≡ q t) → (t : Tree A) → SameInAll a b (named group t) → holds p t ≡ holds q t
  tree group p q a b alike (Term t) same = alike t same
  tree group p q a b alike (Neg t) same = ap not (tree group p q a b alike t same)
  tree group p q a b alike (All ts) same = every group p q a b alike ts same
  tree group p q a b alike (Any ts) same = any group p q a b alike ts same

  every : {A : Type 0} (group : A → List (List ℕ)) (p q : A → Bool) (a b : GroupList) → ((t : A) → SameInAll a b (group t) → p t ≡ q t) → (ts : Trees A) → SameInAll a b (all_named group ts) → all_hold p ts ≡ all_hold q ts
  every group p q a b alike End same = refl
  every group p q a b alike (With t ts) same =
      ap (λ x. x && all_hold p ts) (tree group p q a b alike t (front (SameIn a b) (named group t) (all_named group ts) same))
      ∙ ap (λ x. holds q t && x) (every group p q a b alike ts (back (SameIn a b) (named group t) (all_named group ts) same))

  any : {A : Type 0} (group : A → List (List ℕ)) (p q : A → Bool) (a b : GroupList) → ((t : A) → SameInAll a b (group t) → p t ≡ q t) → (ts : Trees A) → SameInAll a b (all_named group ts) → any_holds p ts ≡ any_holds q ts
  any group p q a b alike End same = refl
  any group p q a b alike (With t ts) same =
      ap (λ x. x || any_holds p ts) (tree group p q a b alike t (front (SameIn a b) (named group t) (all_named group ts) same))
      ∙ ap (λ x. holds q t || x) (any group p q a b alike ts (back (SameIn a b) (named group t) (all_named group ts) same))

-- a term of a copy condition
copy_alike : (f : VoteFacts) (other : GroupList) (t : CopyTerm) → SameInAll f.groups other (copy_group t) → copy_holds f t ≡ copy_holds (record f { groups = other }) t
copy_alike f other (copy.ApproverIn group) same = same.0 f.voter
copy_alike f other (copy.UploaderIn group) same = same.0 f.uploader
copy_alike f other _ same = refl

-- whether an account is among those whose votes count
counted_alike : (f : ChangeFacts) (other : GroupList) (v : Voters) → SameInAll f.groups other (voters_group v) → (vote : ℕ × ℤ) → is_voter f v vote.0 ≡ is_voter (record f { groups = other }) v vote.0
counted_alike f other (voters.Group group) same vote = same.0 vote.0
counted_alike f other _ same vote = refl

-- as many pass where each passes alike
as_many : {X : Type 0} (p q : X → Bool) (xs : List X) → ((x : X) → p x ≡ q x) → count_by p xs ≡ count_by q xs
as_many p q xs alike = ap (λ test. count_by test xs) (λ i x. alike x i)

label_alike : (f : ChangeFacts) (other : GroupList) (t : LabelTerm) → SameInAll f.groups other (voters_group t.voters) → label_holds f t ≡ label_holds (record f { groups = other }) t
label_alike f other t same =
    ap (is_count t.count) (as_many (is_counted f t) (is_counted (record f { groups = other }) t) (votes_of f t.label)
    (λ vote. ap (λ b. meets (range_of f t.label) t.comparison vote.1 && b) (counted_alike f other t.voters same vote)))

-- a term of a submit requirement
requirement_alike : (f : ChangeFacts) (other : GroupList) (t : RequirementTerm) → SameInAll f.groups other (requirement_group t) → requirement_holds f t ≡ requirement_holds (record f { groups = other }) t
requirement_alike f other (requirement.Label t) same = label_alike f other t same
requirement_alike f other (requirement.UploaderIn group) same = same.0 f.uploader
requirement_alike f other (requirement.OwnerIn group) same = same.0 f.owner
requirement_alike f other _ same = refl

pub vote_alike : (e : Expr) (f : VoteFacts) (other : GroupList) → SameInAll f.groups other (groups_in e) → holds_for (facts.Vote f) e ≡ holds_for (facts.Vote (record f { groups = other })) e
vote_alike (expr.Requirement e) f other same = refl
vote_alike (expr.Copy e) f other same = tree copy_group (copy_holds f) (copy_holds (record f { groups = other })) f.groups other (copy_alike f other) (view e.node) same

pub change_alike : (e : Expr) (f : ChangeFacts) (other : GroupList) → SameInAll f.groups other (groups_in e) → holds_for (facts.Change f) e ≡ holds_for (facts.Change (record f { groups = other })) e
change_alike (expr.Requirement e) f other same =
    tree requirement_group (requirement_holds f) (requirement_holds (record f { groups = other })) f.groups other (requirement_alike f other) (view e.node) same
change_alike (expr.Copy e) f other same = refl

-- ==== a text spells at most one file

-- a text is at most one expression
abbrev pub OneTree : (List ℕ → Expr → Type 0) → Type 0
OneTree Is = (text : List ℕ) (d e : Expr) → Is text d → Is text e → tree_of d ≡ tree_of e

abbrev pub OneCopy : Type 0
OneCopy = (text : List ℕ) (t u : Tree CopyTerm) → HasExpr copy_reading text t → HasExpr copy_reading text u → t ≡ u

abbrev pub OneRequirement : Type 0
OneRequirement = (text : List ℕ) (t u : Tree RequirementTerm) → HasExpr requirement_reading text t → HasExpr requirement_reading text u → t ≡ u

one_copy : OneCopy → OneTree IsCopyOf
one_copy one text (expr.Copy d) (expr.Copy e) h g = ap OfCopy (one text _ _ h g)
one_copy one text (expr.Copy d) (expr.Requirement e) h g = absurd g
one_copy one text (expr.Requirement d) e h g = absurd h

one_requirement : OneRequirement → OneTree IsRequirementOf
one_requirement one text (expr.Requirement d) (expr.Requirement e) h g = ap OfRequirement (one text _ _ h g)
one_requirement one text (expr.Requirement d) (expr.Copy e) h g = absurd g
one_requirement one text (expr.Copy d) e h g = absurd h

there : (Is : List ℕ → Expr → Type 0) → OneTree Is → (o : Option (List ℕ)) (d e : Option Expr) → IfThere Is o d → IfThere Is o e → option_map tree_of d ≡ option_map tree_of e
there Is one None None None h g = refl
there Is one (Some text) (Some d) (Some e) h g = ap Some (one text d e h g)
there Is one None (Some d) e h g = absurd h
there Is one None None (Some e) h g = absurd g
there Is one (Some text) None e h g = absurd h
there Is one (Some text) (Some d) None h g = absurd g

one_label : OneCopy → (p : LabelView (List ℕ)) (l k : LabelView Expr) → IsLabel p l → IsLabel p k → label_trees l ≡ label_trees k
one_label one p l k h g = rw (h.0, h.1, h.2, g.0, g.1, g.2, there IsCopyOf (one_copy one) p.copy_condition l.copy_condition k.copy_condition h.3 g.3) refl

one_spelled : OneRequirement → (p : RequirementView (List ℕ)) (r q : RequirementView Expr) → IsRequirement p r → IsRequirement p q → requirement_trees r ≡ requirement_trees q
one_spelled one p r q h g =
    let same = one_requirement one in
    rw (
      h.0,
      h.1,
      h.2,
      g.0,
      g.1,
      g.2,
      there IsRequirementOf same p.applicable_if r.applicable_if q.applicable_if h.3 g.3,
      same p.submittable_if r.submittable_if q.submittable_if h.4 g.4,
      there IsRequirementOf same p.override_if r.override_if q.override_if h.5 g.5,
    ) refl

each : {A B C : Type 0} → (R : A → B → Type 0) (see : B → C) → ((x : A) (y z : B) → R x y → R x z → see y ≡ see z) → (xs : List A) (ys zs : List B) → EachTo R xs ys → EachTo R xs zs → map see ys ≡ map see zs
each R see one [] [] [] h g = refl
each R see one (x ∷ xs) (y ∷ ys) (z ∷ zs) h g = ap₂ (λ c cs. c ∷ cs) (one x y z h.0 g.0) (each R see one xs ys zs h.1 g.1)
each R see one [] (y ∷ ys) zs h g = absurd h
each R see one [] [] (z ∷ zs) h g = absurd g
each R see one (x ∷ xs) [] zs h g = absurd h
each R see one (x ∷ xs) (y ∷ ys) [] h g = absurd g

same_file : OneCopy → OneRequirement → (p : FileView (List ℕ)) (f g : FileView Expr) → IsFile p f → IsFile p g → file_trees f ≡ file_trees g
same_file copy requirement p f g h k =
    rw (
      h.0,
      h.1,
      k.0,
      k.1,
      h.4,
      k.4,
      each IsLabel label_trees (one_label copy) p.labels f.labels g.labels h.2 k.2,
      each IsRequirement requirement_trees (one_spelled requirement) p.requirements f.requirements g.requirements h.3 k.3,
    ) refl

-- a text spells at most one file
pub one_file : OneCopy → OneRequirement → (text : List ℕ) (f g : FileView Expr) → IsRead text f → IsRead text g → file_trees f ≡ file_trees g
one_file copy requirement text f g h k =
    let some : Some h.1.0 ≡ Some k.1.0 = sym h.1.1 ∙ k.1.1 in
    let same : h.1.0 ≡ k.1.0 = cc in
    let P : Members → Type 0 = λ ms. IsFaultless (table ms) g in
    let other : IsFaultless (table h.1.0) g = subst P (sym same) k.1.2 in
    same_file copy requirement (spelled (table h.1.0)) f g h.1.2.0.1 other.0.1
