-- What an inherited file keeps and names.
use Rattle.std.proofs.Common.{◌≡◌, ℕ, ℤ, Bool, true, false, cond, Less, nat_cmp, is_eq, List, [], ◌∷◌, ◌++◌, map, Option, Some, None, refl, ap, sym, subst, ◌∙◌, int_eq, ◌&&◌, ◌||◌, bytes_eq, filter, not, is_some}
use Rattle.std.proofs.{Math.Bool.or-false, Math.Bool.or-true, lemmas.Bool.Decides.Decides-int_eq}
use Rattle.std.proofs.lemmas.List.Elements.{All-from_recursion, recursion_from_All}
use Rattle.std.{proofs.lemmas.Map.Text.is_eq-slice_cmp, specs.Cmp.Lexicographic.slice_cmp}
use Rattle.std.specs.List.{AllByRecursion, list_any, Sorted.IsStrictlySortedBy}
use Rattle.{std.specs.Option.option_map_or, std.specs.Option.option_or, review_names.specs.Forms.text_set}
use Rattle.review_expr.specs.{Exprs.labels_in, declared.expr.Expr.Expr}
use Rattle.review_file_rules.proofs.Named.{Sorted, alike, itself, named, named_both, no_both, sorted_by_name, finds_each, found_is, found_named, all_true, true_all, each_both, each_kept, none_true, true_none}
use Rattle.review_file_rules.specs.Expressions.{names_other, names_unknown_label, requires_other}
use Rattle.review_file_rules.specs.Inherited.{inherit, inherited_labels, counts, inherits_unknown_label}
use Rattle.review_file_rules.specs.Rights.{covers, has_values, is_covered}
use Rattle.review_file_rules.specs.Sound.{IsSoundFile, is_sound_label}
use Rattle.review_file_rules.specs.View.{LabelView, FileView, RequirementView}

-- ==== a child's labels keep their values where its parent's do

abbrev Label : Type 0
Label = LabelView Expr

abbrev pub label_name : Label → List ℕ
label_name l = l.name

abbrev pub OrderedLabels : List Label → Type 0
OrderedLabels ls = Sorted (map label_name ls)

-- ---- values

abbrev pub Values : Type 0
Values = List (ℤ × List ℕ)

abbrev has_value : Values → ℤ → Bool
has_value vs v = list_any (λ w. int_eq w.0 v) vs

value_itself : (v : ℤ) → int_eq v v ≡ true
value_itself v = (Decides-int_eq v v).1 refl

value_later : (w : ℤ × List ℕ) (vs : Values) (v : ℤ) → has_value vs v ≡ true → has_value (w ∷ vs) v ≡ true
value_later w vs v h = ap (λ b. int_eq w.0 v || b) h ∙ or-true (int_eq w.0 v)

each_later : (w : ℤ × List ℕ) (vs us : Values) → AllByRecursion (λ u. has_value vs u.0 ≡ true) us → AllByRecursion (λ u. has_value (w ∷ vs) u.0 ≡ true) us
each_later w vs [] all = tt
each_later w vs (u ∷ us) all = (value_later w vs u.0 all.0, each_later w vs us all.1)

own_values : (vs : Values) → AllByRecursion (λ u. has_value vs u.0 ≡ true) vs
own_values [] = tt
own_values (v ∷ vs) = (ap (λ b. b || has_value vs v.0) (value_itself v.0), each_later v vs vs (own_values vs))

-- a label has its own values
pub values_itself : (vs : Values) → has_values vs vs ≡ true
values_itself vs = true_all (λ v. list_any (λ w. int_eq w.0 v.0) vs) vs (own_values vs)

same_value : (w v : ℤ) → int_eq w v ≡ true → w ≡ v
same_value w v h = (Decides-int_eq w v).0 h

-- a value of some is one of those that have all of them
value_through : (new vs : Values) (v : ℤ) → AllByRecursion (λ u. has_value new u.0 ≡ true) vs → has_value vs v ≡ true → has_value new v ≡ true
value_through new [] v all h = absurd (let none : false ≡ true = h in cc)
value_through new (u ∷ us) v all h = by (int_eq u.0 v) refl (λ rest. value_through new us v all.1 rest) h
  where
    by : (b : Bool) → int_eq u.0 v ≡ b → (has_value us v ≡ true → has_value new v ≡ true) → (b || has_value us v) ≡ true → has_value new v ≡ true
    by true is later h = subst (λ z. has_value new z ≡ true) (same_value u.0 v is) all.0
    by false is later h = later h

each_through : (new mid old : Values) → AllByRecursion (λ u. has_value new u.0 ≡ true) mid → AllByRecursion (λ u. has_value mid u.0 ≡ true) old → AllByRecursion (λ u. has_value new u.0 ≡ true) old
each_through new mid [] all has = tt
each_through new mid (u ∷ us) all has = (value_through new mid u.0 all has.0, each_through new mid us all has.1)

-- values are had through others
pub values_through : (new mid old : Values) → has_values new mid ≡ true → has_values mid old ≡ true → has_values new old ≡ true
values_through new mid old h g =
    true_all (λ v. list_any (λ w. int_eq w.0 v.0) new) old
    (each_through new mid old (all_true (λ v. list_any (λ w. int_eq w.0 v.0) new) mid h) (all_true (λ v. list_any (λ w. int_eq w.0 v.0) mid) old g))

-- ---- labels by their names

-- a label of this name has these values
abbrev pub HasLabel : List Label → List ℕ → Values → Type 0
HasLabel ls q vs = (l : Label) × (named label_name q ls ≡ Some l) × (has_values l.values vs ≡ true)

-- a name isn't below itself
below_itself : (a : List ℕ) → slice_cmp nat_cmp a a ≡ Less → ⊥
below_itself a h = no_both (bytes_eq a a) (itself a) (sym (is_eq-slice_cmp a a) ∙ ap is_eq h)

apart_names : (a b q : List ℕ) → slice_cmp nat_cmp a b ≡ Less → bytes_eq a q ≡ true → bytes_eq b q ≡ true → ⊥
apart_names a b q less x y = below_itself a (subst (λ z. slice_cmp nat_cmp a z ≡ Less) (sym (alike a q x ∙ sym (alike b q y))) less)

-- labels of which none has the name cover nothing of it
none_covers : (k : List ℕ) (ls : List Label) (old : Label) → AllByRecursion (λ n. slice_cmp nat_cmp k n ≡ Less) (map label_name ls) → bytes_eq k old.name ≡ true → is_covered ls old ≡ false
none_covers k [] old above h = refl
none_covers k (l ∷ ls) old above h = by (bytes_eq l.name old.name) refl (none_covers k ls old above.1 h)
  where
    by : (b : Bool) → bytes_eq l.name old.name ≡ b → is_covered ls old ≡ false → ((b && has_values l.values old.values) || is_covered ls old) ≡ false
    by true g later = absurd (apart_names k l.name old.name above.0 h g)
    by false g later = later

-- among labels in order a label is covered by the one of its name
pub covered_is : (new : List Label) (old : Label) → OrderedLabels new → is_covered new old ≡ option_map_or (λ l. has_values l.values old.values) (named label_name old.name new) false
unfolding IsStrictlySortedBy
covered_is [] old s = refl
covered_is (l ∷ ls) old s = by (bytes_eq l.name old.name) refl (covered_is ls old s.1)
  where
    by : (b : Bool) → bytes_eq l.name old.name ≡ b → is_covered ls old ≡ option_map_or (λ x. has_values x.values old.values) (named label_name old.name ls) false →
        ((b && has_values l.values old.values) || is_covered ls old) ≡ option_map_or (λ x. has_values x.values old.values) (cond b (Some l) (named label_name old.name ls)) false
    by true h later = ap (λ c. has_values l.values old.values || c) (none_covers l.name ls old s.0 h) ∙ or-false (has_values l.values old.values)
    by false h later = later

found_has : (o : Option Label) (vs : Values) → option_map_or (λ l. has_values l.values vs) o false ≡ true → (l : Label) × (o ≡ Some l) × (has_values l.values vs ≡ true)
found_has None vs h = absurd (let none : false ≡ true = h in cc)
found_has (Some l) vs h = (l, refl, h)

-- what covers has each label that is found
pub covers_found : (old new : FileView Expr) (q : List ℕ) (l : Label) → OrderedLabels new.labels → covers old new ≡ true → named label_name q old.labels ≡ Some l → HasLabel new.labels q l.values
covers_found old new q l s h is =
    let here = found_is label_name (λ x. is_covered new.labels x ≡ true) q old.labels l (all_true (is_covered new.labels) old.labels h) is in
    let there = sym (covered_is new.labels l s) ∙ here in
    subst (λ n. HasLabel new.labels n l.values) (alike l.name q (found_named label_name q old.labels l is)) (found_has (named label_name l.name new.labels) l.values there)

-- and the other way round
pub found_covers : (old new : FileView Expr) → OrderedLabels old.labels → OrderedLabels new.labels → ((q : List ℕ) (l : Label) → named label_name q old.labels ≡ Some l → HasLabel new.labels q l.values) → covers old new ≡ true
found_covers old new s t found =
    true_all (is_covered new.labels) old.labels
    (finds_each label_name old.labels s (λ l. is_covered new.labels l ≡ true)
    (λ q l is has. covered_is new.labels l t
    ∙ (ap (λ o. option_map_or (λ x. has_values x.values l.values) o false) (ap (λ n. named label_name n new.labels) (alike l.name q has) ∙ (found q l is).1) ∙ (found q l is).2)))

-- A file covers itself, and what covers one that covers a third covers the third.
pub covers_itself : (f : FileView Expr) → OrderedLabels f.labels → covers f f ≡ true
covers_itself f s = found_covers f f s s (λ q l is. (l, is, values_itself l.values))

pub covers_through : (old mid new : FileView Expr) → OrderedLabels old.labels → OrderedLabels mid.labels → OrderedLabels new.labels → covers old mid ≡ true → covers mid new ≡ true → covers old new ≡ true
covers_through old mid new s t u h g =
    found_covers old new s u
    (λ q l is.
    let a = covers_found old mid q l t h is in
    let b = covers_found mid new q a.0 u g a.1 in
    (b.0, b.1, values_through b.0.values a.0.values l.values b.2 a.2))

-- ---- inheriting

-- The label of a name is the own one, or else the parent's.
pub label_of_both : (q : List ℕ) (parent own : List Label) → OrderedLabels parent → OrderedLabels own →
    named label_name q (inherited_labels parent own) ≡ option_or (named label_name q own) (named label_name q parent)
label_of_both q parent own s t = named_both label_name q parent own s t

pub inherited_ordered : (parent own : List Label) → OrderedLabels (inherited_labels parent own)
inherited_ordered parent own = sorted_by_name label_name (parent ++ own)

-- Where a parent's new file covers its old one, so do the effective files of a child.
pub child_covers : (old new own : FileView Expr) → OrderedLabels old.labels → OrderedLabels new.labels → OrderedLabels own.labels → covers old new ≡ true → covers (inherit old own) (inherit new own) ≡ true
child_covers old new own s t u h =
    found_covers (inherit old own) (inherit new own) (inherited_ordered old.labels own.labels) (inherited_ordered new.labels own.labels)
    (λ q l is. by q l (named label_name q own.labels) refl (sym (label_of_both q old.labels own.labels s u) ∙ is))
  where
    by : (q : List ℕ) (l : Label) (o : Option Label) → named label_name q own.labels ≡ o → option_or (named label_name q own.labels) (named label_name q old.labels) ≡ Some l →
        HasLabel (inherited_labels new.labels own.labels) q l.values
    by q l (Some k) own_is is =
        let same : k ≡ l = let e : Some k ≡ Some l = sym (ap (λ x. option_or x (named label_name q old.labels)) own_is) ∙ is in cc in
        (l, label_of_both q new.labels own.labels t u ∙ (ap (λ x. option_or x (named label_name q new.labels)) (own_is ∙ ap Some same)), values_itself l.values)
    by q l None none is =
        let was : named label_name q old.labels ≡ Some l = sym (ap (λ x. option_or x (named label_name q old.labels)) none) ∙ is in
        let has = covers_found old new q l t h was in
        (has.0, label_of_both q new.labels own.labels t u ∙ (ap (λ x. option_or x (named label_name q new.labels)) none ∙ has.1), has.2)

-- ==== the requirements of an effective file name its labels alone

-- each label of some is one of others, by its name
abbrev pub HasNames : List (LabelView Expr) → List (LabelView Expr) → Type 0
HasNames more few = (n : List ℕ) → list_any (λ l. bytes_eq l.name n) few ≡ true → list_any (λ l. bytes_eq l.name n) more ≡ true

-- a label is there where one is found
there_is : (n : List ℕ) (ls : List (LabelView Expr)) → list_any (λ l. bytes_eq l.name n) ls ≡ is_some (named label_name n ls)
there_is n [] = refl
there_is n (l ∷ ls) = by (bytes_eq l.name n) (there_is n ls)
  where
    by : (b : Bool) → list_any (λ x. bytes_eq x.name n) ls ≡ is_some (named label_name n ls) → (b || list_any (λ x. bytes_eq x.name n) ls) ≡ is_some (cond b (Some l) (named label_name n ls))
    by true later = refl
    by false later = later

not_known : (a b : Bool) → (a ≡ true → b ≡ true) → not a ≡ false → not b ≡ false
not_known true b more h = ap not (more refl)
not_known false b more h = absurd (let none : true ≡ false = h in cc)

-- an expression that names some labels alone names more labels alone
other_of : (few more : List (LabelView Expr)) (ns : List (List ℕ)) → HasNames more few → AllByRecursion (λ n. not (list_any (λ l. bytes_eq l.name n) few) ≡ false) ns →
    AllByRecursion (λ n. not (list_any (λ l. bytes_eq l.name n) more) ≡ false) ns
other_of few more [] names all = tt
other_of few more (n ∷ ns) names all = (not_known (list_any (λ l. bytes_eq l.name n) few) (list_any (λ l. bytes_eq l.name n) more) (names n) all.0, other_of few more ns names all.1)

expr_more : (few more : List (LabelView Expr)) (e : Expr) → HasNames more few → names_other few e ≡ false → names_other more e ≡ false
expr_more few more e names h =
    true_none (λ n. not (list_any (λ l. bytes_eq l.name n) more)) (text_set (labels_in e))
    (other_of few more (text_set (labels_in e)) names (none_true (λ n. not (list_any (λ l. bytes_eq l.name n) few)) (text_set (labels_in e)) h))

may_more : (few more : List (LabelView Expr)) (o : Option Expr) → HasNames more few → option_map_or (names_other few) o false ≡ false → option_map_or (names_other more) o false ≡ false
may_more few more None names h = refl
may_more few more (Some e) names h = expr_more few more e names h

neither : (a b c : Bool) → (a || (b || c)) ≡ false → (a ≡ false) × (b ≡ false) × (c ≡ false)
neither false false false h = (refl, refl, refl)
neither true b c h = absurd (let none : true ≡ false = h in cc)
neither false true c h = absurd (let none : true ≡ false = h in cc)
neither false false true h = absurd (let none : true ≡ false = h in cc)

-- a requirement that names some labels alone names more labels alone
pub requires_more : (few more : List (LabelView Expr)) (r : RequirementView Expr) → HasNames more few → requires_other few r ≡ false → requires_other more r ≡ false
requires_more few more r names h =
    let each = neither (option_map_or (names_other few) r.applicable_if false) (names_other few r.submittable_if) (option_map_or (names_other few) r.override_if false) h in
    ap (λ b. b || (names_other more r.submittable_if || option_map_or (names_other more) r.override_if false)) (may_more few more r.applicable_if names each.0)
    ∙ (ap (λ b. b || option_map_or (names_other more) r.override_if false) (expr_more few more r.submittable_if names each.1) ∙ may_more few more r.override_if names each.2)

each_more : (few more : List (LabelView Expr)) (rs : List (RequirementView Expr)) → HasNames more few → AllByRecursion (λ r. requires_other few r ≡ false) rs → AllByRecursion (λ r. requires_other more r ≡ false) rs
each_more few more [] names all = tt
each_more few more (r ∷ rs) names all = (requires_more few more r names all.0, each_more few more rs names all.1)

-- ---- which labels there are

or_some : {X : Type 0} (a b : Option X) → is_some b ≡ true → is_some (option_or a b) ≡ true
or_some None b h = h
or_some (Some x) b h = refl

-- the effective file has the labels of the parent
pub parents_names : (parent own : List (LabelView Expr)) → OrderedLabels parent → OrderedLabels own → HasNames (inherited_labels parent own) parent
parents_names parent own s t n h =
    there_is n (inherited_labels parent own) ∙ (ap is_some (label_of_both n parent own s t) ∙ or_some (named label_name n own) (named label_name n parent) (sym (there_is n parent) ∙ h))

some_is : {X : Type 0} (o : Option X) → is_some o ≡ true → (x : X) × (o ≡ Some x)
some_is None h = absurd (let none : false ≡ true = h in cc)
some_is (Some x) h = (x, refl)

-- what covers a file has its labels
pub covers_names : (old new : FileView Expr) → OrderedLabels new.labels → covers old new ≡ true → HasNames new.labels old.labels
covers_names old new s h n is =
    let found = some_is (named label_name n old.labels) (sym (there_is n old.labels) ∙ is) in
    there_is n new.labels ∙ ap is_some (covers_found old new n found.0 s h found.1).1

-- ---- effective files

-- The effective file names its labels alone, where the parent's does and the own requirements do.
pub inherits_known : (parent own : FileView Expr) → OrderedLabels parent.labels → OrderedLabels own.labels → names_unknown_label parent ≡ false → inherits_unknown_label parent own ≡ false →
    names_unknown_label (inherit parent own) ≡ false
inherits_known parent own s t above here =
    let labels = inherited_labels parent.labels own.labels in
    true_none (requires_other labels) (inherit parent own).requirements
    (each_both (λ (r : RequirementView Expr). r.name) (λ r. requires_other labels r ≡ false) parent.requirements (filter (counts parent.requirements) own.requirements)
    (each_more parent.labels labels parent.requirements (parents_names parent.labels own.labels s t) (none_true (requires_other parent.labels) parent.requirements above))
    (each_kept (λ (r : RequirementView Expr). r.name) (λ r. requires_other labels r ≡ false) (counts parent.requirements) own.requirements (none_true (requires_other labels) own.requirements here)))

-- A child's own requirements, those too that don't count, still name labels of its effective file where its parent's new file covers the old one.
pub still_known : (old new own : FileView Expr) → OrderedLabels old.labels → OrderedLabels new.labels → OrderedLabels own.labels → covers old new ≡ true → inherits_unknown_label old own ≡ false →
    inherits_unknown_label new own ≡ false
still_known old new own s t u h here =
    true_none (requires_other (inherited_labels new.labels own.labels)) own.requirements
    (each_more (inherited_labels old.labels own.labels) (inherited_labels new.labels own.labels) own.requirements
    (covers_names (inherit old own) (inherit new own) (inherited_ordered new.labels own.labels) (child_covers old new own s t u h))
    (none_true (requires_other (inherited_labels old.labels own.labels)) own.requirements here))

-- ==== an effective file is sound

pub inherited_sound : (parent own : FileView Expr) → IsSoundFile parent → IsSoundFile own → IsSoundFile (inherit parent own)
inherited_sound parent own p o = (
  true_all is_sound_label (inherit parent own).labels
      (each_both label_name (λ l. is_sound_label l ≡ true) parent.labels own.labels (all_true is_sound_label parent.labels p.0) (all_true is_sound_label own.labels o.0)),
  (sorted_by_name label_name (parent.labels ++ own.labels), sorted_by_name (λ (r : RequirementView Expr). r.name) (parent.requirements ++ filter (counts parent.requirements) own.requirements)),
  All-from_recursion (λ (l : LabelView Expr). Sorted (map (λ g. g.group) l.grants)) (inherit parent own).labels
      (each_both label_name (λ l. Sorted (map (λ g. g.group) l.grants)) parent.labels own.labels
      (recursion_from_All (λ (l : LabelView Expr). Sorted (map (λ g. g.group) l.grants)) parent.labels p.2)
      (recursion_from_All (λ (l : LabelView Expr). Sorted (map (λ g. g.group) l.grants)) own.labels o.2)),
)
