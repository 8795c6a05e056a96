-- What two answers to one text have in common.
use Rattle.std.proofs.Common.{◌≡◌, ℕ, ◌+◌, Bool, true, false, ◌==◌, List, [], ◌∷◌, Option, Some, None, cond, refl, sym, ap, subst, if◌then◌else◌, codes, option_map, IsSomeAnd, bytes_eq, ◌∙◌, length, nat_lt, Result, IfOk, ◌⊎◌, inl, inr, ℤ, ap₂, MatchBool, not, ◌&&◌, ◌||◌, is_none}
use Rattle.std.proofs.lemmas.{Option.same_Some, Result.IfOk-weaker, Slice.Eq.bytes_eq-Decides}
use Rattle.std.specs.{List.list_all, List.list_any, Option.option_map_or}
use Rattle.toml.specs.{Data.Data, Data.Members, Data.table, Parse.parse_document}
use Rattle.review_names.specs.Forms.{text_set}
use Rattle.review_expr_terms.{proofs.Refused.never_deep, specs.Grammar.Tok, specs.Grammar.Tree, specs.Lexemes.Word}
use Rattle.review_expr_terms.specs.{Patterns.is_pattern, Patterns.IsDeepPattern, Patterns.IsEnginePattern, Views.view}
use Rattle.review_expr_terms.specs.Words.{Reading, Good, Bad, NoTerm}
use Rattle.review_expr_terms.specs.declared.terms.RequirementTerm.{RequirementTerm}
use Rattle.review_expr_terms.specs.declared.terms.RequirementTerm.TheVariants.{BranchMatches, PathMatches}
use Rattle.review_file_document.specs.{Keys.has_unknown_key, Keys.lacks_key, Limits.most_bytes, Names.has_bad_name}
use Rattle.review_file_document.specs.Values.{has_value_twice, has_bad_values}
use Rattle.review_words.specs.declared.faults.{ExprCode.TheVariants.BadValue, ExprFault.ExprFault, FileFault.FileFault}
use Rattle.review_words.specs.declared.faults.FileFault.TheVariants.{Toml, UnknownKey, Missing, BadName, Twice, BadValues, UnknownLabel, Limit, Expr as Faulty}
use Rattle.review_expr_judging.specs.Labels.{labels}
use Rattle.review_expr_spelling.specs.Values.{behind, cut_at, key_and_value}
use Rattle.review_expr_spelling.specs.Words.{◌>>=◌, in_value, pattern_or, pattern_of, pattern_in, keyed, requirement_value, requirement_reading, IsDeep, IsPattern, copy_reading}
use Rattle.review_expr_spelling.specs.declared.keys.RequirementKey.{RequirementKey}
use Rattle.review_expr.proofs.{Excluded.no_flaw, Excluded.bad_value, Excluded.one_tree, OneFault.one_fault}
use Rattle.review_expr.specs.Expressions.{HasExpr, HasWord, IsFault}
use Rattle.review_expr.specs.Exprs.{IsCopyOf, IsRequirementOf, NoWord, labels_in}
use Rattle.review_expr.specs.Tokens.{operator_by, operator_or, term_token, meaning, is_signed, unsigned, alone, behind_minus, after_minus, opens_at, lexeme_tokens}
use Rattle.review_expr.specs.declared.expr.Expr.{Expr}
use Rattle.review_file_rules.specs.Expressions.{EachTo, IfThere, AllRead, IsLabel, IsRequirement, copy_texts, requirement_texts, with_text, FirstFault, IsNoCopy, IsNoRequirement, IsFile, IsStoppedBy, names_other, requires_other, has_unknown_label}
use Rattle.review_file_rules.specs.Patterns.{SomeWord, HasDeepPattern, HasPattern}
use Rattle.review_file_rules.specs.Reading.{first_fault, IsLeast, IsFaultless, IsRead, HasFile, IsBadValue, IsRefused, IsFileFault, IsReadFault}
use Rattle.review_file_rules.specs.Rights.{covers, is_covered, has_values}
use Rattle.review_file_rules.specs.{Spelled.spelled, View.LabelView, View.RequirementView, View.FileView}
use Rattle.review_file_rules.specs.declared.fault.ReadFault.{ReadFault, TheVariants.File, TheVariants.Pattern}
use Rattle.review_expr_spelling.specs.declared.keys.RequirementKey.TheVariants as key
use Rattle.review_expr.specs.declared.expr.Expr.TheVariants as expr
use Rattle.review_expr.specs.declared.fault.ParseFault.TheVariants as parse

-- ==== no word of an expression has a pattern that nests too deep: it would be one, and none

by_form : (b : Bool) (re : List ℕ) (term : List ℕ → RequirementTerm) (a : RequirementTerm) → in_value (option_map term (cond b (Some re) None)) ≡ Good a → b ≡ true
by_form true re term a good = refl
by_form false re term a good = absurd (let none = good in cc)

-- a value that is a term has a pattern, where it begins as one
value_by : (o : Option (List ℕ)) (term : List ℕ → RequirementTerm) (other : Option RequirementTerm) (a : RequirementTerm) → pattern_or o term other ≡ Good a →
    IsSomeAnd o IsDeepPattern → IsSomeAnd o IsEnginePattern
value_by (Some re) term other a good deep = by_form (is_pattern re) re term a good
value_by None term other a good deep = deep

value_pattern : (k : RequirementKey) (value : List ℕ) (a : RequirementTerm) → requirement_value k value ≡ Good a →
    IsSomeAnd (pattern_of k value) IsDeepPattern → IsSomeAnd (pattern_of k value) IsEnginePattern
unfolding requirement_value
value_pattern key.Branch value a good deep = value_by (behind (codes "^") value) BranchMatches _ a good deep
value_pattern key.Is value a good deep = deep
value_pattern key.Label value a good deep = deep
value_pattern key.UploaderIn value a good deep = deep
value_pattern key.OwnerIn value a good deep = deep
value_pattern key.Has value a good deep = deep
value_pattern _ value a good deep = value_by (behind (codes "^") value) PathMatches _ a good deep

halves_pattern : (r : Reading (RequirementKey × List ℕ)) (a : RequirementTerm) → (r >>= (λ halves. requirement_value halves.0 halves.1)) ≡ Good a →
    IsSomeAnd (pattern_in r) IsDeepPattern → IsSomeAnd (pattern_in r) IsEnginePattern
halves_pattern (Good halves) a good deep = value_pattern halves.0 halves.1 a good deep
halves_pattern (Bad flaw) a good deep = deep

-- a word that is a term has a pattern, where its pattern nests too deep
term_pattern : (w : List ℕ) (a : RequirementTerm) → requirement_reading w ≡ Good a → IsDeep w → IsPattern w
unfolding requirement_reading
term_pattern w a good deep = halves_pattern (keyed w) a good deep

-- an operator has no pattern, nor has the empty word
no_and : IsDeep (codes "AND") → ⊥
unfolding keyed key_and_value cut_at
no_and deep = deep

no_or : IsDeep (codes "OR") → ⊥
unfolding keyed key_and_value cut_at
no_or deep = deep

no_not : IsDeep (codes "NOT") → ⊥
unfolding keyed key_and_value cut_at
no_not deep = deep

no_nothing : IsDeep [] → ⊥
unfolding keyed key_and_value cut_at
no_nothing deep = deep

same_word : (w v : List ℕ) → bytes_eq w v ≡ true → w ≡ v
same_word w v h = (bytes_eq-Decides w v).0 h

token_pattern : (w : List ℕ) (r : Reading RequirementTerm) (t : Tok RequirementTerm) → requirement_reading w ≡ r → term_token r ≡ Good t → IsDeep w → IsPattern w
token_pattern w (Good a) t is good deep = term_pattern w a is deep
token_pattern w (Bad flaw) t is good deep = absurd (let none = good in cc)

operator_pattern : (w : List ℕ) (is_and is_or is_not : Bool) (t : Tok RequirementTerm) →
    bytes_eq w (codes "AND") ≡ is_and → bytes_eq w (codes "OR") ≡ is_or → bytes_eq w (codes "NOT") ≡ is_not →
    operator_or (operator_by is_and is_or is_not) (requirement_reading w) ≡ Good t → IsDeep w → IsPattern w
operator_pattern w true is_or is_not t is or not good deep = absurd (no_and (subst IsDeep (same_word w (codes "AND") is) deep))
operator_pattern w false true is_not t is or not good deep = absurd (no_or (subst IsDeep (same_word w (codes "OR") or) deep))
operator_pattern w false false true t is or not good deep = absurd (no_not (subst IsDeep (same_word w (codes "NOT") not) deep))
operator_pattern w false false false t is or not good deep = token_pattern w (requirement_reading w) t refl good deep

meaning_pattern : (w : List ℕ) (t : Tok RequirementTerm) → meaning requirement_reading w ≡ Good t → IsDeep w → IsPattern w
meaning_pattern w t good deep = operator_pattern w (bytes_eq w (codes "AND")) (bytes_eq w (codes "OR")) (bytes_eq w (codes "NOT")) t refl refl refl good deep

alone_pattern : (w : List ℕ) (r : Reading (Tok RequirementTerm)) (ts : List (Tok RequirementTerm)) → meaning requirement_reading w ≡ r → alone r ≡ Good ts → IsDeep w → IsPattern w
alone_pattern w (Good t) ts is good deep = meaning_pattern w t is deep
alone_pattern w (Bad flaw) ts is good deep = absurd (let none = good in cc)

behind_pattern : (w : List ℕ) (r : Reading (Tok RequirementTerm)) (ts : List (Tok RequirementTerm)) → meaning requirement_reading w ≡ r → behind_minus r ≡ Good ts → IsDeep w → IsPattern w
behind_pattern w (Good t) ts is good deep = meaning_pattern w t is deep
behind_pattern w (Bad flaw) ts is good deep = absurd (let none = good in cc)

second_pattern : (b : Bool) (w : List ℕ) (ts : List (Tok RequirementTerm)) → (if b then Bad NoTerm else behind_minus (meaning requirement_reading w)) ≡ Good ts → IsDeep w → IsPattern w
second_pattern true w ts good deep = absurd (let none = good in cc)
second_pattern false w ts good deep = behind_pattern w (meaning requirement_reading w) ts refl good deep

after_pattern : (opens : Bool) (w : List ℕ) (ts : List (Tok RequirementTerm)) → after_minus requirement_reading opens w ≡ Good ts → IsDeep w → IsPattern w
after_pattern opens [] ts good deep = absurd (no_nothing deep)
after_pattern opens (c ∷ cs) ts good deep = second_pattern (c == 45) (c ∷ cs) ts good deep

bare : (w : List ℕ) → is_signed w ≡ false → unsigned w ≡ w
bare [] h = refl
bare (c ∷ cs) h = ap (λ b. (if b then cs else c ∷ cs)) h

word_pattern : (opens signed : Bool) (w : List ℕ) (ts : List (Tok RequirementTerm)) → is_signed w ≡ signed →
    (if signed then after_minus requirement_reading opens (unsigned w) else alone (meaning requirement_reading w)) ≡ Good ts → IsDeep (unsigned w) → IsPattern (unsigned w)
word_pattern opens true w ts is good deep = after_pattern opens (unsigned w) ts good deep
word_pattern opens false w ts is good deep =
    let same = bare w is in subst IsPattern (sym same) (alone_pattern w (meaning requirement_reading w) ts refl good (subst IsDeep same deep))

deep_or_engine : (o : Option (List ℕ)) → IsSomeAnd o IsDeepPattern → IsSomeAnd o IsEnginePattern → ⊥
deep_or_engine None deep is = deep
deep_or_engine (Some re) deep is = never_deep re deep is

-- in a text that is an expression there is no such word
pub no_deep_word : (text : List ℕ) (t : Tree RequirementTerm) (place : ℕ) → HasExpr requirement_reading text t → HasWord requirement_reading IsDeep text place → ⊥
no_deep_word text t place is (w, after, reached, deep) = by (lexeme_tokens requirement_reading (Word place w) after) refl
  where
    by : (r : Reading (List (Tok RequirementTerm))) → lexeme_tokens requirement_reading (Word place w) after ≡ r → ⊥
    by (Good ts) good = deep_or_engine (pattern_in (keyed (unsigned w))) deep (word_pattern (opens_at (place + 1) after) (is_signed w) w ts refl good deep)
    by (Bad flaw) bad = no_flaw requirement_reading text is.0 place flaw is.1 (w, after, reached, bad)

-- ==== how the faults of a document follow one another

-- the faults that a document has whatever its expressions are
abbrev is_early : FileFault → Bool
is_early (Faulty e) = false
is_early UnknownLabel = false
is_early Limit = false
is_early f = true

one_of_five : (a b c d e : Bool) →
    option_map_or is_early (if a then Some UnknownKey else if b then Some Missing else if c then Some BadName else if d then Some Twice else if e then Some BadValues else None) true ≡ true
one_of_five true b c d e = refl
one_of_five false true c d e = refl
one_of_five false false true d e = refl
one_of_five false false false true e = refl
one_of_five false false false false true = refl
one_of_five false false false false false = refl

early : (file : Data) (f : FileFault) → first_fault file ≡ Some f → is_early f ≡ true
early file f h = sym (ap (λ o. option_map_or is_early o true) h) ∙ one_of_five (has_unknown_key file) (lacks_key file) (has_bad_name file) (has_value_twice file) (has_bad_values file)

-- a first fault is the least
pub least_first : (file : Data) (f : FileFault) → first_fault file ≡ Some f → IsLeast file f
least_first file (Faulty e) h = absurd (let none : false ≡ true = early file (Faulty e) h in cc)
least_first file UnknownLabel h = absurd (let none : false ≡ true = early file UnknownLabel h in cc)
least_first file Limit h = absurd (let none : false ≡ true = early file Limit h in cc)
least_first file _ h = h

with_read : (Is : List ℕ → Expr → Type 0) (o : Option (List ℕ)) (e : Option Expr) (rest : List (List ℕ)) → IfThere Is o e → AllRead Is rest → AllRead Is (with_text o rest)
with_read Is None None rest is all = all
with_read Is (Some text) (Some e) rest is all = ((e, is), all)
with_read Is None (Some e) rest is all = absurd is
with_read Is (Some text) None rest is all = absurd is

-- the copy conditions of labels that were read are expressions
pub all_copies : (ps : List (LabelView (List ℕ))) (ls : List (LabelView Expr)) → EachTo IsLabel ps ls → AllRead IsCopyOf (copy_texts ps)
all_copies [] [] each = tt
all_copies (p ∷ ps) (l ∷ ls) each = with_read IsCopyOf p.copy_condition l.copy_condition (copy_texts ps) each.0.3 (all_copies ps ls each.1)
all_copies [] (l ∷ ls) each = absurd each
all_copies (p ∷ ps) [] each = absurd each

-- and so are the expressions of requirements that were read
pub all_requirements : (ps : List (RequirementView (List ℕ))) (rs : List (RequirementView Expr)) → EachTo IsRequirement ps rs → AllRead IsRequirementOf (requirement_texts ps)
all_requirements [] [] each = tt
all_requirements (p ∷ ps) (r ∷ rs) each =
    with_read IsRequirementOf p.applicable_if r.applicable_if _ each.0.3
    ((r.submittable_if, each.0.4), with_read IsRequirementOf p.override_if r.override_if (requirement_texts ps) each.0.5 (all_requirements ps rs each.1))
all_requirements [] (r ∷ rs) each = absurd each
all_requirements (p ∷ ps) [] each = absurd each

-- a text whose document has no fault is read
pub read_text : {X : Type 0} (text : List ℕ) (ms : Members) (file : Data) (r : Result (FileView Expr) X) → nat_lt most_bytes (length text) ≡ false → parse_document text ≡ Some ms → file ≡ table ms →
    IfOk r (IsFaultless file) → IfOk r (IsRead text)
read_text text ms file r short parsed same ok = IfOk-weaker r (IsFaultless file) (IsRead text) (λ f h. (short, (ms, parsed, rw same at h))) ok

-- ==== what two answers to one text have in common: two files that it spells, a file and a fault, two faults

-- ---- labels of two files that one document spells

any_label : (test : List ℕ → List (ℤ × List ℕ) → Bool) (ps : List (LabelView (List ℕ))) (fs gs : List (LabelView Expr)) → EachTo IsLabel ps fs → EachTo IsLabel ps gs →
    list_any (λ l. test l.name l.values) fs ≡ list_any (λ l. test l.name l.values) gs
any_label test [] [] [] h k = refl
any_label test (p ∷ ps) (f ∷ fs) (g ∷ gs) h k = ap₂ ◌||◌ (ap₂ test (h.0.0 ∙ sym k.0.0) (h.0.1 ∙ sym k.0.1)) (any_label test ps fs gs h.1 k.1)
any_label test [] (f ∷ fs) gs h k = absurd h
any_label test [] [] (g ∷ gs) h k = absurd k
any_label test (p ∷ ps) [] gs h k = absurd h
any_label test (p ∷ ps) (f ∷ fs) [] h k = absurd k

all_labels : (test : List ℕ → List (ℤ × List ℕ) → Bool) (ps : List (LabelView (List ℕ))) (fs gs : List (LabelView Expr)) → EachTo IsLabel ps fs → EachTo IsLabel ps gs →
    list_all (λ l. test l.name l.values) fs ≡ list_all (λ l. test l.name l.values) gs
all_labels test [] [] [] h k = refl
all_labels test (p ∷ ps) (f ∷ fs) (g ∷ gs) h k = ap₂ ◌&&◌ (ap₂ test (h.0.0 ∙ sym k.0.0) (h.0.1 ∙ sym k.0.1)) (all_labels test ps fs gs h.1 k.1)
all_labels test [] (f ∷ fs) gs h k = absurd h
all_labels test [] [] (g ∷ gs) h k = absurd k
all_labels test (p ∷ ps) [] gs h k = absurd h
all_labels test (p ∷ ps) (f ∷ fs) [] h k = absurd k

covered_alike : (ps : List (LabelView (List ℕ))) (fs gs ls : List (LabelView Expr)) → EachTo IsLabel ps fs → EachTo IsLabel ps gs → list_all (is_covered fs) ls ≡ list_all (is_covered gs) ls
covered_alike ps fs gs [] h k = refl
covered_alike ps fs gs (l ∷ ls) h k =
    ap₂ ◌&&◌ (any_label (λ name values. bytes_eq name l.name && has_values values l.values) ps fs gs h k) (covered_alike ps fs gs ls h k)

covers_alike : (p : FileView (List ℕ)) (f g other : FileView Expr) → IsFile p f → IsFile p g → (covers f other ≡ covers g other) × (covers other f ≡ covers other g)
covers_alike p f g other h k = (
  all_labels (λ name values. list_any (λ l. bytes_eq l.name name && has_values l.values values) other.labels) p.labels f.labels g.labels h.2 k.2,
  covered_alike p.labels f.labels g.labels other.labels h.2 k.2,
)

one_document : (text : List ℕ) (ms ns : Members) → parse_document text ≡ Some ms → parse_document text ≡ Some ns → ms ≡ ns
one_document text ms ns h k = same_Some ms ns (sym h ∙ k)

-- two files that one text spells have the same labels with the same values
pub same_covers : (text : List ℕ) (f g : FileView Expr) → IsRead text f → IsRead text g → (other : FileView Expr) → (covers f other ≡ covers g other) × (covers other f ≡ covers other g)
same_covers text f g (short, (ms, parsed, h)) (low, (ns, again, k)) other =
    let same = one_document text ns ms again parsed in
    covers_alike (spelled (table ms)) f g other h.0.1 (subst (λ (xs : Members). IsFile (spelled (table xs)) g) same k.0.1)

-- ---- labels that the requirements of two such files name

same_names : (text : List ℕ) (d e : Expr) → IsRequirementOf text d → IsRequirementOf text e → labels_in d ≡ labels_in e
same_names text (expr.Requirement d) (expr.Requirement e) h k = ap labels (one_tree requirement_reading text (view d.node) (view e.node) h k)
same_names text (expr.Requirement d) (expr.Copy e) h k = absurd k
same_names text (expr.Copy d) e h k = absurd h

module _ (ps : List (LabelView (List ℕ))) (fs gs : List (LabelView Expr)) (h : EachTo IsLabel ps fs) (k : EachTo IsLabel ps gs) where
  other_name : (names : List (List ℕ)) → list_any (λ name. not (list_any (λ l. bytes_eq l.name name) fs)) names ≡ list_any (λ name. not (list_any (λ l. bytes_eq l.name name) gs)) names
  other_name [] = refl
  other_name (name ∷ names) = ap₂ ◌||◌ (ap not (any_label (λ n values. bytes_eq n name) ps fs gs h k)) (other_name names)

  names_alike : (text : List ℕ) (d e : Expr) → IsRequirementOf text d → IsRequirementOf text e → names_other fs d ≡ names_other gs e
  names_alike text d e x y =
      other_name (text_set (labels_in d)) ∙ ap (λ names. list_any (λ name. not (list_any (λ l. bytes_eq l.name name) gs)) (text_set names)) (same_names text d e x y)

  may_name : (o : Option (List ℕ)) (d e : Option Expr) → IfThere IsRequirementOf o d → IfThere IsRequirementOf o e → option_map_or (names_other fs) d false ≡ option_map_or (names_other gs) e false
  may_name None None None x y = refl
  may_name (Some text) (Some d) (Some e) x y = names_alike text d e x y
  may_name None (Some d) e x y = absurd x
  may_name None None (Some e) x y = absurd y
  may_name (Some text) None e x y = absurd x
  may_name (Some text) (Some d) None x y = absurd y

  requires_alike : (p : RequirementView (List ℕ)) (q r : RequirementView Expr) → IsRequirement p q → IsRequirement p r → requires_other fs q ≡ requires_other gs r
  requires_alike p q r x y =
      ap₂ ◌||◌ (may_name p.applicable_if q.applicable_if r.applicable_if x.3 y.3)
      (ap₂ ◌||◌ (names_alike p.submittable_if q.submittable_if r.submittable_if x.4 y.4) (may_name p.override_if q.override_if r.override_if x.5 y.5))

  require_alike : (rs : List (RequirementView (List ℕ))) (xs ys : List (RequirementView Expr)) → EachTo IsRequirement rs xs → EachTo IsRequirement rs ys →
      list_any (requires_other fs) xs ≡ list_any (requires_other gs) ys
  require_alike [] [] [] a b = refl
  require_alike (r ∷ rs) (x ∷ xs) (y ∷ ys) a b = ap₂ ◌||◌ (requires_alike r x y a.0 b.0) (require_alike rs xs ys a.1 b.1)
  require_alike [] (x ∷ xs) ys a b = absurd a
  require_alike [] [] (y ∷ ys) a b = absurd b
  require_alike (r ∷ rs) [] ys a b = absurd a
  require_alike (r ∷ rs) (x ∷ xs) [] a b = absurd b

-- whether a requirement names an unknown label is the same for all files that a document spells
unknown_alike : (p : FileView (List ℕ)) (f g : FileView Expr) → IsFile p f → IsFile p g → has_unknown_label f ≡ has_unknown_label g
unknown_alike p f g h k =
    ap₂ (λ (o : Option (List ℕ)) (b : Bool). is_none o && b) (h.4 ∙ sym k.4) (require_alike p.labels f.labels g.labels h.2 k.2 p.requirements f.requirements g.requirements h.3 k.3)

not_both : (a b : Bool) → a ≡ b → a ≡ true → b ≡ false → ⊥
not_both a b e h k = cc

-- ---- a file, and a faulty expression

copy_both : (text : List ℕ) (e : Expr) (fault : ExprFault) → IsCopyOf text e → IsFault copy_reading NoWord text fault.place fault.code → ⊥
copy_both text (expr.Requirement e) fault is refused = is
copy_both text (expr.Copy e) fault is refused = (bad_value copy_reading NoWord text (view e.node) fault.place fault.code is refused).1.3

copies_both : (texts : List (List ℕ)) (fault : ExprFault) → AllRead IsCopyOf texts → FirstFault IsCopyOf IsNoCopy texts (parse.Text fault) → ⊥
copies_both [] fault all first = first
copies_both (text ∷ texts) fault all (inl refused) = copy_both text all.0.0 fault all.0.1 refused
copies_both (text ∷ texts) fault all (inr first) = copies_both texts fault all.1 first.1

requirement_both : (text : List ℕ) (e : Expr) (fault : ExprFault) → IsRequirementOf text e → IsFault requirement_reading IsDeep text fault.place fault.code → ⊥
requirement_both text (expr.Requirement e) fault is refused =
    no_deep_word text (view e.node) fault.place is (bad_value requirement_reading IsDeep text (view e.node) fault.place fault.code is refused).1
requirement_both text (expr.Copy e) fault is refused = is

requirements_both : (texts : List (List ℕ)) (fault : ExprFault) → AllRead IsRequirementOf texts → FirstFault IsRequirementOf IsNoRequirement texts (parse.Text fault) → ⊥
requirements_both [] fault all first = first
requirements_both (text ∷ texts) fault all (inl refused) = requirement_both text all.0.0 fault all.0.1 refused
requirements_both (text ∷ texts) fault all (inr first) = requirements_both texts fault all.1 first.1

-- where all expressions are good, none is faulty
file_both : (p : FileView (List ℕ)) (f : FileView Expr) (fault : ExprFault) → IsFile p f → IsStoppedBy p (parse.Text fault) → ⊥
file_both p f fault is (inl copies) = copies_both (copy_texts p.labels) fault (all_copies p.labels f.labels is.2) copies
file_both p f fault is (inr requirements) =
    requirements_both (requirement_texts p.requirements) fault (all_requirements p.requirements f.requirements is.3) requirements.1

-- ---- a file and a fault

no_first : (o : Option FileFault) (x : FileFault) → o ≡ None → o ≡ Some x → ⊥
no_first o x h k = cc

least_both : (file : Data) (f : FileView Expr) (x : FileFault) → IsFaultless file f → IsLeast file x → ⊥
least_both file f (Faulty e) good least = file_both (spelled file) f e good.0.1 least.1
least_both file f UnknownLabel good least = not_both _ _ (unknown_alike (spelled file) least.0 f least.1.1 good.0.1) least.2 good.1
least_both file f Limit good least = not_both _ _ refl least.3 good.2
least_both file f _ good least = no_first _ _ good.0.0 least

least_of : (text : List ℕ) (ms : Members) (x : FileFault) → nat_lt most_bytes (length text) ≡ false → parse_document text ≡ Some ms → IsFileFault text x → IsLeast (table ms) x
least_of text ms x short parsed refused =
    let P : Bool → Type 0 = λ long. MatchBool long (File x ≡ File Limit) (IsRefused (parse_document text) (File x)) in
    let Q : Option Members → Type 0 = λ o. IsRefused o (File x) in
    subst Q parsed (subst P short refused)

-- a text that spells a file has no fault
pub never_both : (text : List ℕ) (f : FileView Expr) (x : FileFault) → IsRead text f → IsFileFault text x → ⊥
never_both text f x (short, (ms, parsed, good)) refused = least_both (table ms) f x good (least_of text ms x short parsed refused)

-- ---- two faults

-- two faults are one, or one of them is a bad value, and a pattern nests too deep
abbrev OneOrBadValue : Type 0 → FileFault → FileFault → Type 0
OneOrBadValue Deep x y = (x ≡ y) ⊎ ((IsBadValue x ⊎ IsBadValue y) × Deep)

one_or : {A B : Type 0} (x y : FileFault) → (A → B) → OneOrBadValue A x y → OneOrBadValue B x y
one_or x y f (inl same) = inl same
one_or x y f (inr (bad, deep)) = inr (bad, f deep)

same_fault : (d e : ExprFault) → (d.place ≡ e.place) × (d.code ≡ e.code) → Faulty d ≡ Faulty e
same_fault d e h = ap₂ (λ p c. let x : ExprFault = record { place = p; code = c } in Faulty x) h.0 h.1

same_copy : (text : List ℕ) (d e : ExprFault) →
    ((d.place ≡ e.place) × (d.code ≡ e.code)) ⊎ (((d.code ≡ BadValue) × HasWord copy_reading NoWord text d.place) ⊎ ((e.code ≡ BadValue) × HasWord copy_reading NoWord text e.place)) →
    Faulty d ≡ Faulty e
same_copy text d e (inl same) = same_fault d e same
same_copy text d e (inr (inl deep)) = absurd deep.1.3
same_copy text d e (inr (inr deep)) = absurd deep.1.3

one_copy : (texts : List (List ℕ)) (d e : ExprFault) → FirstFault IsCopyOf IsNoCopy texts (parse.Text d) → FirstFault IsCopyOf IsNoCopy texts (parse.Text e) → Faulty d ≡ Faulty e
one_copy [] d e h k = absurd h
one_copy (text ∷ texts) d e (inl h) (inl k) = same_copy text d e (one_fault copy_reading NoWord text d.place e.place d.code e.code h k)
one_copy (text ∷ texts) d e (inl h) (inr k) = absurd (copy_both text k.0.0 d k.0.1 h)
one_copy (text ∷ texts) d e (inr h) (inl k) = absurd (copy_both text h.0.0 e h.0.1 k)
one_copy (text ∷ texts) d e (inr h) (inr k) = one_copy texts d e h.1 k.1

same_requirement : (text : List ℕ) (texts : List (List ℕ)) (d e : ExprFault) →
    ((d.place ≡ e.place) × (d.code ≡ e.code))
    ⊎ (((d.code ≡ BadValue) × HasWord requirement_reading IsDeep text d.place) ⊎ ((e.code ≡ BadValue) × HasWord requirement_reading IsDeep text e.place)) →
    OneOrBadValue (SomeWord IsDeep (text ∷ texts)) (Faulty d) (Faulty e)
same_requirement text texts d e (inl same) = inl (same_fault d e same)
same_requirement text texts d e (inr (inl deep)) = inr (inl deep.0, inl (d.place, deep.1))
same_requirement text texts d e (inr (inr deep)) = inr (inr deep.0, inl (e.place, deep.1))

one_requirement : (texts : List (List ℕ)) (d e : ExprFault) → FirstFault IsRequirementOf IsNoRequirement texts (parse.Text d) →
    FirstFault IsRequirementOf IsNoRequirement texts (parse.Text e) → OneOrBadValue (SomeWord IsDeep texts) (Faulty d) (Faulty e)
one_requirement [] d e h k = absurd h
one_requirement (text ∷ texts) d e (inl h) (inl k) =
    same_requirement text texts d e (one_fault requirement_reading IsDeep text d.place e.place d.code e.code h k)
one_requirement (text ∷ texts) d e (inl h) (inr k) = absurd (requirement_both text k.0.0 d k.0.1 h)
one_requirement (text ∷ texts) d e (inr h) (inl k) = absurd (requirement_both text h.0.0 e h.0.1 k)
one_requirement (text ∷ texts) d e (inr h) (inr k) = one_or (Faulty d) (Faulty e) inr (one_requirement texts d e h.1 k.1)

one_stop : (p : FileView (List ℕ)) (d e : ExprFault) → IsStoppedBy p (parse.Text d) → IsStoppedBy p (parse.Text e) →
    OneOrBadValue (SomeWord IsDeep (requirement_texts p.requirements)) (Faulty d) (Faulty e)
one_stop p d e (inl h) (inl k) = inl (one_copy (copy_texts p.labels) d e h k)
one_stop p d e (inl h) (inr k) = absurd (copies_both (copy_texts p.labels) d k.0 h)
one_stop p d e (inr h) (inl k) = absurd (copies_both (copy_texts p.labels) e h.0 k)
one_stop p d e (inr h) (inr k) = one_requirement (requirement_texts p.requirements) d e h.1 k.1

-- how a document has a fault
data Verdict (file : Data) (x : FileFault) : Type 0 where
  Early : first_fault file ≡ Some x → Verdict file x
  Stopped : (e : ExprFault) → x ≡ Faulty e → first_fault file ≡ None → IsStoppedBy (spelled file) (parse.Text e) → Verdict file x
  Unknown : (f : FileView Expr) → x ≡ UnknownLabel → HasFile file f → has_unknown_label f ≡ true → Verdict file x
  Past : (f : FileView Expr) → x ≡ Limit → HasFile file f → has_unknown_label f ≡ false → Verdict file x

verdict : (file : Data) (x : FileFault) → IsLeast file x → Verdict file x
verdict file (Faulty e) least = Stopped e refl least.0 least.1
verdict file UnknownLabel least = Unknown least.0 refl least.1 least.2
verdict file Limit least = Past least.0 refl least.1 least.2
verdict file _ least = Early least

module _ (file : Data) where
  abbrev Deep : Type 0
  Deep = SomeWord IsDeep (requirement_texts (spelled file).requirements)

  stopped : (x : FileFault) (f : FileView Expr) (e : ExprFault) → x ≡ Faulty e → HasFile file f → IsStoppedBy (spelled file) (parse.Text e) → ⊥
  stopped x f e is has stop = file_both (spelled file) f e has.1 stop

  one_verdict : (x y : FileFault) → Verdict file x → Verdict file y → OneOrBadValue Deep x y
  one_verdict x y (Early h) (Early k) = inl (same_Some x y (sym h ∙ k))
  one_verdict x y (Early h) (Stopped e is first stop) = absurd (no_first _ x first h)
  one_verdict x y (Early h) (Unknown f is has unknown) = absurd (no_first _ x has.0 h)
  one_verdict x y (Early h) (Past f is has known) = absurd (no_first _ x has.0 h)
  one_verdict x y (Stopped d was first stop) (Early k) = absurd (no_first _ y first k)
  one_verdict x y (Stopped d was first stop) (Stopped e is second end) = subst (λ z. OneOrBadValue Deep z y) (sym was) (subst (OneOrBadValue Deep (Faulty d)) (sym is) (one_stop (spelled file) d e stop end))
  one_verdict x y (Stopped d was first stop) (Unknown f is has unknown) = absurd (stopped x f d was has stop)
  one_verdict x y (Stopped d was first stop) (Past f is has known) = absurd (stopped x f d was has stop)
  one_verdict x y (Unknown f was has unknown) (Early k) = absurd (no_first _ y has.0 k)
  one_verdict x y (Unknown f was has unknown) (Stopped e is first stop) = absurd (stopped y f e is has stop)
  one_verdict x y (Unknown f was has unknown) (Unknown g is spells another) = inl (was ∙ sym is)
  one_verdict x y (Unknown f was has unknown) (Past g is spells known) = absurd (not_both _ _ (unknown_alike (spelled file) f g has.1 spells.1) unknown known)
  one_verdict x y (Past f was has known) (Early k) = absurd (no_first _ y has.0 k)
  one_verdict x y (Past f was has known) (Stopped e is first stop) = absurd (stopped y f e is has stop)
  one_verdict x y (Past f was has known) (Unknown g is spells unknown) = absurd (not_both _ _ (unknown_alike (spelled file) g f spells.1 has.1) unknown known)
  one_verdict x y (Past f was has known) (Past g is spells within) = inl (was ∙ sym is)

same_refusal : (x y : FileFault) → File x ≡ File y → x ≡ y
same_refusal x y h = cc

one_refused : (o : Option Members) (text : List ℕ) (x y : FileFault) → parse_document text ≡ o → IsRefused o (File x) → IsRefused o (File y) → OneOrBadValue (HasDeepPattern text) x y
one_refused None text x y parsed h k = inl (same_refusal x y (h ∙ sym k))
one_refused (Some ms) text x y parsed h k = one_or x y (λ word. (ms, parsed, word)) (one_verdict (table ms) x y (verdict (table ms) x h) (verdict (table ms) y k))

one_by : (long : Bool) (text : List ℕ) (x y : FileFault) → MatchBool long (File x ≡ File Limit) (IsRefused (parse_document text) (File x)) →
    MatchBool long (File y ≡ File Limit) (IsRefused (parse_document text) (File y)) → OneOrBadValue (HasDeepPattern text) x y
one_by true text x y h k = inl (same_refusal x y (h ∙ sym k))
one_by false text x y h k = one_refused (parse_document text) text x y refl h k

-- of two different faults of a text one is a bad value, for a pattern that nests too deep
pub one_refusal : (text : List ℕ) (x y : FileFault) → IsFileFault text x → IsFileFault text y → (x ≡ y) ⊎ ((IsBadValue x ⊎ IsBadValue y) × HasDeepPattern text)
one_refusal text x y h k = one_by (nat_lt most_bytes (length text)) text x y h k

-- ==== a text that is refused for a pattern spells one

-- no copy condition is refused for a pattern
no_copy : (texts : List (List ℕ)) → FirstFault IsCopyOf IsNoCopy texts parse.Pattern → ⊥
no_copy [] first = first
no_copy (text ∷ texts) (inl word) = word.1.3
no_copy (text ∷ texts) (inr first) = no_copy texts first.1

-- a requirement's expression that is refused for a pattern has one
some_requirement : (texts : List (List ℕ)) → FirstFault IsRequirementOf IsNoRequirement texts parse.Pattern → SomeWord IsPattern texts
some_requirement [] first = first
some_requirement (text ∷ texts) (inl word) = inl word
some_requirement (text ∷ texts) (inr first) = inr (some_requirement texts first.1)

refused_by : (o : Option Members) (text : List ℕ) → parse_document text ≡ o → IsRefused o Pattern → HasPattern text
refused_by None text parsed refused = absurd (let none : Pattern ≡ File Toml = refused in cc)
refused_by (Some ms) text parsed refused =
    (ms, parsed, elim refused.1 [ inl first ↦ absurd (no_copy _ first) | inr requirements ↦ some_requirement _ requirements.1 ])

read_by : (long : Bool) (text : List ℕ) → MatchBool long (Pattern ≡ File Limit) (IsRefused (parse_document text) Pattern) → HasPattern text
read_by true text refused = absurd (let none : Pattern ≡ File Limit = refused in cc)
read_by false text refused = refused_by (parse_document text) text refl refused

pub pattern_spelled : (text : List ℕ) (fault : ReadFault) → IsReadFault text fault → fault ≡ Pattern → HasPattern text
pattern_spelled text fault refused is =
    let P : ReadFault → Type 0 = λ f. IsReadFault text f in read_by (nat_lt most_bytes (length text)) text (subst P is refused)
