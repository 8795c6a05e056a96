-- The words of copy conditions, read again.
use Rattle.std.proofs.Common.{◌≡◌, List, ◌∷◌, ℕ, Option, None, Some, Bool, true, false, cond, option_map, refl, sym, ap, subst, ◌∙◌, codes, bytes_eq}
use Rattle.review_names.specs.{Kinds.kind_named, Kinds.kind_name, Names.is_word, declared.kinds.ChangeKind.ChangeKind}
use Rattle.review_expr_terms.specs.Words.{NoTerm, Reading, Good, Bad}
use Rattle.review_expr_terms.specs.declared.terms.{CopyTerm.CopyTerm, VoteValue.VoteValue}
use Rattle.review_expr_spelling.specs.Values.{cut_at, key_and_value, unquoted, with_first, vote_in, is_met_by_zero}
use Rattle.review_expr_spelling.specs.Words.{◌>>=◌, in_term, in_value, unless_zero, copy_key, copy_value, copy_reading}
use Rattle.review_expr_spelling.specs.declared.keys.CopyKey.{CopyKey}
use Rattle.review_expr_printing.proofs.Words.{lacks, word_back, value_lacks, bare_quote, keep, keep_both, quoted_runs, small_vote, vote_again, bare_vote}
use Rattle.review_expr_printing.specs.Written.{vote_text, word_of, copy_word, IsOneWord}
use Rattle.review_names.specs.Numerals as Steps
use Rattle.review_expr_terms.specs.declared.terms.Comparison.TheVariants as comparison
use Rattle.review_names.specs.declared.kinds.ChangeKind.TheVariants as kind
use Rattle.review_expr_terms.specs.declared.terms.CopyTerm.TheVariants as copy
use Rattle.review_expr_spelling.specs.declared.keys.CopyKey.TheVariants as of_copy

-- a value that is read as a term: what was read
pub value_good : {A B : Type 0} (f : A → B) (o : Option A) (t : B) → in_value (option_map f o) ≡ Good t → (x : A) × (o ≡ Some x) × (f x ≡ t)
value_good f None t e = absurd (cc)
value_good f (Some x) t e = (x, refl, cc)

pub formed_good : {B : Type 0} (p : List ℕ → Bool) (f : List ℕ → B) (b : Bool) (x : List ℕ) (t : B) → in_value (option_map f (cond b (Some x) None)) ≡ Good t → f x ≡ t
formed_good p f true x t e = cc
formed_good p f false x t e = absurd (cc)

copy_name : CopyKey → List ℕ
copy_name of_copy.Is = codes "is"
copy_name of_copy.ChangeKind = codes "changekind"
copy_name of_copy.ApproverIn = codes "approverin"
copy_name of_copy.UploaderIn = codes "uploaderin"
copy_name of_copy.Has = codes "has"

name_back : (key : CopyKey) → copy_key (copy_name key) ≡ Some key
unfolding copy_key copy_name
name_back of_copy.Is = refl
name_back _ = refl

name_lacks : (key : CopyKey) → lacks 58 (copy_name key) ≡ true
unfolding copy_name
name_lacks of_copy.Is = refl
name_lacks _ = refl

-- a term whose word is a key and a value that give it
record Spelled (t : CopyTerm) : Type 0 where
  key : CopyKey
  text : List ℕ
  is : copy_word t ≡ word_of (copy_name key) text
  bare : lacks 34 text ≡ true
  gives : copy_value key text ≡ Good t

read_spelled : (t : CopyTerm) → Spelled t → copy_reading (copy_word t) ≡ Good t
unfolding copy_reading
read_spelled t s =
    ap (λ w. in_term (key_and_value w) >>= (λ halves. in_term (copy_key halves.0) >>= (λ key. copy_value key halves.1))) s.is
    ∙ (ap (λ o. in_term o >>= (λ halves. in_term (copy_key halves.0) >>= (λ key. copy_value key halves.1))) (word_back (copy_name s.key) s.text (name_lacks s.key) s.bare)
    ∙ (ap (λ o. in_term o >>= (λ key. copy_value key s.text)) (name_back s.key) ∙ s.gives))

spelled_vote : (x : List ℕ) (v : VoteValue) (t : CopyTerm) → vote_in x ≡ Some v → unless_zero (is_met_by_zero (comparison.Is v)) (copy.Value v) ≡ Good t → Spelled t
unfolding copy_value copy_name
spelled_vote x v t e h = by_zero (is_met_by_zero (comparison.Is v)) refl h where
  good : copy.Value v ≡ t → is_met_by_zero (comparison.Is v) ≡ false → Spelled t
  good same met = subst Spelled same (record {
    key = of_copy.Is;
    text = vote_text v;
    is = refl;
    bare = bare_quote (vote_text v) (bare_vote v);
    gives = rw (vote_again v (small_vote x v e), met) refl;
  })

  by_zero : (b : Bool) → is_met_by_zero (comparison.Is v) ≡ b → unless_zero b (copy.Value v) ≡ Good t → Spelled t
  by_zero true met g = absurd (cc)
  by_zero false met g = good (cc) met

spelled_kind : (k : ChangeKind) → Spelled (copy.Kind k)
unfolding copy_value copy_name kind_named
spelled_kind kind.NoChange = record { key = of_copy.ChangeKind; text = kind_name kind.NoChange; is = refl; bare = refl; gives = refl }
spelled_kind kind.NoCodeChange = record { key = of_copy.ChangeKind; text = kind_name kind.NoCodeChange; is = refl; bare = refl; gives = refl }
spelled_kind kind.TrivialRebase = record { key = of_copy.ChangeKind; text = kind_name kind.TrivialRebase; is = refl; bare = refl; gives = refl }
spelled_kind kind.TrivialRebaseWithMessageUpdate = record { key = of_copy.ChangeKind; text = kind_name kind.TrivialRebaseWithMessageUpdate; is = refl; bare = refl; gives = refl }
spelled_kind kind.MergeFirstParentUpdate = record { key = of_copy.ChangeKind; text = kind_name kind.MergeFirstParentUpdate; is = refl; bare = refl; gives = refl }
spelled_kind kind.Rework = record { key = of_copy.ChangeKind; text = kind_name kind.Rework; is = refl; bare = refl; gives = refl }

vote_of : (o : Option VoteValue) (t : CopyTerm) → (in_value o >>= (λ v. unless_zero (is_met_by_zero (comparison.Is v)) (copy.Value v))) ≡ Good t
    → (v : VoteValue) × (o ≡ Some v) × (unless_zero (is_met_by_zero (comparison.Is v)) (copy.Value v) ≡ Good t)
vote_of None t e = absurd (cc)
vote_of (Some v) t e = (v, refl, e)

has_of : (b : Bool) (t : CopyTerm) → in_value (cond b (Some copy.UnchangedFiles) None) ≡ Good t → copy.UnchangedFiles ≡ t
has_of true t e = cc
has_of false t e = absurd (cc)

spelled : (key : CopyKey) (x : List ℕ) (t : CopyTerm) → lacks 34 x ≡ true → copy_value key x ≡ Good t → Spelled t
unfolding copy_value copy_name
spelled of_copy.Is x t bare e = let v = vote_of (vote_in x) t e in spelled_vote x v.0 t v.1 v.2
spelled of_copy.ChangeKind x t bare e = let k = value_good copy.Kind (kind_named x) t e in subst Spelled k.2 (spelled_kind k.0)
spelled of_copy.ApproverIn x t bare e =
    let same = formed_good is_word copy.ApproverIn (is_word x) x t e in
    record { key = of_copy.ApproverIn; text = x; is = ap copy_word (sym same); bare = bare; gives = e }
spelled of_copy.UploaderIn x t bare e =
    let same = formed_good is_word copy.UploaderIn (is_word x) x t e in
    record { key = of_copy.UploaderIn; text = x; is = ap copy_word (sym same); bare = bare; gives = e }
spelled of_copy.Has x t bare e =
    subst Spelled (has_of (bytes_eq x (codes "unchanged-files")) t e) (record { key = of_copy.Has; text = codes "unchanged-files"; is = refl; bare = refl; gives = refl })

by_key : (o : Option CopyKey) (x : List ℕ) (t : CopyTerm) → lacks 34 x ≡ true → (in_term o >>= (λ key. copy_value key x)) ≡ Good t → Spelled t
by_key None x t bare e = absurd (cc)
by_key (Some key) x t bare e = spelled key x t bare e

by_halves : (w : List ℕ) (o : Option (List ℕ × List ℕ)) (t : CopyTerm) → key_and_value w ≡ o
    → (in_term o >>= (λ halves. in_term (copy_key halves.0) >>= (λ key. copy_value key halves.1))) ≡ Good t → Spelled t
by_halves w None t is e = absurd (cc)
by_halves w (Some halves) t is e = by_key (copy_key halves.0) halves.1 t (value_lacks w halves.0 halves.1 is) e

spelled_by : (w : List ℕ) (t : CopyTerm) → copy_reading w ≡ Good t → Spelled t
unfolding copy_reading
spelled_by w t e = by_halves w (key_and_value w) t refl e

pub copy_again : (w : List ℕ) (t : CopyTerm) → copy_reading w ≡ Good t → copy_reading (copy_word t) ≡ Good t
copy_again w t e = read_spelled t (spelled_by w t e)

one_word : (key : CopyKey) (text : List ℕ) → lacks 34 text ≡ true → IsOneWord (word_of (copy_name key) text)
unfolding copy_name word_of
one_word of_copy.Is text h = (_, _, refl, refl, quoted_runs text h)
one_word _ text h = (_, _, refl, refl, quoted_runs text h)

pub copy_stands : (w : List ℕ) (t : CopyTerm) → copy_reading w ≡ Good t → IsOneWord (copy_word t)
copy_stands w t e = let s = spelled_by w t e in subst IsOneWord (sym s.is) (one_word s.key s.text s.bare)

abbrev with_key : List ℕ × List ℕ → Reading CopyTerm
with_key halves = in_term (copy_key halves.0) >>= (λ key. copy_value key halves.1)

minus_value : (o : Option (List ℕ)) (k : List ℕ) → in_term (Steps.◌>>=◌ o (keep (45 ∷ k))) >>= with_key ≡ Bad NoTerm
unfolding copy_key
minus_value None k = refl
minus_value (Some x) k = refl

minus_halves : (o : Option (List ℕ × List ℕ)) → in_term (Steps.◌>>=◌ (option_map (with_first 45) o) keep_both) >>= with_key ≡ Bad NoTerm
minus_halves None = refl
minus_halves (Some halves) = minus_value (unquoted halves.1) halves.0

-- no key begins with a minus
pub copy_minus : (w : List ℕ) → copy_reading (45 ∷ w) ≡ Bad NoTerm
unfolding copy_reading key_and_value cut_at
copy_minus w = minus_halves (cut_at 58 w)
