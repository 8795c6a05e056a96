-- The parts of label words.
use Rattle.std.proofs.Common.{◌≡◌, ℕ, ◌≤◌, ◌==◌, List, [], ◌∷◌, ◌++◌, append-nil, Bool, true, false, not, cond, Option, None, Some, option_map, refl, ap, subst, ◌∙◌, arith, ◌&&◌, nat_le, codes, ℤ, pos, sym, bytes_eq, zero, suc, ◌+◌, ◌-◌, ◌<◌, length, take, drop, length-append, ◌||◌}
use Rattle.std.proofs.Math.{Bool.and-false, Seq.take-append_seam, Seq.drop-append_seam, Seq.take-append-add}
use Rattle.std.proofs.lemmas.{Bool.and_parts, Bool.Decides.nat_tests, Option.same_Some, Slice.Eq.bytes_eq-Decides}
use Rattle.std.specs.{Char.is_ascii_alphabetic, Char.is_ascii_alphanumeric, List.list_all}
use Rattle.review_names.{proofs.Numerals.number_shown, specs.Forms.is_label, specs.Forms.goes_on}
use Rattle.review_names.specs.Names.{is_account_number, is_plain, is_word}
use Rattle.review_names.specs.Numerals.{numeral, account_of, number_of, ◌>>=◌}
use Rattle.review_expr_terms.specs.declared.terms.{Comparison.Comparison, Count.Count, LabelTerm.LabelTerm}
use Rattle.review_expr_terms.specs.declared.terms.{VoteValue.VoteValue, Voters.Voters}
use Rattle.review_expr_spelling.proofs.{Accounts.account_back, Cutting.behind_front}
use Rattle.review_expr_spelling.proofs.Fronts.{label_goes, passed_over, taken_front}
use Rattle.review_expr_spelling.specs.Labels.{accounts_in, count_in, user_in, group_in, voters_in, one_part, two_parts, parts_by, parts_in, comparison_part, behind_comma, longest_label, label_in}
use Rattle.review_expr_spelling.specs.Values.{behind, cut_at, digits_in, by_front, negative, number_in, vote_in, equal_to, comparison_in}
use Rattle.review_expr_printing.proofs.Words.{lacks, bare, bare_quote, bare_comma, cut_lacking, whole_lacking, bare_both, lacks_both, in_numeral, bare_numeral, behind_in, differs, digits_back, front_gives, test_gives, map_gives, none_gives, IsSmallComparison, small_comparison, comparison_again, bare_comparison}
use Rattle.review_expr_printing.specs.Written.{voters_text, count_text, comparison_text, label_text}
use Rattle.review_expr_terms.specs.declared.terms.Voters.TheVariants as voters
use Rattle.review_expr_terms.specs.declared.terms.Count.TheVariants as count
use Rattle.review_expr_terms.specs.declared.terms.VoteValue.TheVariants as value
use Rattle.review_expr_terms.specs.declared.terms.Comparison.TheVariants as comparison

-- ==== the parts of label words, written and read again

-- from 1 to 20
abbrev pub IsAsked : Count → Type 0
IsAsked (count.Exactly k) = (1 ≤ k) × (k ≤ 20)
IsAsked (count.AtLeast k) = (1 ≤ k) × (k ≤ 20)
IsAsked (count.Above k) = (1 ≤ k) × (k ≤ 20)

abbrev pub IsAskedIfAny : Option Count → Type 0
IsAskedIfAny None = Unit {0}
IsAskedIfAny (Some asked) = IsAsked asked

-- names and numbers of their forms
abbrev pub IsNamed : Voters → Type 0
IsNamed (voters.Account n) = is_account_number n ≡ true
IsNamed (voters.Group group) = is_word group ≡ true
IsNamed _ = Unit {0}

accounts_again : (k : ℕ) → (1 ≤ k) × (k ≤ 20) → accounts_in (numeral k) ≡ Some k
unfolding accounts_in
accounts_again k h =
    let t : (nat_le 1 k && nat_le k 20) ≡ true = grind (arith, nat_tests, h.0, h.1) in
    rw (digits_back k (omega (arith, h.1)), t) refl

-- what a reading and a second one of what it gave tell
pub bind_gives : {A B : Type 0} (P : B → Type 0) (o : Option A) (f : A → Option B) → ((a : A) → o ≡ Some a → (b : B) → f a ≡ Some b → P b) → (b : B) → o >>= f ≡ Some b → P b
bind_gives P None f h b e = absurd (cc)
bind_gives P (Some a) f h b e = h a refl b e

-- what was read passes its test
tested : {A : Type 0} (test : A → Bool) (b : Bool) (n : A) → test n ≡ b → (m : A) → cond b (Some n) None ≡ Some m → test m ≡ true
tested test true n is m e = let same : n ≡ m = cc in subst (λ k. test k ≡ true) same is
tested test false n is m e = absurd (cc)

kept : {A : Type 0} (test : A → Bool) (o : Option A) (m : A) → o >>= (λ n. cond (test n) (Some n) None) ≡ Some m → test m ≡ true
kept test o = bind_gives (λ m. test m ≡ true) o (λ n. cond (test n) (Some n) None) (λ n read. tested test (test n) n refl)

asked_accounts : (x : List ℕ) (k : ℕ) → accounts_in x ≡ Some k → (1 ≤ k) × (k ≤ 20)
unfolding accounts_in
asked_accounts x k e =
    let t : (nat_le 1 k && nat_le k 20) ≡ true = kept (λ n. nat_le 1 n && nat_le n 20) (digits_in x) k e in
    (grind (arith, nat_tests, t), grind (arith, nat_tests, t))

pub asked_count : (x : List ℕ) (c : Count) → count_in x ≡ Some c → IsAsked c
unfolding count_in
asked_count x =
    front_gives IsAsked _ _ _ (λ r. map_gives IsAsked count.Exactly (accounts_in r) (asked_accounts r))
    (front_gives IsAsked _ _ _ (λ r. map_gives IsAsked count.AtLeast (accounts_in r) (asked_accounts r))
    (front_gives IsAsked _ _ _ (λ r. map_gives IsAsked count.Above (accounts_in r) (asked_accounts r))
    (none_gives IsAsked)))

-- a count without the comma in front of it
abbrev pub count_part : Count → List ℕ
count_part (count.Exactly k) = codes "count=" ++ numeral k
count_part (count.AtLeast k) = codes "count>=" ++ numeral k
count_part (count.Above k) = codes "count>" ++ numeral k

count_shown : (c : Count) → count_text (Some c) ≡ 44 ∷ count_part c
count_shown (count.Exactly k) = refl
count_shown _ = refl

bare_count : (c : Count) → bare (count_part c) ≡ true
bare_count (count.Exactly k) = bare_numeral k
bare_count (count.AtLeast k) = bare_numeral k
bare_count (count.Above k) = bare_numeral k

count_again : (c : Count) → IsAsked c → count_in (count_part c) ≡ Some c
unfolding count_in behind
count_again (count.Exactly k) h = ap (option_map count.Exactly) (accounts_again k h)
count_again (count.AtLeast k) h = ap (option_map count.AtLeast) (accounts_again k h)
count_again (count.Above k) h = rw (behind_in 48 61 [] (numeral k) refl (in_numeral k)) (ap (option_map count.Above) (accounts_again k h))

named_account : (x : List ℕ) (m : ℕ) → account_of x ≡ Some m → is_account_number m ≡ true
unfolding account_of
named_account x = kept is_account_number (number_of x)

named_as : (v w : Voters) → IsNamed v → ◌≡◌ {A = Option Voters} (Some v) (Some w) → IsNamed w
named_as v w h e = let same : v ≡ w = cc in subst IsNamed same h

named_user : (x : List ℕ) (v : Voters) → user_in x ≡ Some v → IsNamed v
unfolding user_in
named_user x =
    test_gives IsNamed _ _ _ (λ v. named_as voters.NonUploader v tt)
    (test_gives IsNamed _ _ _ (λ v. named_as voters.Owner v tt)
    (map_gives IsNamed voters.Account (account_of x) (named_account x)))

pub named_voters : (x : List ℕ) (v : Voters) → voters_in x ≡ Some v → IsNamed v
unfolding voters_in
named_voters x =
    front_gives IsNamed _ _ _ named_user
    (front_gives IsNamed _ _ _ (λ r. map_gives IsNamed voters.Group (group_in r) (tested is_word (is_word r) r refl))
    (none_gives IsNamed))

bare_plain : (s : List ℕ) → list_all is_plain s ≡ true → bare s ≡ true
bare_plain [] h = refl
bare_plain (c ∷ s) h =
    let p = and_parts (is_plain c) (list_all is_plain s) h in
    let q = p.0 in
    let t : (not (c == 34) && not (c == 44)) ≡ true = grind (arith, nat_tests, q) in
    (λ i. t i && bare_plain s p.1 i)

pub bare_word : (s : List ℕ) → is_word s ≡ true → bare s ≡ true
unfolding is_word
bare_word s h = bare_plain s (grind (arith, h))

-- the parts behind a comparison, with the comma in front of them
abbrev pub tail : Option (List ℕ) → List ℕ
tail None = []
tail (Some parts) = 44 ∷ parts

pub record Tail (v : Voters) (k : Option Count) : Type 0 where
  pub parts : Option (List ℕ)
  pub text : voters_text v ++ count_text k ≡ tail parts
  pub gives : parts_in parts ≡ Some (v, k)

with_voters : (v : Voters) (p : List ℕ) → voters_text v ≡ 44 ∷ p → voters_in p ≡ Some v → count_in p ≡ None → bare p ≡ true → (k : Option Count) → IsAskedIfAny k → Tail v k
unfolding parts_in
with_voters v p shown reads other bare None h = record {
  parts = Some p;
  text = append-nil (voters_text v) ∙ shown;
  gives = ap (λ o. parts_by o p) (whole_lacking 44 p (bare_comma p bare)) ∙ (ap (λ o. one_part o p) other ∙ ap (option_map (λ who. (who, None))) reads);
}
with_voters v p shown reads other bare (Some c) h = record {
  parts = Some (p ++ 44 ∷ count_part c);
  text = (λ i. shown i ++ count_shown c i);
  gives = ap (λ o. parts_by o (p ++ 44 ∷ count_part c)) (cut_lacking 44 p (count_part c) (bare_comma p bare))
      ∙ (ap (λ o. two_parts (count_in p) o p (count_part c)) (count_again c h) ∙ ap (option_map (λ who. (who, Some c))) reads);
}

pub tail_of : (v : Voters) (k : Option Count) → IsNamed v → IsAskedIfAny k → Tail v k
unfolding parts_in voters_in user_in count_in behind
tail_of voters.Everyone None named h = record { parts = None; text = refl; gives = refl }
tail_of voters.Everyone (Some c) named h = record {
  parts = Some (count_part c);
  text = count_shown c;
  gives = ap (λ o. parts_by o (count_part c)) (whole_lacking 44 (count_part c) (bare_comma (count_part c) (bare_count c))) ∙ ap (λ o. one_part o (count_part c)) (count_again c h);
}
tail_of voters.NonUploader k named h = with_voters voters.NonUploader (codes "user=non_uploader") refl refl refl refl k h
tail_of voters.Owner k named h = with_voters voters.Owner (codes "user=owner") refl refl refl refl k h
tail_of (voters.Account n) k named h =
    with_voters (voters.Account n) (codes "user=" ++ numeral n) refl
    (rw (differs 48 110 (codes "on_uploader") (numeral n) refl (in_numeral n), differs 48 111 (codes "wner") (numeral n) refl (in_numeral n), account_back n named) refl)
    refl (bare_numeral n) k h
tail_of (voters.Group group) k named h =
    with_voters (voters.Group group) (codes "group=" ++ group) refl (rw named refl) refl (bare_word group named) k h

-- no quote stands in the parts
pub voters_lack : (v : Voters) → IsNamed v → lacks 34 (voters_text v) ≡ true
voters_lack (voters.Account n) h = bare_quote (numeral n) (bare_numeral n)
voters_lack (voters.Group group) h = bare_quote group (bare_word group h)
voters_lack _ h = refl

pub count_lacks : (k : Option Count) → lacks 34 (count_text k) ≡ true
count_lacks None = refl
count_lacks (Some (count.Exactly k)) = bare_quote (numeral k) (bare_numeral k)
count_lacks (Some (count.AtLeast k)) = bare_quote (numeral k) (bare_numeral k)
count_lacks (Some (count.Above k)) = bare_quote (numeral k) (bare_numeral k)

-- what parts give is of its forms
abbrev pub AreParts : Voters × Option Count → Type 0
AreParts parts = IsNamed parts.0 × IsAskedIfAny parts.1

parts_as : (p q : Voters × Option Count) → AreParts p → Some p ≡ Some q → AreParts q
parts_as p q h e = subst AreParts (same_Some p q e) h

one_good : (c : Option Count) (x : List ℕ) (p : Voters × Option Count) → count_in x ≡ c → one_part c x ≡ Some p → AreParts p
one_good (Some asked) x p is e = parts_as (voters.Everyone, Some asked) p (tt, asked_count x asked is) e
one_good None x p is e = map_gives AreParts (λ who. (who, None)) (voters_in x) (λ who h. (named_voters x who h, tt)) p e

two_good : (c d : Option Count) (x y : List ℕ) (p : Voters × Option Count) → count_in x ≡ c → count_in y ≡ d → two_parts c d x y ≡ Some p → AreParts p
two_good c (Some asked) x y p first second e = map_gives AreParts (λ who. (who, Some asked)) (voters_in x) (λ who h. (named_voters x who h, asked_count y asked second)) p e
two_good (Some asked) None x y p first second e = map_gives AreParts (λ who. (who, Some asked)) (voters_in y) (λ who h. (named_voters y who h, asked_count x asked first)) p e
two_good None None x y p first second e = none_gives AreParts p e

parts_good : (o : Option (List ℕ × List ℕ)) (x : List ℕ) (p : Voters × Option Count) → parts_by o x ≡ Some p → AreParts p
parts_good None x p e = one_good (count_in x) x p refl e
parts_good (Some halves) x p e = two_good (count_in halves.0) (count_in halves.1) halves.0 halves.1 p refl refl e

pub good_parts : (o : Option (List ℕ)) (p : Voters × Option Count) → parts_in o ≡ Some p → AreParts p
unfolding parts_in
good_parts None p e = parts_as (voters.Everyone, None) p (tt, tt) e
good_parts (Some x) p e = parts_good (cut_at 44 x) x p e

-- a comparison and its parts, cut at the first comma
pub cut_tail : (s : List ℕ) (o : Option (List ℕ)) → bare s ≡ true → (comparison_part (cut_at 44 (s ++ tail o)) (s ++ tail o) ≡ s) × (behind_comma (cut_at 44 (s ++ tail o)) ≡ o)
cut_tail s None bare =
    let none : cut_at 44 (s ++ []) ≡ None = ap (cut_at 44) (append-nil s) ∙ whole_lacking 44 s (bare_comma s bare) in
    (ap (λ x. comparison_part x (s ++ [])) none ∙ append-nil s, ap behind_comma none)
cut_tail s (Some parts) bare =
    let cut : cut_at 44 (s ++ 44 ∷ parts) ≡ Some (s, parts) = cut_lacking 44 s parts (bare_comma s bare) in
    (ap (λ x. comparison_part x (s ++ 44 ∷ parts)) cut, ap behind_comma cut)

-- ==== what is read of a text tells that the text has no comma; and a part that says whose votes count is no count

-- what is read behind a front, or otherwise, tells it of the text
front_by : {A : Type 0} (Q : List ℕ → Type 0) (f x : List ℕ) (read : List ℕ → Option A) (otherwise : Option A) (o : Option (List ℕ)) → behind f x ≡ o
    → ((r : List ℕ) (a : A) → read r ≡ Some a → Q (f ++ r)) → ((a : A) → otherwise ≡ Some a → Q x) → (a : A) → by_front o read otherwise ≡ Some a → Q x
front_by Q f x read otherwise (Some r) is found fails a e = subst Q (sym (behind_front f x r is)) (found r a e)
front_by Q f x read otherwise None is found fails a e = fails a e

front_tells : {A : Type 0} (Q : List ℕ → Type 0) (f x : List ℕ) (read : List ℕ → Option A) (otherwise : Option A)
    → ((r : List ℕ) (a : A) → read r ≡ Some a → Q (f ++ r)) → ((a : A) → otherwise ≡ Some a → Q x) → (a : A) → by_front (behind f x) read otherwise ≡ Some a → Q x
front_tells Q f x read otherwise = front_by Q f x read otherwise (behind f x) refl

abbrev IsBare : List ℕ → Type 0
IsBare x = bare x ≡ true

-- one of the words, or something else
word_by : {A : Type 0} (w x : List ℕ) (b : Bool) (y z : Option A) → bytes_eq x w ≡ b → IsBare w → ((a : A) → z ≡ Some a → IsBare x) → (a : A) → cond b y z ≡ Some a → IsBare x
word_by w x true y z is plain other a e = subst IsBare (sym ((bytes_eq-Decides x w).0 is)) plain
word_by w x false y z is plain other a e = other a e

word_bare : {A : Type 0} (w x : List ℕ) (y z : Option A) → IsBare w → ((a : A) → z ≡ Some a → IsBare x) → (a : A) → cond (bytes_eq x w) y z ≡ Some a → IsBare x
word_bare w x y z = word_by w x (bytes_eq x w) y z refl

digits_bare : (x : List ℕ) (n : ℕ) → digits_in x ≡ Some n → IsBare x
unfolding digits_in
digits_bare x =
    bind_gives (λ n. IsBare x) (number_of x) (λ n. cond (nat_le n 99) (Some n) None) (λ m read n e. subst IsBare (number_shown m x read) (bare_numeral m))

-- the same behind a front
behind_digits : {A : Type 0} (f : List ℕ) (g : ℕ → A) → IsBare f → (r : List ℕ) (a : A) → option_map g (digits_in r) ≡ Some a → IsBare (f ++ r)
behind_digits f g plain r = map_gives (λ a. IsBare (f ++ r)) g (digits_in r) (λ n e. bare_both f r plain (digits_bare r n e))

number_bare : (x : List ℕ) (z : ℤ) → number_in x ≡ Some z → IsBare x
unfolding number_in
number_bare x =
    front_tells IsBare (codes "-") x _ _ (behind_digits (codes "-") negative refl)
    (front_tells IsBare (codes "+") x _ _ (behind_digits (codes "+") pos refl)
    (map_gives (λ z. IsBare x) pos (digits_in x) (digits_bare x)))

behind_number : {A : Type 0} (f : List ℕ) (g : ℤ → A) → IsBare f → (r : List ℕ) (a : A) → option_map g (number_in r) ≡ Some a → IsBare (f ++ r)
behind_number f g plain r = map_gives (λ a. IsBare (f ++ r)) g (number_in r) (λ z e. bare_both f r plain (number_bare r z e))

vote_bare : (x : List ℕ) (v : VoteValue) → vote_in x ≡ Some v → IsBare x
unfolding vote_in
vote_bare x =
    word_bare (codes "MAX") x _ _ refl
    (word_bare (codes "MIN") x _ _ refl
    (word_bare (codes "ANY") x _ _ refl
    (map_gives (λ v. IsBare x) value.Exactly (number_in x) (number_bare x))))

pub comparison_bare : (x : List ℕ) (c : Comparison) → comparison_in x ≡ Some c → IsBare x
unfolding comparison_in
comparison_bare x =
    front_tells IsBare (codes "=") x _ _ (λ r. map_gives (λ c. IsBare (codes "=" ++ r)) comparison.Is (vote_in r) (λ v e. bare_both (codes "=") r refl (vote_bare r v e)))
    (front_tells IsBare (codes ">=") x _ _ (behind_number (codes ">=") comparison.AtLeast refl)
    (front_tells IsBare (codes ">") x _ _ (behind_number (codes ">") comparison.Above refl)
    (front_tells IsBare (codes "<=") x _ _ (behind_number (codes "<=") comparison.AtMost refl)
    (front_tells IsBare (codes "<") x _ _ (behind_number (codes "<") comparison.Below refl)
    (front_tells IsBare (codes "+") x _ _ (behind_digits (codes "+") (λ n. equal_to (pos n)) refl)
    (front_tells IsBare (codes "-") x _ _ (behind_digits (codes "-") (λ n. equal_to (negative n)) refl)
    (none_gives (λ c. IsBare x))))))))

accounts_bare : (x : List ℕ) (n : ℕ) → accounts_in x ≡ Some n → IsBare x
unfolding accounts_in
accounts_bare x = bind_gives (λ n. IsBare x) (digits_in x) _ (λ m read n e. digits_bare x m read)

behind_accounts : (f : List ℕ) (g : ℕ → Count) → IsBare f → (r : List ℕ) (a : Count) → option_map g (accounts_in r) ≡ Some a → IsBare (f ++ r)
behind_accounts f g plain r = map_gives (λ a. IsBare (f ++ r)) g (accounts_in r) (λ n e. bare_both f r plain (accounts_bare r n e))

pub count_bare : (x : List ℕ) (c : Count) → count_in x ≡ Some c → IsBare x
unfolding count_in
count_bare x =
    front_tells IsBare (codes "count=") x _ _ (behind_accounts (codes "count=") count.Exactly refl)
    (front_tells IsBare (codes "count>=") x _ _ (behind_accounts (codes "count>=") count.AtLeast refl)
    (front_tells IsBare (codes "count>") x _ _ (behind_accounts (codes "count>") count.Above refl)
    (none_gives (λ c. IsBare x))))

account_bare : (x : List ℕ) (n : ℕ) → account_of x ≡ Some n → IsBare x
unfolding account_of
account_bare x =
    bind_gives (λ n. IsBare x) (number_of x) (λ n. cond (is_account_number n) (Some n) None) (λ m read n e. subst IsBare (number_shown m x read) (bare_numeral m))

user_bare : (x : List ℕ) (v : Voters) → user_in x ≡ Some v → IsBare x
unfolding user_in
user_bare x =
    word_bare (codes "non_uploader") x _ _ refl
    (word_bare (codes "owner") x _ _ refl
    (map_gives (λ v. IsBare x) voters.Account (account_of x) (account_bare x)))

bare_group : (b : Bool) (x g : List ℕ) → is_word x ≡ b → cond b (Some x) None ≡ Some g → IsBare x
bare_group true x g is e = bare_word x is
bare_group false x g is e = absurd (cc)

pub voters_bare : (x : List ℕ) (v : Voters) → voters_in x ≡ Some v → IsBare x
unfolding voters_in
voters_bare x =
    front_tells IsBare (codes "user=") x _ _ (λ r v e. bare_both (codes "user=") r refl (user_bare r v e))
    (front_tells IsBare (codes "group=") x _ _
    (λ r. map_gives (λ v. IsBare (codes "group=" ++ r)) voters.Group (group_in r) (λ g e. bare_both (codes "group=") r refl (bare_group (is_word r) r g refl e)))
    (none_gives (λ v. IsBare x)))

-- a text that is no count
abbrev IsNoCount : List ℕ → Type 0
IsNoCount x = count_in x ≡ None

no_user : (r : List ℕ) → IsNoCount (codes "user=" ++ r)
unfolding count_in behind
no_user r = refl

no_group : (r : List ℕ) → IsNoCount (codes "group=" ++ r)
unfolding count_in behind
no_group r = refl

pub no_count : (x : List ℕ) (v : Voters) → voters_in x ≡ Some v → count_in x ≡ None
unfolding voters_in
no_count x =
    front_tells IsNoCount (codes "user=") x _ _ (λ r v e. no_user r)
    (front_tells IsNoCount (codes "group=") x _ _ (λ r v e. no_group r)
    (none_gives (λ v. IsNoCount x)))

-- ==== the values of label words, written and read again

-- a byte that stands in no label's name
abbrev Stops : ℕ → Type 0
Stops b = (is_ascii_alphabetic b ≡ false) × ((is_ascii_alphanumeric b || b == 45) ≡ false)

goes_no_further : (letter : Bool) (s : List ℕ) (b : ℕ) (r : List ℕ) → Stops b → goes_on letter (s ++ b ∷ r) ≡ false
goes_no_further true [] b r h = ap (λ x. x && goes_on false r) h.0
goes_no_further false [] b r h = ap (λ x. x && goes_on (b == 45) r) h.1
goes_no_further true (c ∷ s) b r h = ap (λ x. is_ascii_alphabetic c && x) (goes_no_further false s b r h) ∙ and-false _
goes_no_further false (c ∷ s) b r h = ap (λ x. (is_ascii_alphanumeric c || c == 45) && x) (goes_no_further (c == 45) s b r h) ∙ and-false _

no_label : (s : List ℕ) → goes_on true s ≡ false → is_label s ≡ false
unfolding is_label
no_label s h = ap (λ x. nat_le (length s) 40 && x) h ∙ and-false _

pub label_length : (s : List ℕ) → is_label s ≡ true → (0 < length s) × (length s ≤ 40)
unfolding is_label
label_length [] h = let never : false ≡ true = (and_parts (nat_le 0 40) false h).1 in absurd (cc)
label_length (c ∷ s) h = (omega arith, let t = (and_parts (nat_le (length (c ∷ s)) 40) (goes_on true (c ∷ s)) h).0 in grind (arith, nat_tests, t))

longest_from : (k : ℕ) (s : List ℕ) (b : ℕ) (r : List ℕ) → is_label s ≡ true → Stops b → longest_label (length s + k) (s ++ b ∷ r) ≡ Some (s, b ∷ r)
longest_from zero s b r label stops =
    let text = s ++ b ∷ r in
    let long : length s ≤ length text = omega (arith, length-append s (b ∷ r)) in
    let sure = label_length s label in
    let none : length s + 0 ≡ length s = omega arith in
    ap (λ n. longest_label n text) none
    ∙ (taken_front (length s) text sure.0 long (ap is_label (take-append_seam s (b ∷ r)) ∙ label)
    ∙ (λ i. Some (take-append_seam s (b ∷ r) i, drop-append_seam s (b ∷ r) i)))
longest_from (suc k) s b r label stops =
    let text = s ++ b ∷ r in
    let front : take (length s + suc k) text ≡ s ++ b ∷ take k r = take-append-add s (b ∷ r) (suc k) in
    let less : length s + suc k - 1 ≡ length s + k = omega arith in
    passed_over (length s + suc k) text (omega arith) (ap is_label front ∙ no_label (s ++ b ∷ take k r) (goes_no_further true s b (take k r) stops))
    ∙ (ap (λ n. longest_label n text) less ∙ longest_from k s b r label stops)

longest_again : (s : List ℕ) (b : ℕ) (r : List ℕ) → is_label s ≡ true → Stops b → longest_label 40 (s ++ b ∷ r) ≡ Some (s, b ∷ r)
longest_again s b r label stops =
    let most = (label_length s label).1 in
    let all : 40 ≡ length s + (40 - length s) = omega arith in
    ap (λ n. longest_label n (s ++ b ∷ r)) all ∙ longest_from (40 - length s) s b r label stops

-- a label before a comparison
named_front : (s : List ℕ) (c : Comparison) (r : List ℕ) → is_label s ≡ true → longest_label 40 (s ++ (comparison_text c ++ r)) ≡ Some (s, comparison_text c ++ r)
named_front s (comparison.Is asked) r label = longest_again s 61 _ label (refl, refl)
named_front s (comparison.AtMost z) r label = longest_again s 60 _ label (refl, refl)
named_front s (comparison.Below z) r label = longest_again s 60 _ label (refl, refl)
named_front s _ r label = longest_again s 62 _ label (refl, refl)

bare_goes : (letter : Bool) (s : List ℕ) → goes_on letter s ≡ true → bare s ≡ true
bare_goes letter [] h = refl
bare_goes true (c ∷ s) h =
    let p = and_parts (is_ascii_alphabetic c) (goes_on false s) h in
    let q = p.0 in
    let t : (not (c == 34) && not (c == 44)) ≡ true = grind (arith, nat_tests, q) in
    (λ i. t i && bare_goes false s p.1 i)
bare_goes false (c ∷ s) h =
    let p = and_parts (is_ascii_alphanumeric c || c == 45) (goes_on (c == 45) s) h in
    let q = p.0 in
    let t : (not (c == 34) && not (c == 44)) ≡ true = grind (arith, nat_tests, q) in
    (λ i. t i && bare_goes (c == 45) s p.1 i)

-- the parts of a label term are of their forms
abbrev pub IsOfForm : LabelTerm → Type 0
IsOfForm t = (is_label t.label ≡ true) × IsSmallComparison t.comparison × IsNamed t.voters × IsAskedIfAny t.count

pub label_lacks : (t : LabelTerm) → IsOfForm t → lacks 34 (label_text t) ≡ true
unfolding label_text
label_lacks t h =
    lacks_both 34 t.label _ (bare_quote t.label (bare_goes true t.label (label_goes t.label h.0)))
    (lacks_both 34 (comparison_text t.comparison) _ (bare_quote (comparison_text t.comparison) (bare_comparison t.comparison))
    (lacks_both 34 (voters_text t.voters) _ (voters_lack t.voters h.2) (count_lacks t.count)))

abbrev pub with_parts : List ℕ → Comparison → Voters × Option Count → Option LabelTerm
with_parts label asked parts = Some (record { label = label; comparison = asked; voters = parts.0; count = parts.1 })

abbrev pub with_asked : List ℕ → List ℕ → Comparison → Option LabelTerm
with_asked label rest asked = parts_in (behind_comma (cut_at 44 rest)) >>= with_parts label asked

abbrev pub with_label : List ℕ × List ℕ → Option LabelTerm
with_label halves = comparison_in (comparison_part (cut_at 44 halves.1) halves.1) >>= with_asked halves.0 halves.1

pub label_again : (t : LabelTerm) → IsOfForm t → label_in (label_text t) ≡ Some t
unfolding label_in label_text
label_again t h =
    let asked = comparison_text t.comparison in
    let end = tail_of t.voters t.count h.2 h.3 in
    let cut = cut_tail asked end.parts (bare_comparison t.comparison) in
    let rest = asked ++ (voters_text t.voters ++ count_text t.count) in
    let whole : rest ≡ asked ++ tail end.parts = ap (λ x. asked ++ x) end.text in
    ap (λ o. o >>= with_label) (named_front t.label t.comparison (voters_text t.voters ++ count_text t.count) h.0)
    ∙ (ap (λ x. with_label (t.label, x)) whole
    ∙ (ap (λ x. comparison_in x >>= with_asked t.label (asked ++ tail end.parts)) cut.0
    ∙ (ap (λ o. o >>= with_asked t.label (asked ++ tail end.parts)) (comparison_again t.comparison h.1)
    ∙ (ap (λ o. parts_in o >>= with_parts t.label t.comparison) cut.1
    ∙ ap (λ o. o >>= with_parts t.label t.comparison) end.gives))))

label_front_by : (b : Bool) (front rest : List ℕ) (o : Option (List ℕ × List ℕ)) → (b ≡ true → is_label front ≡ true) → ((halves : List ℕ × List ℕ) → o ≡ Some halves → is_label halves.0 ≡ true)
    → (halves : List ℕ × List ℕ) → cond b (Some (front, rest)) o ≡ Some halves → is_label halves.0 ≡ true
label_front_by true front rest o here below halves e = subst (λ x. is_label x ≡ true) (ap (λ (h : List ℕ × List ℕ). h.0) (same_Some (front, rest) halves e)) (here refl)
label_front_by false front rest o here below halves e = below halves e

front_label : (n : ℕ) (x : List ℕ) (halves : List ℕ × List ℕ) → longest_label n x ≡ Some halves → is_label halves.0 ≡ true
unfolding longest_label
front_label zero x halves e = none_gives (λ h. is_label h.0 ≡ true) halves e
front_label (suc n) x halves e =
    label_front_by (nat_le (suc n) (length x) && is_label (take (suc n) x)) (take (suc n) x) (drop (suc n) x) (longest_label n x)
    (λ t. (and_parts (nat_le (suc n) (length x)) (is_label (take (suc n) x)) t).1) (front_label n x) halves e

pub label_of_form : (x : List ℕ) (t : LabelTerm) → label_in x ≡ Some t → IsOfForm t
unfolding label_in
label_of_form x =
    bind_gives IsOfForm (longest_label 40 x) with_label (λ halves front.
    bind_gives IsOfForm (comparison_in (comparison_part (cut_at 44 halves.1) halves.1)) (with_asked halves.0 halves.1) (λ asked small.
    bind_gives IsOfForm (parts_in (behind_comma (cut_at 44 halves.1))) (with_parts halves.0 asked) (λ parts read t e.
    let good = good_parts _ parts read in
    let same : record { label = halves.0; comparison = asked; voters = parts.0; count = parts.1 } ≡ t = cc in
    subst IsOfForm same (front_label 40 x halves front, small_comparison _ asked small, good.0, good.1))))
