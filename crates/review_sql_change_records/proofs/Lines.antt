-- The lines of a text, the first one taken off.
use Rattle.std.proofs.Common.{◌≡◌, ℕ, suc, ◌+◌, ◌<◌, ◌==◌, ◌&&◌, Bool, true, false, not, List, [], ◌∷◌, length, take, drop, refl, sym, ap, ap₂, ◌∙◌, arith, cond, ◌++◌, None}
use Rattle.std.proofs.lemmas.List.{append_assoc, Folds.list_all-append}
use Rattle.std.specs.List.{list_all, position_or_len, before_first, after_first}
use Rattle.review_names.specs.Forms.{is_path, with_front}
use Rattle.review_sql_change_records.specs.Forms.{lines, paths_in, set_in}

abbrev pub is_feed : ℕ → Bool
is_feed b = b == 10

abbrev pub first : List ℕ → ℕ
first s = position_or_len is_feed s

split_by : (b : Bool) (c : ℕ) (cs : List ℕ) → is_feed c ≡ b → (first cs < length cs → lines cs ≡ before_first is_feed cs ∷ lines (after_first is_feed cs))
    → first (c ∷ cs) < length (c ∷ cs) → lines (c ∷ cs) ≡ before_first is_feed (c ∷ cs) ∷ lines (after_first is_feed (c ∷ cs))
split_by true c cs e below h = rw e refl
split_by false c cs e below h =
    let within : cond (not (is_feed c)) (1 + first cs) 0 < suc (length cs) = h in
    let inside : 1 + first cs < suc (length cs) = rw e at within in
    let one : 1 + first cs ≡ suc (first cs) = omega arith in
    let two : 1 + first cs + 1 ≡ suc (first cs + 1) = omega arith in
    let left : cond (is_feed c) ([] ∷ lines cs) (with_front c (lines cs)) ≡ with_front c (lines cs) = rw e refl in
    let before : before_first is_feed (c ∷ cs) ≡ c ∷ before_first is_feed cs = rw e (ap (λ n. take n (c ∷ cs)) one) in
    let after : after_first is_feed (c ∷ cs) ≡ after_first is_feed cs = rw e (ap (λ n. drop n (c ∷ cs)) two) in
    left ∙ ap (with_front c) (below (omega arith)) ∙ ap₂ (λ xs ys. xs ∷ lines ys) (sym before) (sym after)

pub lines_split : (s : List ℕ) → first s < length s → lines s ≡ before_first is_feed s ∷ lines (after_first is_feed s)
lines_split [] h = absurd (omega arith)
lines_split (c ∷ cs) h = split_by (is_feed c) c cs refl (lines_split cs) h

whole_by : (b : Bool) (c : ℕ) (cs : List ℕ) → is_feed c ≡ b → (first cs ≡ length cs → lines cs ≡ cs ∷ [])
    → first (c ∷ cs) ≡ length (c ∷ cs) → lines (c ∷ cs) ≡ (c ∷ cs) ∷ []
whole_by true c cs e below h =
    let none : 0 ≡ suc (length cs) = rw e at h in absurd (omega arith)
whole_by false c cs e below h =
    let same : 1 + first cs ≡ suc (length cs) = rw e at h in
    rw e (ap (with_front c) (below (omega arith)))

pub lines_whole : (s : List ℕ) → first s ≡ length s → lines s ≡ s ∷ []
lines_whole [] h = refl
lines_whole (c ∷ cs) h = whole_by (is_feed c) c cs refl (lines_whole cs) h

-- a text before and after its first line feed
abbrev pub Splits : List ℕ → List ℕ → List ℕ → Type 0
Splits s front rest = (front ≡ before_first is_feed s) × (rest ≡ after_first is_feed s) × (first s < length s)

-- the lines so far are paths, and with those of the rest they are all
pub record AreLinesSoFar (text : List ℕ) (paths : List (List ℕ)) (rest : List ℕ) : Type 0 where
  pub all : lines text ≡ paths ++ lines rest
  pub good : list_all is_path paths ≡ true

pub one_more : (text rest line more : List ℕ) (old new : List (List ℕ)) → AreLinesSoFar text old rest → Splits rest line more → is_path line ≡ true → new ≡ old ++ line ∷ [] → AreLinesSoFar text new more
one_more text rest line more old new so split good is = record {
  all = so.all ∙ (ap (λ l. old ++ l) (lines_split rest split.2 ∙ ap₂ (λ xs ys. xs ∷ lines ys) (sym split.0) (sym split.1)) ∙ (sym (append_assoc old (line ∷ []) (lines more)) ∙ ap (λ l. l ++ lines more) (sym is)));
  good = ap (list_all is_path) is ∙ (list_all-append is_path old (line ∷ []) ∙ (λ i. so.good i && (good i && true)));
}

none_of : (text : List ℕ) → list_all is_path (lines text) ≡ false → (text ≡ [] → ⊥) → None ≡ paths_in text
none_of [] bad some = absurd (some refl)
none_of (c ∷ cs) bad some = rw bad refl

all_of : (text : List ℕ) → list_all is_path (lines text) ≡ true → (text ≡ [] → ⊥) → set_in (lines text) ≡ paths_in text
all_of [] good some = absurd (some refl)
all_of (c ∷ cs) good some = rw good refl

pub refused : (text rest line more : List ℕ) (paths : List (List ℕ)) → AreLinesSoFar text paths rest → Splits rest line more → is_path line ≡ false → (text ≡ [] → ⊥) → None ≡ paths_in text
refused text rest line more paths so split bad some =
    none_of text (ap (list_all is_path) (so.all ∙ ap (λ l. paths ++ l) (lines_split rest split.2 ∙ ap₂ (λ xs ys. xs ∷ lines ys) (sym split.0) (sym split.1)))
    ∙ (list_all-append is_path paths (line ∷ lines more) ∙ (λ i. so.good i && (bad i && list_all is_path (lines more))))) some

pub last_refused : (text rest : List ℕ) (paths : List (List ℕ)) → AreLinesSoFar text paths rest → first rest ≡ length rest → is_path rest ≡ false → (text ≡ [] → ⊥) → None ≡ paths_in text
last_refused text rest paths so whole bad some =
    none_of text (ap (list_all is_path) (so.all ∙ ap (λ l. paths ++ l) (lines_whole rest whole)) ∙ (list_all-append is_path paths (rest ∷ []) ∙ (λ i. so.good i && (bad i && true)))) some

pub all_read : (text rest : List ℕ) (old new : List (List ℕ)) → AreLinesSoFar text old rest → first rest ≡ length rest → is_path rest ≡ true → new ≡ old ++ rest ∷ [] → (text ≡ [] → ⊥) → set_in new ≡ paths_in text
all_read text rest old new so whole good is some =
    let all : lines text ≡ new = so.all ∙ (ap (λ l. old ++ l) (lines_whole rest whole) ∙ sym is) in
    ap set_in (sym all) ∙ all_of text (ap (list_all is_path) (all ∙ is) ∙ (list_all-append is_path old (rest ∷ []) ∙ (λ i. so.good i && (good i && true)))) some

pub nonempty : (t : List ℕ) (b : Bool) → b ≡ (length t == 0) → b ≡ false → t ≡ [] → ⊥
nonempty t b is no_text none = absurd (let e = ap (λ l. length l == 0) none in let f = sym no_text ∙ (is ∙ e) in cc)
