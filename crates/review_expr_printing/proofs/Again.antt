-- What is printed is read again.
use mathlib.Core.Logic.{∥∥₁_map}
use Rattle.std.proofs.Common.{◌≡◌, ◌≢◌, ℕ, suc, ◌+◌, Bool, true, false, ◌&&◌, List, [], ◌∷◌, ◌++◌, length, codes, Some, IsTrue, refl, sym, ap, ap₂, ◌∙◌, subst, arith, append_assoc, length-append, append-nil, ◌==◌, Option, None, if◌then◌else◌, bytes_eq, String, Global, string_bytes, Result, Ok, Err, IfOk, ◌≤◌, ◌<◌, lit<}
use Rattle.std.proofs.lemmas.{Bool.and_parts, Bool.Decides.nat_tests, Option.same_Some}
use Rattle.std.specs.Char.{is_ascii_lowercase}
use Rattle.review_expr_terms.specs.Grammar.{Tok, NotWord, AndWord, OrWord, Join, And, Or, Tree, Term, Neg, All, Any, Trees, End, With, between, spelled, all_spelled, Word as Token, Open as Opens, Close as Closes, Unary, Members, Leaf, Group, Not, One, Next, trees, listed, has_or, tree_of, trees_of, tree, all_depth}
use Rattle.review_expr_terms.specs.Lexemes.{Lexeme, Word, Open, Close, IsCut, balanced, ends, runs, Word as AWord}
use Rattle.review_expr_terms.specs.Words.{Reading, Good, Bad, NoTerm}
use Rattle.review_expr.specs.Expressions.{HasExpr, IsExpression}
use Rattle.review_expr.specs.Tokens.{word_tokens, tokens, joined, opens_at, operator_by, operator_or, term_token, meaning, alone, behind_minus, lone_minus, after_minus, unsigned, is_signed, lexeme_tokens, tokens_before}
use Rattle.review_expr_printing.proofs.Levels.{level_depth, tree_full, level_tree, level_mixed, member, joined as members, level, is_full, are_full}
use Rattle.review_expr_printing.specs.{Printed.member_text, Printed.joined_text, Printed.printed, Written.IsOneWord}

-- ==== what is written piece by piece is cut and read piece by piece

-- a text that is cut, with its tokens, and whose parentheses match where those of what follows do
pub record Carried {A : Type 0} (reading : List ℕ → Reading A) (at : ℕ) (later : List Lexeme) (text : List ℕ) (ts : List (Tok A)) : Type 0 where
  pub ls : List Lexeme
  pub cut : IsCut at ls text
  pub matched : (n : ℕ) → balanced n ls ≡ balanced n later
  pub read : tokens reading ls ≡ Some ts

-- the bytes have the tokens wherever they stand before what no word can begin with
abbrev pub Carries : {A : Type 0} → (List ℕ → Reading A) → List ℕ → List (Tok A) → Type 0
Carries {A = A} reading seg ts = (at : ℕ) (ks : List Lexeme) (rest : List ℕ) (us : List (Tok A)) → IsTrue (ends rest) → IsCut (at + length seg) ks rest →
    tokens reading ks ≡ Some us → Carried reading at ks (seg ++ rest) (ts ++ us)

-- a space in front
blank_on : (at : ℕ) (ls : List Lexeme) (cs : List ℕ) → IsCut (at + 1) ls cs → IsCut at ls (32 ∷ cs)
blank_on at [] cs h = h
blank_on at (Open place ∷ ls) cs h = (32 ∷ h.0, h.1, h.2, ap (λ xs. 32 ∷ xs) h.3, h.4 ∙ omega arith, h.5)
blank_on at (Close ∷ ls) cs h = (32 ∷ h.0, h.1, h.2, ap (λ xs. 32 ∷ xs) h.3, subst (λ n. IsCut n ls h.1) (omega arith) h.4)
blank_on at (Word place w ∷ ls) cs h = (32 ∷ h.0, h.1, h.2, h.3, h.4, h.5, h.6, h.7, h.8 ∙ omega arith, ap (λ xs. 32 ∷ xs) h.9, h.10)

-- a word with its tokens, whatever stands behind it
pub record IsWordOf {A : Type 0} (reading : List ℕ → Reading A) (w : List ℕ) (ts : List (Tok A)) : Type 0 where
  pub one : IsTrue (runs false w)
  pub some : length w ≢ 0
  pub good : (opens : Bool) → word_tokens reading opens w ≡ Good ts

word_carried : {A : Type 0} → (reading : List ℕ → Reading A) (w : List ℕ) (ts : List (Tok A)) → IsWordOf reading w ts → Carries reading w ts
word_carried reading [] ts h = absurd (h.some refl)
word_carried reading (c ∷ cs) ts h = λ at ks rest us e cut read. record {
  ls = Word at (c ∷ cs) ∷ ks;
  cut = ([], c, cs, rest, refl, refl, h.one, e, omega arith, refl, cut);
  matched = λ n. refl;
  read = ap₂ joined (h.good (opens_at (at + 1) (ks ++ []))) read;
}

not_word : {A : Type 0} → (reading : List ℕ → Reading A) → IsWordOf reading (codes "NOT") (NotWord ∷ [])
not_word reading = record { one = refl; some = λ e. omega arith; good = λ opens. refl }

and_word : {A : Type 0} → (reading : List ℕ → Reading A) → IsWordOf reading (codes "AND") (AndWord ∷ [])
and_word reading = record { one = refl; some = λ e. omega arith; good = λ opens. refl }

or_word : {A : Type 0} → (reading : List ℕ → Reading A) → IsWordOf reading (codes "OR") (OrWord ∷ [])
or_word reading = record { one = refl; some = λ e. omega arith; good = λ opens. refl }

not_carried : {A : Type 0} → (reading : List ℕ → Reading A) (seg : List ℕ) (ts : List (Tok A)) → Carries reading seg ts → Carries reading (codes "NOT " ++ seg) (NotWord ∷ ts)
not_carried reading seg ts h = λ at ks rest us e cut read.
    let inner = h (at + 4) ks rest us e (subst (λ n. IsCut n ks rest) (omega (arith, length-append (codes "NOT ") seg)) cut) read in
    let word = word_carried reading (codes "NOT") (NotWord ∷ []) (not_word reading) at inner.ls (32 ∷ (seg ++ rest)) (ts ++ us) refl
    (blank_on (at + 3) inner.ls (seg ++ rest) (subst (λ n. IsCut n inner.ls (seg ++ rest)) (omega arith) inner.cut)) inner.read in
    record { ls = word.ls; cut = word.cut; matched = λ n. word.matched n ∙ inner.matched n; read = word.read }

group_carried : {A : Type 0} → (reading : List ℕ → Reading A) (seg : List ℕ) (ts : List (Tok A)) → Carries reading seg ts →
    Carries reading (codes "(" ++ (seg ++ codes ")")) (Opens ∷ (ts ++ Closes ∷ []))
group_carried reading seg ts h = λ at ks rest us e cut read.
    let close : IsCut ((at + 1) + length seg) (Close ∷ ks) (41 ∷ rest) =
    ([], rest, refl, refl, subst (λ n. IsCut n ks rest) (omega (arith, length-append (codes "(") (seg ++ codes ")"), length-append seg (codes ")"))) cut) in
    let inner = h (at + 1) (Close ∷ ks) (41 ∷ rest) (Closes ∷ us) refl close (ap (joined (Good (Closes ∷ []))) read) in
    record {
      ls = Open at ∷ inner.ls;
      cut = ([], seg ++ 41 ∷ rest, refl, ap (λ xs. 40 ∷ xs) (append_assoc seg (41 ∷ []) rest), omega arith, inner.cut);
      matched = λ n. inner.matched (suc n);
      read = ap (joined (Good (Opens ∷ []))) inner.read ∙ ap (λ xs. Some (Opens ∷ xs)) (sym (append_assoc ts (Closes ∷ []) us));
    }

joint_carried : {A : Type 0} → (reading : List ℕ → Reading A) (w : List ℕ) (o : Tok A) → IsWordOf reading w (o ∷ []) →
    (seg more : List ℕ) (ts vs : List (Tok A)) → Carries reading seg ts → Carries reading more vs → Carries reading (seg ++ ((32 ∷ (w ++ 32 ∷ [])) ++ more)) (ts ++ o ∷ vs)
joint_carried reading w o is seg more ts vs h k = λ at ks rest us e cut read.
    let place = at + length seg + 1 in
    let last = k (place + length w + 1) ks rest us e
    (subst (λ n. IsCut n ks rest) (omega (arith, length-append seg ((32 ∷ (w ++ 32 ∷ [])) ++ more), length-append (32 ∷ (w ++ 32 ∷ [])) more, length-append w (32 ∷ []))) cut) read in
    let word = word_carried reading w (o ∷ []) is place last.ls (32 ∷ (more ++ rest)) (vs ++ us) refl (blank_on (place + length w) last.ls (more ++ rest) last.cut) last.read in
    let front = h at word.ls (32 ∷ (w ++ 32 ∷ (more ++ rest))) (o ∷ (vs ++ us)) refl (blank_on (at + length seg) word.ls (w ++ 32 ∷ (more ++ rest)) word.cut) word.read in
    let bytes : seg ++ 32 ∷ (w ++ 32 ∷ (more ++ rest)) ≡ (seg ++ ((32 ∷ (w ++ 32 ∷ [])) ++ more)) ++ rest =
    ap (λ xs. seg ++ 32 ∷ xs) (ap (λ xs. w ++ xs) refl ∙ sym (append_assoc w (32 ∷ []) (more ++ rest)) ∙ sym (append_assoc (w ++ 32 ∷ []) more rest)) ∙ sym (append_assoc seg ((32 ∷ (w ++ 32 ∷ [])) ++ more) rest) in
    record {
      ls = front.ls;
      cut = subst (λ xs. IsCut at front.ls xs) bytes front.cut;
      matched = λ n. front.matched n ∙ word.matched n ∙ last.matched n;
      read = front.read ∙ ap Some (sym (append_assoc ts (o ∷ vs) us));
    }

-- a fact of each term
abbrev mutual
  pub AllTerms : {A : Type 0} → (A → Type 0) → Tree A → Type 0
  AllTerms P (Term a) = P a
  AllTerms P (Neg t) = AllTerms P t
  AllTerms P (All ts) = EachTerms P ts
  AllTerms P (Any ts) = EachTerms P ts

  pub EachTerms : {A : Type 0} → (A → Type 0) → Trees A → Type 0
  EachTerms P End = Unit {0}
  EachTerms P (With t ts) = AllTerms P t × EachTerms P ts

-- a sign between members, by its word and its token
pub record IsSign {A : Type 0} (reading : List ℕ → Reading A) (j : Join) (w : List ℕ) (o : Tok A) : Type 0 where
  pub is : IsWordOf reading w (o ∷ [])
  pub between_is : between j ≡ o ∷ []

abbrev pub IsSpelled : {A : Type 0} → (List ℕ → Reading A) → (A → List ℕ) → A → Type 0
IsSpelled reading word a = IsWordOf reading (word a) (Token a ∷ [])

mutual
  member_carried : {A : Type 0} → (reading : List ℕ → Reading A) (word : A → List ℕ) (d : A) (t : Tree A) → is_full t ≡ true → AllTerms (IsSpelled reading word) t →
      Carries reading (member_text word t) (spelled (member d t))
  member_carried reading word d (Term a) f g = word_carried reading (word a) (Token a ∷ []) g
  member_carried reading word d (Neg t) f g = not_carried reading (member_text word t) (spelled (member d t)) (member_carried reading word d t f g)
  member_carried reading word d (All End) f g = cc
  member_carried reading word d (All (With t ts)) f g =
      group_carried reading (joined_text word (codes " AND ") (With t ts)) (all_spelled (members d And (With t ts)))
      (joined_carried reading word d And (codes "AND") AndWord (record { is = and_word reading; between_is = refl }) t ts (member_carried reading word d t (and_parts _ _ (and_parts _ _ f).1).0 g.0) (and_parts _ _ (and_parts _ _ f).1).1 g.1)
  member_carried reading word d (Any End) f g = cc
  member_carried reading word d (Any (With t ts)) f g =
      group_carried reading (joined_text word (codes " OR ") (With t ts)) (all_spelled (members d Or (With t ts)))
      (joined_carried reading word d Or (codes "OR") OrWord (record { is = or_word reading; between_is = refl }) t ts (member_carried reading word d t (and_parts _ _ (and_parts _ _ f).1).0 g.0) (and_parts _ _ (and_parts _ _ f).1).1 g.1)

  joined_carried : {A : Type 0} → (reading : List ℕ → Reading A) (word : A → List ℕ) (d : A) (j : Join) (w : List ℕ) (o : Tok A) → IsSign reading j w o → (t : Tree A) (ts : Trees A) →
      Carries reading (member_text word t) (spelled (member d t)) → are_full ts ≡ true → EachTerms (IsSpelled reading word) ts →
      Carries reading (joined_text word (32 ∷ (w ++ 32 ∷ [])) (With t ts)) (all_spelled (members d j (With t ts)))
  joined_carried reading word d j w o s t End h f g = subst (λ xs. Carries reading xs (spelled (member d t))) (sym (append-nil (member_text word t))) h
  joined_carried reading word d j w o s t (With u us) h f g =
      subst (λ xs. Carries reading (joined_text word (32 ∷ (w ++ 32 ∷ [])) (With t (With u us))) (spelled (member d t) ++ (xs ++ all_spelled (members d j (With u us))))) (sym s.between_is)
      (joint_carried reading w o s.is (member_text word t) (joined_text word (32 ∷ (w ++ 32 ∷ [])) (With u us)) (spelled (member d t)) (all_spelled (members d j (With u us))) h
      (joined_carried reading word d j w o s u us (member_carried reading word d u (and_parts _ _ f).0 g.0) (and_parts _ _ f).1 g.1))

pub printed_carried : {A : Type 0} → (reading : List ℕ → Reading A) (word : A → List ℕ) (d : A) (t : Tree A) → is_full t ≡ true → AllTerms (IsSpelled reading word) t →
    Carries reading (printed word t) (all_spelled (level d t))
printed_carried reading word d (Term a) f g = member_carried reading word d (Term a) f g
printed_carried reading word d (Neg t) f g = member_carried reading word d (Neg t) f g
printed_carried reading word d (All (With t ts)) f g =
    joined_carried reading word d And (codes "AND") AndWord (record { is = and_word reading; between_is = refl }) t ts (member_carried reading word d t (and_parts _ _ (and_parts _ _ f).1).0 g.0) (and_parts _ _ (and_parts _ _ f).1).1 g.1
printed_carried reading word d (Any (With t ts)) f g =
    joined_carried reading word d Or (codes "OR") OrWord (record { is = or_word reading; between_is = refl }) t ts (member_carried reading word d t (and_parts _ _ (and_parts _ _ f).1).0 g.0) (and_parts _ _ (and_parts _ _ f).1).1 g.1
printed_carried reading word d _ f g = cc

-- ==== each term of a tree that a text has is spelled by a word of the text

abbrev pub AtToken : {A : Type 0} → (A → Type 0) → Tok A → Type 0
AtToken P (Token a) = P a
AtToken P t = Unit {0}

abbrev pub AllWords : {A : Type 0} → (A → Type 0) → List (Tok A) → Type 0
AllWords P [] = Unit {0}
AllWords P (t ∷ ts) = AtToken P t × AllWords P ts

left : {A : Type 0} → (P : A → Type 0) (xs ys : List (Tok A)) → AllWords P (xs ++ ys) → AllWords P xs
left P [] ys h = tt
left P (t ∷ ts) ys h = (h.0, left P ts ys h.1)

right : {A : Type 0} → (P : A → Type 0) (xs ys : List (Tok A)) → AllWords P (xs ++ ys) → AllWords P ys
right P [] ys h = h
right P (t ∷ ts) ys h = right P ts ys h.1

together : {A : Type 0} → (P : A → Type 0) (xs ys : List (Tok A)) → AllWords P xs → AllWords P ys → AllWords P (xs ++ ys)
together P [] ys h g = g
together P (t ∷ ts) ys h g = (h.0, together P ts ys h.1 g)

listed_terms : {A : Type 0} → (P : A → Type 0) (or : Bool) (ts : List (Tree A)) → EachTerms P (trees ts) → AllTerms P (listed or ts)
listed_terms P or (t ∷ []) h = h.0
listed_terms P true _ h = h
listed_terms P false _ h = h

mutual
  unary_terms : {A : Type 0} → (P : A → Type 0) (u : Unary A) → AllWords P (spelled u) → AllTerms P (tree_of u)
  unary_terms P (Leaf true a) h = h.1.0
  unary_terms P (Leaf false a) h = h.0
  unary_terms P (Group true ms) h = listed_terms P (has_or ms) (trees_of ms) (members_terms P ms (left P (all_spelled ms) (Closes ∷ []) h.1.1))
  unary_terms P (Group false ms) h = listed_terms P (has_or ms) (trees_of ms) (members_terms P ms (left P (all_spelled ms) (Closes ∷ []) h.1))
  unary_terms P (Not u) h = unary_terms P u h.1

  members_terms : {A : Type 0} → (P : A → Type 0) (ms : Members A) → AllWords P (all_spelled ms) → EachTerms P (trees (trees_of ms))
  members_terms P (One u) h = (unary_terms P u h, tt)
  members_terms P (Next u j ms) h =
      (unary_terms P u (left P (spelled u) (between j ++ all_spelled ms) h), members_terms P ms (right P (between j) (all_spelled ms) (right P (spelled u) (between j ++ all_spelled ms) h)))

pub tree_terms : {A : Type 0} → (P : A → Type 0) (ms : Members A) → AllWords P (all_spelled ms) → AllTerms P (tree ms)
tree_terms P ms h = listed_terms P (has_or ms) (trees_of ms) (members_terms P ms h)

-- some word is read as the term
abbrev pub IsRead : {A : Type 0} → (List ℕ → Reading A) → A → Type 0
IsRead reading a = (w : List ℕ) × (reading w ≡ Good a)

abbrev GoodToken : {A : Type 0} → (A → Type 0) → Reading (Tok A) → Type 0
GoodToken P (Good t) = AtToken P t
GoodToken P (Bad flaw) = Unit {0}

abbrev GoodTokens : {A : Type 0} → (A → Type 0) → Reading (List (Tok A)) → Type 0
GoodTokens P (Good ts) = AllWords P ts
GoodTokens P (Bad flaw) = Unit {0}

abbrev SomeTokens : {A : Type 0} → (A → Type 0) → Option (List (Tok A)) → Type 0
SomeTokens P (Some ts) = AllWords P ts
SomeTokens P None = Unit {0}

term_read : {A : Type 0} → (reading : List ℕ → Reading A) (w : List ℕ) (r : Reading A) → reading w ≡ r → GoodToken (IsRead reading) (term_token r)
term_read reading w (Good a) e = (w, e)
term_read reading w (Bad flaw) e = tt

operator_read : {A : Type 0} → (reading : List ℕ → Reading A) (w : List ℕ) (is_and is_or is_not : Bool) → GoodToken (IsRead reading) (operator_or (operator_by is_and is_or is_not) (reading w))
operator_read reading w true is_or is_not = tt
operator_read reading w false true is_not = tt
operator_read reading w false false true = tt
operator_read reading w false false false = term_read reading w (reading w) refl

meaning_read : {A : Type 0} → (reading : List ℕ → Reading A) (w : List ℕ) → GoodToken (IsRead reading) (meaning reading w)
meaning_read reading w = operator_read reading w (bytes_eq w (codes "AND")) (bytes_eq w (codes "OR")) (bytes_eq w (codes "NOT"))

alone_read : {A : Type 0} → (P : A → Type 0) (r : Reading (Tok A)) → GoodToken P r → GoodTokens P (alone r)
alone_read P (Good t) h = (h, tt)
alone_read P (Bad flaw) h = tt

behind_read : {A : Type 0} → (P : A → Type 0) (r : Reading (Tok A)) → GoodToken P r → GoodTokens P (behind_minus r)
behind_read P (Good t) h = (tt, (h, tt))
behind_read P (Bad flaw) h = tt

lone_read : {A : Type 0} → (P : A → Type 0) (opens : Bool) → GoodTokens P (lone_minus opens)
lone_read P true = (tt, tt)
lone_read P false = tt

second_read : {A : Type 0} → (P : A → Type 0) (b : Bool) (r : Reading (Tok A)) → GoodToken P r → GoodTokens P (if b then Bad NoTerm else behind_minus r)
second_read P true r h = tt
second_read P false r h = behind_read P r h

after_read : {A : Type 0} → (reading : List ℕ → Reading A) (opens : Bool) (w : List ℕ) → GoodTokens (IsRead reading) (after_minus reading opens w)
after_read reading opens [] = lone_read (IsRead reading) opens
after_read reading opens (c ∷ cs) = second_read (IsRead reading) (c == 45) (meaning reading (c ∷ cs)) (meaning_read reading (c ∷ cs))

word_read_by : {A : Type 0} → (reading : List ℕ → Reading A) (opens b : Bool) (v w : List ℕ) → GoodTokens (IsRead reading) (if b then after_minus reading opens v else alone (meaning reading w))
word_read_by reading opens true v w = after_read reading opens v
word_read_by reading opens false v w = alone_read (IsRead reading) (meaning reading w) (meaning_read reading w)

lexeme_read : {A : Type 0} → (reading : List ℕ → Reading A) (l : Lexeme) (after : List Lexeme) → GoodTokens (IsRead reading) (lexeme_tokens reading l after)
lexeme_read reading (AWord place w) after = word_read_by reading (opens_at (place + 1) after) (is_signed w) (unsigned w) w
lexeme_read reading _ after = (tt, tt)

joined_read : {A : Type 0} → (P : A → Type 0) (x : Reading (List (Tok A))) (r : Option (List (Tok A))) → GoodTokens P x → SomeTokens P r → SomeTokens P (joined x r)
joined_read P (Good ts) (Some us) h g = together P ts us h g
joined_read P (Good ts) None h g = tt
joined_read P (Bad flaw) r h g = tt

before_read : {A : Type 0} → (reading : List ℕ → Reading A) (ls after : List Lexeme) → SomeTokens (IsRead reading) (tokens_before reading ls after)
before_read reading [] after = tt
before_read reading (l ∷ ls) after =
    joined_read (IsRead reading) (lexeme_tokens reading l (ls ++ after)) (tokens_before reading ls after) (lexeme_read reading l (ls ++ after)) (before_read reading ls after)

pub tokens_read : {A : Type 0} → (reading : List ℕ → Reading A) (ls after : List Lexeme) (ts : List (Tok A)) → tokens_before reading ls after ≡ Some ts → AllWords (IsRead reading) ts
tokens_read reading ls after ts e = subst (SomeTokens (IsRead reading)) e (before_read reading ls after)

-- ==== what is printed has the tree again

-- a tree of the grammar has a term
mutual
  unary_leaf : {A : Type 0} → Unary A → A
  unary_leaf (Leaf negated a) = a
  unary_leaf (Group negated ms) = members_leaf ms
  unary_leaf (Not u) = unary_leaf u

  members_leaf : {A : Type 0} → Members A → A
  members_leaf (One u) = unary_leaf u
  members_leaf (Next u j ms) = unary_leaf u

mutual
  all_along : {A : Type 0} → (P Q : A → Type 0) → ((a : A) → P a → Q a) → (t : Tree A) → AllTerms P t → AllTerms Q t
  all_along P Q f (Term a) h = f a h
  all_along P Q f (Neg t) h = all_along P Q f t h
  all_along P Q f (All ts) h = each_along P Q f ts h
  all_along P Q f (Any ts) h = each_along P Q f ts h

  each_along : {A : Type 0} → (P Q : A → Type 0) → ((a : A) → P a → Q a) → (ts : Trees A) → EachTerms P ts → EachTerms Q ts
  each_along P Q f End h = tt
  each_along P Q f (With t ts) h = (all_along P Q f t h.0, each_along P Q f ts h.1)

-- a word that is neither signed nor an operator and is read as a term has its token
plain_by : {A : Type 0} → (signed is_and is_or is_not : Bool) (a : A) (r : Reading A) (x : Reading (List (Tok A))) → signed ≡ false → is_and ≡ false → is_or ≡ false → is_not ≡ false → r ≡ Good a →
    (if signed then x else alone (operator_or (operator_by is_and is_or is_not) r)) ≡ Good (Token a ∷ [])
plain_by signed is_and is_or is_not a r x h k l m e = rw (h, k, l, m, e) refl

above : (c k : ℕ) → IsTrue (is_ascii_lowercase c) → k < 97 → (c == k) ≡ false
above c k low small = grind (arith, nat_tests)

unequal_front : (c k : ℕ) (cs ks : List ℕ) → (c == k) ≡ false → bytes_eq (c ∷ cs) (k ∷ ks) ≡ false
unequal_front c k cs ks e = ap (λ b. b && bytes_eq cs ks) e

spelled_word : {A : Type 0} → (reading : List ℕ → Reading A) (w : List ℕ) (a : A) → IsOneWord w → reading w ≡ Good a → IsWordOf reading w (Token a ∷ [])
spelled_word reading w a h e =
    let c = h.0 in
    let cs = h.1 in
    record {
      one = h.4;
      some = λ none. omega (arith, none, ap length h.2);
      good = λ opens. ap (word_tokens reading opens) h.2
          ∙ plain_by (c == 45) (bytes_eq (c ∷ cs) (codes "AND")) (bytes_eq (c ∷ cs) (codes "OR")) (bytes_eq (c ∷ cs) (codes "NOT")) a (reading (c ∷ cs)) _
          (above c 45 h.3 (lit< tt)) (unequal_front c 65 cs _ (above c 65 h.3 (lit< tt))) (unequal_front c 79 cs _ (above c 79 h.3 (lit< tt))) (unequal_front c 78 cs _ (above c 78 h.3 (lit< tt)))
          (ap reading (sym h.2) ∙ e);
    }

some_token : {A : Type 0} → (u : Unary A) → 1 ≤ length (spelled u)
some_token (Leaf true a) = omega arith
some_token (Group true ms) = omega arith
some_token _ = omega arith

some_tokens : {A : Type 0} → (ms : Members A) → 1 ≤ length (all_spelled ms)
some_tokens (One u) = some_token u
some_tokens (Next u j ms) = omega (arith, some_token u, length-append (spelled u) (between j ++ all_spelled ms))

some_lexeme : {A : Type 0} → (reading : List ℕ → Reading A) (ls : List Lexeme) (ts : List (Tok A)) → tokens reading ls ≡ Some ts → 1 ≤ length ts → 1 ≤ length ls
some_lexeme reading [] ts e some = absurd (omega (arith, ap length (same_Some _ _ e)))
some_lexeme reading (l ∷ ls) ts e some = omega arith

pub again : {A : Type 0} → (reading : List ℕ → Reading A) (word : A → List ℕ) →
    ((w : List ℕ) (a : A) → reading w ≡ Good a → reading (word a) ≡ Good a) → ((w : List ℕ) (a : A) → reading w ≡ Good a → IsOneWord (word a)) →
    (text : List ℕ) (t : Tree A) → HasExpr reading text t → length (printed word t) ≤ 4096 → HasExpr reading (printed word t) t
again reading word reads one text t h short =
    let ms = h.2.0 in
    let d = members_leaf ms in
    let read = tree_terms (IsRead reading) ms (subst (AllWords (IsRead reading)) (sym h.2.1) (tokens_read reading h.1.0 [] h.0 h.1.2)) in
    let terms = all_along (IsRead reading) (IsSpelled reading word) (λ a r. spelled_word reading (word a) a (one r.0 a r.1) (reads r.0 a r.1)) (tree ms) read in
    let full = tree_full ms in
    let t' = tree ms in
    let text' = printed word t' in
    let ts = all_spelled (level d t') in
    let carried = printed_carried reading word d t' full terms 0 [] [] [] refl refl refl in
    let short' : length text' ≤ 4096 = subst (λ u. length (printed word u) ≤ 4096) (sym h.2.4) short in
    let cut : IsCut 0 carried.ls text' = subst (IsCut 0 carried.ls) (append-nil text') carried.cut in
    let read' : tokens reading carried.ls ≡ Some ts = carried.read ∙ ap Some (append-nil ts) in
    let within : all_depth (level d t') ≤ 32 = omega (arith, level_depth d ms, h.2.2) in
    let again' : HasExpr reading text' t' = (
      ts,
      (carried.ls, (short', cut, some_lexeme reading carried.ls ts read' (some_tokens (level d t')), carried.matched 0), read'),
      (level d t', refl, within, level_mixed d t', level_tree d t' full),
    ) in
    subst (λ u. HasExpr reading (printed word u) u) h.2.4 again'

-- the text that an expression is printed as is that expression again
pub printed_again : {A E : Type 0} → (reading : List ℕ → Reading A) (word : A → List ℕ) →
    ((w : List ℕ) (a : A) → reading w ≡ Good a → reading (word a) ≡ Good a) → ((w : List ℕ) (a : A) → reading w ≡ Good a → IsOneWord (word a)) →
    (r : Result (String Global) E) (t : Tree A) → ∥ IsExpression reading t ∥₁ → IfOk r (λ s. string_bytes s ≡ printed word t) →
    IfOk r (λ s. length (string_bytes s) ≤ 4096 → ∥ HasExpr reading (string_bytes s) t ∥₁)
printed_again reading word reads one (Ok s) t some e =
    λ short. ∥∥₁_map some (λ h. rw e (again reading word reads one h.0 t h.1 (rw e at short)))
printed_again reading word reads one (Err f) t some e = tt
