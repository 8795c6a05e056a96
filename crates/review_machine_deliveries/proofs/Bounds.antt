-- How many votes a change of a history has: they are counted, accounts gave them, and there is a most.
use Rattle.std.proofs.Common.{◌≡◌, ℕ, ◌+◌, ◌==◌, ◌≤◌, List, [], ◌∷◌, length, Bool, true, false, cond, ◌&&◌, ◌||◌, refl, sym, ap, ◌∙◌, ⊎_elim, arith, eqb-true, eq-eqb, bytes_eq, ℤ, pos, Option, Some, None, subst, leb-true, le-leb, nat_le, option_map, zero, suc, ◌*◌, ◌<◌, ◌++◌, not, Less, Equal, Greater, nat_cmp, length-append, ltb-true, ltb-false, int_eq, is_some, nat_lt, find, filter, fold, codes}
use Rattle.std.proofs.lemmas.Bool.{or_parts, or_left, or_right, and_parts, and_from, cases_Bool, cases_lt}
use Rattle.std.{proofs.lemmas.List.length-map, proofs.lemmas.Slice.Eq.bytes_eq-Decides, specs.Ordering.match_ordering}
use Rattle.toml.specs.Data.{Data, table}
use Rattle.review_file_document.specs.{Document.members_at, Limits.most_parts}
use Rattle.review_words.specs.History.{Entry, accepted, if_done, account_count, counted, is_account}
use Rattle.review_words.specs.declared.changes.Review.{Review as ReviewOf}
use Rattle.review_words.specs.declared.command.Command.TheVariants.{CreateAccount, CreateChange, OnChange}
use Rattle.review_file_rules.specs.Expressions.{EachTo, IsLabel}
use Rattle.review_file_rules.specs.Inherited.{inherited_labels, put_by}
use Rattle.review_file_rules.specs.{Spelled.label_in, Spelled.named, Spelled.spelled, View.FileView, View.LabelView}
use Rattle.review_core_rules.proofs.Stays.{removed_on}
use Rattle.review_core_rules.specs.Change.{Change, Copying, Setting, after, begun, carried, copying, current, given_or, reviewed, is_lost}
use Rattle.review_core_rules.specs.Counts.{AreApart, AreMany, has_vote}
use Rattle.review_machine_rows.proofs.Common.{Answer, ChangeCommand, Command, Done, Expr, Given, IsRead, NewPatch, Ordering, Reply, UnknownCaller, VoteKey, is_label, list_any, option_map_or, slice_cmp, voted}
use Rattle.review_machine_rows.proofs.Readings.{IsDoneBy, done_of}
use Rattle.review_machine_rows.specs.Answer.{IsAnswerBy, IsHistory, checks, IsUploadAnswer, is_value_of}
use Rattle.review_machine_rows.specs.Changes.{Reading, Reads, change, change_by, change_count, setting_of, submitted, effective_of, file_of, own_of, texts_of}
use Rattle.review_machine_rows.specs.{Desks.facts_of, Lines.line_of, Lines.most_depth, Lines.with_above}
use Rattle.review_machine_rows.specs.declared.rows.StoredFile.{StoredFile}
use Rattle.review_machine_laws.proofs.Changes.{joining_keeps, all_pass, done_passes, made_holds}
use Rattle.review_machine_laws.proofs.{Histories.line_read, SoundProjects.votes_stand}
use Rattle.review_machine_deliveries.proofs.Files.{AreReadRight, spelled_once}
use Rattle.review_words.specs.declared.command.ChangeCommand.TheVariants as on

-- ==== counting votes: lists that are apart and have the same votes are of one length

-- the key is that of an account on a label
abbrev is_vote : VoteKey → ℕ → List ℕ → Bool
is_vote k u l = bytes_eq k.label l && (k.account == u)

-- the list without the first of these votes
abbrev without : ℕ → List ℕ → List VoteKey → List VoteKey
without u l [] = []
without u l (k ∷ ks) = cond (is_vote k u l) ks (k ∷ without u l ks)

without_long : (u : ℕ) (l : List ℕ) (ks : List VoteKey) → has_vote ks u l ≡ true → length (without u l ks) + 1 ≡ length ks
without_long u l [] there = absurd (cc)
without_long u l (k ∷ ks) there = ⊎_elim
    (λ (t : is_vote k u l ≡ true).
    let now : length (without u l (k ∷ ks)) ≡ length ks = ap (λ b. length (cond b ks (k ∷ without u l ks))) t in omega arith)
    (λ (f : is_vote k u l ≡ false).
    let rest : has_vote ks u l ≡ true = sym (ap (λ b. b || has_vote ks u l) f) ∙ there in
    let before = without_long u l ks rest in
    let now : length (without u l (k ∷ ks)) ≡ length (k ∷ without u l ks) = ap (λ b. length (cond b ks (k ∷ without u l ks))) f in
    omega arith)
    (cases_Bool (is_vote k u l))

-- two votes of one key
same_vote : (k : VoteKey) (u v : ℕ) (l m : List ℕ) → is_vote k u l ≡ true → is_vote k v m ≡ true → (u ≡ v) × (l ≡ m)
same_vote k u v l m one other =
    let a = and_parts (bytes_eq k.label l) (k.account == u) one in
    let b = and_parts (bytes_eq k.label m) (k.account == v) other in
    (sym (eqb-true k.account u a.1) ∙ eqb-true k.account v b.1, sym ((bytes_eq-Decides k.label l).0 a.0) ∙ (bytes_eq-Decides k.label m).0 b.0)

-- another vote stays
without_other : (u v : ℕ) (l m : List ℕ) (ks : List VoteKey) → ((u ≡ v) × (l ≡ m) → ⊥) → has_vote ks v m ≡ true → has_vote (without u l ks) v m ≡ true
without_other u v l m [] other there = there
without_other u v l m (k ∷ ks) other there = ⊎_elim
    (λ (t : is_vote k u l ≡ true).
    let not_here : is_vote k v m ≡ false =
    ⊎_elim (λ (s : is_vote k v m ≡ true). absurd (other (same_vote k u v l m t s))) (λ (f : is_vote k v m ≡ false). f) (cases_Bool (is_vote k v m)) in
    ap (λ b. has_vote (cond b ks (k ∷ without u l ks)) v m) t ∙ (sym (ap (λ b. b || has_vote ks v m) not_here) ∙ there))
    (λ (f : is_vote k u l ≡ false).
    ap (λ b. has_vote (cond b ks (k ∷ without u l ks)) v m) f
    ∙ ⊎_elim
    (λ (s : is_vote k v m ≡ true). ap (λ b. b || has_vote (without u l ks) v m) s)
    (λ (n : is_vote k v m ≡ false).
    or_right (is_vote k v m) (has_vote (without u l ks) v m) (without_other u v l m ks other (sym (ap (λ b. b || has_vote ks v m) n) ∙ there)))
    (cases_Bool (is_vote k v m)))
    (cases_Bool (is_vote k u l))

own_vote : (k : VoteKey) → is_vote k k.account k.label ≡ true
own_vote k = and_from (bytes_eq k.label k.label) (k.account == k.account) ((bytes_eq-Decides k.label k.label).1 refl) (eq-eqb k.account k.account refl)

-- A list of votes that are apart is no longer than one that has them all.
pub no_more : (ks js : List VoteKey) → AreApart ks → ((u : ℕ) (l : List ℕ) → has_vote ks u l ≡ true → has_vote js u l ≡ true) → length ks ≤ length js
no_more [] js apart within = omega arith
no_more (k ∷ ks) js apart within =
    let here : has_vote js k.account k.label ≡ true = within k.account k.label (ap (λ b. b || has_vote ks k.account k.label) (own_vote k)) in
    let rest = no_more ks (without k.account k.label js) apart.1 (λ u l there.
    without_other k.account u k.label l js (λ same.
    let bad : true ≡ false = sym there ∙ ((λ i. has_vote ks (sym same.0 i) (sym same.1 i)) ∙ apart.0) in absurd (cc))
    (within u l (or_right (is_vote k u l) (has_vote ks u l) there))) in
    let long = without_long k.account k.label js here in
    omega arith

-- a test holds for one number of pairs
pub one_count : (test : List ℕ → ℕ → Bool) (n m : ℕ) → AreMany test n → AreMany test m → n ≡ m
one_count test n m a b =
    let x = no_more a.keys b.keys a.apart (λ u l there. b.each l u ∙ (sym (a.each l u) ∙ there)) in
    let y = no_more b.keys a.keys b.apart (λ u l there. a.each l u ∙ (sym (b.each l u) ∙ there)) in
    let p = a.count in
    let q = b.count in
    omega arith

-- ==== whose votes a change has: accounts vote

-- ---- accounts stay

more_accounts : (n m u : ℕ) → n ≤ m → (nat_le 1 u && nat_le u n) ≡ true → (nat_le 1 u && nat_le u m) ≡ true
more_accounts n m u grows is =
    let p = and_parts (nat_le 1 u) (nat_le u n) is in
    let below : u ≤ n = leb-true u n p.1 in
    and_from (nat_le 1 u) (nat_le u m) p.0 (le-leb u m (omega arith))

accounts_stay : (o : Option Command) (n u : ℕ) → (nat_le 1 u && nat_le u n) ≡ true → (nat_le 1 u && nat_le u (counted o n)) ≡ true
accounts_stay (Some (CreateAccount name)) n u is = more_accounts n (n + 1) u (omega arith) is
accounts_stay _ n u is = is

-- ---- votes

-- accounts voted on a change
abbrev pub HasVoters : List Entry → Change → Type 0
HasVoters h c = (n : ℕ) (l : List ℕ) (u : ℕ) → voted (c.vote n l u) ≡ true → is_account h u ≡ true

voters_stay : (e : Entry) (h : List Entry) (c : Change) → HasVoters h c → HasVoters (e ∷ h) c
voters_stay e h c has n l u is = accounts_stay (accepted e) (account_count h) u (has n l u is)

-- a vote after an Upload was there before
uploaded_vote : (k : Copying) (b : Bool) (c : Change) (n : ℕ) (l : List ℕ) (u : ℕ) → voted (cond b (carried k c l u) (c.vote n l u)) ≡ true → (m : ℕ) × (voted (c.vote m l u) ≡ true)
uploaded_vote k false c n l u is = (n, is)
uploaded_vote k true c n l u is = (current c, copied (k.copies l u (c.vote (current c) l u)) is)
  where
    copied : (b : Bool) → voted (cond b (c.vote (current c) l u) (pos 0)) ≡ true → voted (c.vote (current c) l u) ≡ true
    copied true is = is
    copied false is = absurd (cc)

uploaded : (h : List Entry) (s : Setting) (p : NewPatch) (caller request : ℕ) (c : Change) → HasVoters h c → HasVoters h (after s (on.Upload p) caller request c)
uploaded h s p caller request c has n l u is = let v = uploaded_vote (copying s (on.Upload p) caller c) (current c + 1 == n) c n l u is in has v.0 l u v.1

-- a vote that a review gave is its author's, and others were there before
review_voter : (b t : Bool) (x y : ℤ) {A : Type 0} → (t ≡ true → A) → (voted y ≡ true → A) → voted (cond (b && t) x y) ≡ true → A
review_voter true true x y here there is = here refl
review_voter true false x y here there is = there is
review_voter false t x y here there is = there is

was_reviewed : (h : List Entry) (s : Setting) (caller request : ℕ) (r : ReviewOf) (c : Change) → is_account h caller ≡ true → HasVoters h c → HasVoters h (after s (on.Review r) caller request c)
was_reviewed h s caller request r c account has n l u is =
    review_voter (reviewed r c == n) (caller == u) (given_or r.labels l (c.vote n l u)) (c.vote n l u) (λ same. subst (λ x. is_account h x ≡ true) (eqb-true caller u same) account) (has n l u) is

-- after a request of an account on a change accounts voted on it: but for an Upload and a Review each vote was there before
voters_after : (h : List Entry) (s : Setting) (caller request : ℕ) (command : ChangeCommand) (c : Change) → is_account h caller ≡ true → HasVoters h c → HasVoters h (after s command caller request c)
voters_after h s caller request (on.Upload patch) c account has n l u is = uploaded h s patch caller request c has n l u is
voters_after h s caller request (on.Review review) c account has n l u is = was_reviewed h s caller request review c account has n l u is
voters_after h s caller request (on.RemoveReviewer v) c account has n l u is = has n l u (removed_on ((current c == n) && (v == u)) (c.vote n l u) is)
voters_after h s caller request _ c account has n l u is = has n l u is

-- what becomes of a change that a request names, or that is made
by_choice : (Is : Change → Type 0) (b : Bool) (o : Option Change) (f : Change → Change) (c : Change) → ((x : Change) → o ≡ Some x → Is x) → ((x : Change) → Is x → Is (f x)) → cond b (option_map f o) o ≡ Some c → Is c
by_choice Is true None f c before then is = absurd (cc)
by_choice Is true (Some x) f c before then is = let same : f x ≡ c = cc in subst Is same (then x (before x refl))
by_choice Is false o f c before then is = before c is

voters_done : (reading : Reading) (h : List Entry) (caller n : ℕ) (c : Change) (command : Command) (a : Answer) → IsAnswerBy reading h caller command (Done a) →
    ((x : Change) → change reading h n ≡ Some x → HasVoters h x) → change_by reading h caller (Some command) n (change reading h n) ≡ Some c → HasVoters h c
voters_done reading h caller n c (CreateChange new) a answer before is =
    made_holds (HasVoters h) (change_count h + 1 == n) (change reading h n) (begun new caller (length h + 1)) c before (λ m l u none. absurd (cc)) is
voters_done reading h caller n c (OnChange m command) a answer before is =
    let account = (all_pass ((is_account h caller, UnknownCaller) ∷ checks (facts_of reading h) caller (OnChange m command)) (done_passes reading h caller (OnChange m command) a answer)).0 in
    by_choice (HasVoters h) (m == n) (change reading h n) (λ x. after (setting_of reading h x.project) command caller (length h + 1) x) c before
    (λ x has. voters_after h (setting_of reading h x.project) caller (length h + 1) command x account has) is
voters_done reading h caller n c _ a answer before is = before c is

-- one entry more
voters_step : (reading : Reading) (h : List Entry) (caller n : ℕ) (c : Change) (command : Command) (reply : Reply) → IsDoneBy reading h caller command reply →
    ((x : Change) → change reading h n ≡ Some x → HasVoters h x) → change_by reading h caller (if_done reply command) n (change reading h n) ≡ Some c → HasVoters h c
voters_step reading h caller n c command (Done a) answer before is = voters_done reading h caller n c command a answer before is
voters_step reading h caller n c command _ answer before is = before c is

-- whose votes a change of a history has
pub have_voters : (reading : Reading) (h : List Entry) (n : ℕ) (c : Change) → Reads reading h → IsHistory h → change reading h n ≡ Some c → HasVoters h c
have_voters reading [] n c reads history is = absurd (cc)
have_voters reading (e ∷ h) n c reads history is =
    joining_keeps (HasVoters (e ∷ h)) (λ place request x has. has) h (submitted (accepted e) e.reply) n (change_by reading h e.identity.caller (accepted e) n (change reading h n)) c
    (λ x there. voters_stay e h x
    (voters_step reading h e.identity.caller n x e.command e.reply (done_of e h history reading reads.1) (λ y was. have_voters reading h n y reads.1 history.3 was) there)) is

-- ==== how many votes a change of a history has at most

-- ---- the votes that there can be

-- the votes of the accounts up to a number on a label, and on some labels
abbrev votes_on : List ℕ → ℕ → List VoteKey
votes_on l zero = []
votes_on l (suc n) = record { patch = 0; label = l; account = suc n } ∷ votes_on l n

abbrev all_votes : List (LabelView Expr) → ℕ → List VoteKey
all_votes [] n = []
all_votes (x ∷ xs) n = votes_on x.name n ++ all_votes xs n

votes_on_long : (l : List ℕ) (n : ℕ) → length (votes_on l n) ≡ n
votes_on_long l zero = refl
votes_on_long l (suc n) = ap suc (votes_on_long l n)

all_votes_long : (xs : List (LabelView Expr)) (n : ℕ) → n ≤ 1000000 → length (all_votes xs n) ≤ length xs * 1000000
all_votes_long [] n below = omega arith
all_votes_long (x ∷ xs) n below =
    let here = votes_on_long x.name n in
    let rest = all_votes_long xs n below in
    let both = length-append (votes_on x.name n) (all_votes xs n) in
    omega arith

in_both : (ks js : List VoteKey) (u : ℕ) (l : List ℕ) → has_vote (ks ++ js) u l ≡ (has_vote ks u l || has_vote js u l)
in_both [] js u l = refl
in_both (k ∷ ks) js u l = ap (λ b. (bytes_eq k.label l && (k.account == u)) || b) (in_both ks js u l) ∙ sym (or_assoc (bytes_eq k.label l && (k.account == u)) (has_vote ks u l) (has_vote js u l))
  where
    or_assoc : (a b c : Bool) → ((a || b) || c) ≡ (a || (b || c))
    or_assoc true b c = refl
    or_assoc false b c = refl

votes_on_there : (m l : List ℕ) (n u : ℕ) → bytes_eq m l ≡ true → 1 ≤ u → u ≤ n → has_vote (votes_on m n) u l ≡ true
votes_on_there m l zero u same low high = absurd (omega arith)
votes_on_there m l (suc n) u same low high = ⊎_elim
    (λ (t : (suc n == u) ≡ true). or_left (bytes_eq m l && (suc n == u)) (has_vote (votes_on m n) u l) (and_from (bytes_eq m l) (suc n == u) same t))
    (λ (f : (suc n == u) ≡ false).
    let other : (suc n ≡ u) → ⊥ = λ e. let t = eq-eqb (suc n) u e in absurd (cc) in
    let below : u ≤ n = ⊎_elim (λ (lt : u < suc n). omega arith) (λ (ge : suc n ≤ u). absurd (other (omega arith))) (cases_lt u (suc n)) in
    or_right (bytes_eq m l && (suc n == u)) (has_vote (votes_on m n) u l) (votes_on_there m l n u same low below))
    (cases_Bool (suc n == u))

all_votes_there : (xs : List (LabelView Expr)) (l : List ℕ) (n u : ℕ) → is_some (find (λ x. bytes_eq x.name l) xs) ≡ true → 1 ≤ u → u ≤ n → has_vote (all_votes xs n) u l ≡ true
all_votes_there [] l n u there low high = absurd (cc)
all_votes_there (x ∷ xs) l n u there low high =
    in_both (votes_on x.name n) (all_votes xs n) u l
    ∙ ⊎_elim
    (λ (t : bytes_eq x.name l ≡ true). or_left (has_vote (votes_on x.name n) u l) (has_vote (all_votes xs n) u l) (votes_on_there x.name l n u t low high))
    (λ (f : bytes_eq x.name l ≡ false).
    or_right (has_vote (votes_on x.name n) u l) (has_vote (all_votes xs n) u l)
    (all_votes_there xs l n u (sym (ap (λ b. is_some (cond b (Some x) (find (λ y. bytes_eq y.name l) xs))) f) ∙ there) low high))
    (cases_Bool (bytes_eq x.name l))

-- so many votes, each of an account on a label
votes_below : (xs : List (LabelView Expr)) (accounts : ℕ) (test : List ℕ → ℕ → Bool) (n : ℕ) → length xs ≤ 512 → accounts ≤ 1000000 →
    ((l : List ℕ) (u : ℕ) → test l u ≡ true → is_some (find (λ x. bytes_eq x.name l) xs) ≡ true) → ((l : List ℕ) (u : ℕ) → test l u ≡ true → (nat_le 1 u && nat_le u accounts) ≡ true) →
    AreMany test n → n < 18446744073709551616
votes_below xs accounts test n labels below named voters many =
    let most = no_more many.keys (all_votes xs accounts) many.apart (λ u l there.
    let is : test l u ≡ true = sym (many.each l u) ∙ there in
    let p = and_parts (nat_le 1 u) (nat_le u accounts) (voters l u is) in
    all_votes_there xs l accounts u (named l u is) (leb-true 1 u p.0) (leb-true u accounts p.1)) in
    let long = all_votes_long xs accounts below in
    let count = many.count in
    omega arith

-- ---- the labels of a file

same_long : {A B : Type 0} (R : A → B → Type 0) (xs : List A) (ys : List B) → EachTo R xs ys → length ys ≡ length xs
same_long R [] [] each = refl
same_long R [] (y ∷ ys) each = absurd each
same_long R (x ∷ xs) [] each = absurd each
same_long R (x ∷ xs) (y ∷ ys) each = ap suc (same_long R xs ys each.1)

filter_long : {X : Type 0} (p : X → Bool) (xs : List X) → length (filter p xs) ≤ length xs
filter_long p [] = omega arith
filter_long p (x ∷ xs) =
    let rest = filter_long p xs in ⊎_elim
    (λ (t : p x ≡ true). let e : length (filter p (x ∷ xs)) ≡ length (x ∷ filter p xs) = ap (λ b. length (cond b (x ∷ filter p xs) (filter p xs))) t in omega arith)
    (λ (f : p x ≡ false). let e : length (filter p (x ∷ xs)) ≡ length (filter p xs) = ap (λ b. length (cond b (x ∷ filter p xs) (filter p xs))) f in omega arith)
    (cases_Bool (p x))

labels_bound : (text : List ℕ) (f : FileView Expr) → IsRead text f → length f.labels ≤ 64
labels_bound text f (short, (ms, parsed, good)) =
    let members = members_at (codes "label") (table ms) in
    let within : nat_lt most_parts (length members) ≡ false = (or_parts (nat_lt most_parts (length members)) _ good.2).0 in
    let few : length members ≤ 64 = ltb-false most_parts (length members) within in
    let spelled_long : length (spelled (table ms)).labels ≡ length (named members) = length-map (named members) label_in in
    let named_long = filter_long (λ (m : List ℕ × Data). is_label m.0) members in
    let read_long = same_long IsLabel (spelled (table ms)).labels f.labels good.0.1.2 in
    omega arith

put_long : (xs : List (LabelView Expr)) (x : LabelView Expr) → length (put_by (λ l. l.name) xs x) ≤ length xs + 1
put_long [] x = omega arith
put_long (y ∷ ys) x = by (slice_cmp nat_cmp x.name y.name) (put_long ys x)
  where
    by : (o : Ordering) → length (put_by (λ l. l.name) ys x) ≤ length ys + 1 → length (match_ordering o (x ∷ y ∷ ys) (x ∷ ys) (y ∷ put_by (λ l. l.name) ys x)) ≤ length (y ∷ ys) + 1
    by Less later = omega arith
    by Equal later = omega arith
    by Greater later = omega arith

named_long : (acc xs : List (LabelView Expr)) → length (fold (put_by (λ l. l.name)) acc xs) ≤ length acc + length xs
named_long acc [] = omega arith
named_long acc (x ∷ xs) =
    let one = put_long acc x in
    let rest = named_long (put_by (λ l. l.name) acc x) xs in
    omega arith

inherited_long : (parent own : List (LabelView Expr)) → length (inherited_labels parent own) ≤ length parent + length own
inherited_long parent own =
    let all = named_long [] (parent ++ own) in
    let both = length-append parent own in
    omega arith

-- the labels of an effective file are at most those of all its texts
effective_bound : (reading : Reading) (texts : List (List ℕ)) → AreReadRight reading texts → length (effective_of reading texts).labels ≤ length texts * 64
effective_bound reading [] all = omega arith
effective_bound reading (text ∷ []) all = let own = labels_bound text (reading text) all.0 in omega arith
effective_bound reading (text ∷ next ∷ above) all =
    let own = labels_bound text (reading text) all.0 in
    let rest = effective_bound reading (next ∷ above) all.1 in
    let both = inherited_long (effective_of reading (next ∷ above)).labels (reading text).labels in
    omega arith

-- a line has at most as many texts as it has steps
line_short : (own : List ℕ → Option StoredFile) (n : ℕ) (project : List ℕ) → length (line_of own n project) ≤ n
line_short own zero project = omega arith
line_short own (suc n) project = by (own project) (λ q. line_short own n q)
  where
    above : (p : Option (List ℕ)) → ((q : List ℕ) → length (line_of own n q) ≤ n) → length (option_map_or (line_of own n) p []) ≤ n
    above None later = omega arith
    above (Some q) later = later q

    by : (o : Option StoredFile) → ((q : List ℕ) → length (line_of own n q) ≤ n) → length (with_above o (line_of own n)) ≤ suc n
    by None later = omega arith
    by (Some f) later = let rest = above f.parent later in omega arith

-- the effective file of a project has so many labels at most
file_bound : (reading : Reading) (h : List Entry) (project : List ℕ) → Reads reading h → length (file_of reading h project).labels ≤ 512
file_bound reading h project reads =
    let all = effective_bound reading (texts_of h project) (line_read reading h reads most_depth project) in
    let few : length (texts_of h project) ≤ 8 = line_short (own_of h) most_depth project in
    omega arith

-- ---- accounts

account_made : (reading : Reading) (h : List Entry) (caller : ℕ) (command : Command) (a : Answer) → IsAnswerBy reading h caller command (Done a) → account_count h ≤ 1000000 →
    counted (Some command) (account_count h) ≤ 1000000
account_made reading h caller (CreateAccount name) a answer before =
    let all = (all_pass ((is_account h caller, UnknownCaller) ∷ checks (facts_of reading h) caller (CreateAccount name)) (done_passes reading h caller (CreateAccount name) a answer)).1 in
    let below : account_count h < 1000000 = ltb-true (account_count h) 1000000 all.1.1.0 in
    omega arith
account_made reading h caller _ a answer before = before

account_by : (reading : Reading) (h : List Entry) (caller : ℕ) (command : Command) (reply : Reply) → IsDoneBy reading h caller command reply → account_count h ≤ 1000000 →
    counted (if_done reply command) (account_count h) ≤ 1000000
account_by reading h caller command (Done a) answer before = account_made reading h caller command a answer before
account_by reading h caller command _ answer before = before

-- a history has at most so many accounts
accounts_bound : (reading : Reading) (h : List Entry) → Reads reading h → IsHistory h → account_count h ≤ 1000000
accounts_bound reading [] reads history = omega arith
accounts_bound reading (e ∷ h) reads history = account_by reading h e.identity.caller e.command e.reply (done_of e h history reading reads.1) (accounts_bound reading h reads.1 history.3)

-- a vote that is carried was there
carried_vote : (b : Bool) (v : ℤ) → voted (cond b v (pos 0)) ≡ true → voted v ≡ true
carried_vote true v is = is
carried_vote false v is = absurd (cc)

-- a value of a label is on a label
of_label : (file : FileView Expr) (g : Given) → is_value_of file g ≡ true → is_some (find (λ x. bytes_eq x.name g.label) file.labels) ≡ true
of_label file g is = by (find (λ x. bytes_eq x.name g.label) file.labels) is
  where
    by : (o : Option (LabelView Expr)) → option_map_or (λ label. list_any (λ v. int_eq v.0 g.value) label.values) o false ≡ true → is_some o ≡ true
    by None is = absurd (cc)
    by (Some label) is = refl

-- the votes that an Upload counts
pub votes_bound : (reading : Reading) (h : List Entry) (caller n : ℕ) (patch : NewPatch) (c : Change) (reply : Reply) → IsHistory h → Reads reading h → change reading h n ≡ Some c →
    (is : IsUploadAnswer reading h caller n patch c reply) → (is.copied < 18446744073709551616) × (is.outdated < 18446744073709551616)
votes_bound reading h caller n patch c reply history reads there is =
    let file = file_of reading h c.project in
    let few = file_bound reading h c.project reads in
    let below = accounts_bound reading h reads history in
    let voters = have_voters reading h n c reads history there (current c) in
    let stand = votes_stand spelled_once reading h history reads n c there (current c) in
    let labels = λ (l : List ℕ) (u : ℕ) (v : voted (c.vote (current c) l u) ≡ true). of_label file (record { label = l; value = c.vote (current c) l u }) (stand l u v) in
    let k = copying (setting_of reading h c.project) (on.Upload patch) caller c in
    let was = λ (l : List ℕ) (u : ℕ) (v : voted (carried k c l u) ≡ true). carried_vote (k.copies l u (c.vote (current c) l u)) (c.vote (current c) l u) v in
    let lost = λ (l : List ℕ) (u : ℕ) (v : is_lost k c u l ≡ true). (and_parts (voted (c.vote (current c) l u)) (not (k.copies l u (c.vote (current c) l u))) v).0 in (
      votes_below file.labels (account_count h) (λ l u. voted (carried k c l u)) is.copied few below (λ l u v. labels l u (was l u v)) (λ l u v. voters l u (was l u v)) is.many_copied,
      votes_below file.labels (account_count h) (λ l u. is_lost k c u l) is.outdated few below (λ l u v. labels l u (lost l u v)) (λ l u v. voters l u (lost l u v)) is.many_outdated,
    )
