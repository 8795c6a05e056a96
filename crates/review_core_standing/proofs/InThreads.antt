-- Comments in threads, and which threads are unresolved.
use Rattle.std.proofs.Common.{◌≡◌, List, [], ◌∷◌, ◌++◌, Bool, true, false, not, ◌&&◌, ◌||◌, ◌==◌, refl, ap, ◌∙◌, ℕ, zero, suc, ◌+◌, ◌≤◌, length, map, Option, Some, None, cond, sym, subst, eq-eqb, arith, unwrap_or, ◌<◌, get_or, set, append-nil, append_assoc, length-append, filter, option_map, slice_get, eqb-true, ⊎_elim}
use Rattle.std.proofs.{Math.Bool.or-true, lemmas.Bool.cases_Bool}
use Rattle.std.proofs.lemmas.{Bool.Decides.nat_tests, List.length-map, List.map-append, Option.slice_get-map}
use Rattle.std.specs.{List.list_any, List.AllByRecursion, Option.option_map_or}
use Rattle.review_table.proofs.Plain.{all_at}
use Rattle.review_words.specs.declared.shown.{ShownComment.ShownComment, Thread.Thread}
use Rattle.review_core_rules.specs.Change.{has_unresolved, of_number, root_of, threaded, posts}
use Rattle.review_core_rules.specs.Threads.{Rooted, last_unresolved, of_root, rooted, rooted_after, roots, shown_comment, thread_of, threads}
use Rattle.review_core_rules.specs.declared.rows.{CommentRow.CommentRow, Post.Post}
use Rattle.review_core_standing.specs.declared.gathering.Gathered.{Gathered}
use Rattle.review_core_standing.specs.inner.Gathered.{place_of, put_in, thread_so_far}

-- ==== whether a thread is unresolved, from the last comment on

-- what is unresolved among the last is unresolved among all
pub stays_unresolved : (xs ys : List Post) → has_unresolved ys ≡ true → has_unresolved (xs ++ ys) ≡ true
stays_unresolved [] ys is = is
stays_unresolved (x ∷ xs) ys is = ap (λ b. (x.unresolved && not (list_any (λ q. q.root == x.root) (xs ++ ys))) || b) (stays_unresolved xs ys is) ∙ or-true (x.unresolved && not (list_any (λ q. q.root == x.root) (xs ++ ys)))

-- the last of its thread that is unresolved
pub unresolved_here : (p : Post) (ps : List Post) → list_any (λ q. q.root == p.root) ps ≡ false → p.unresolved ≡ true → has_unresolved (p ∷ ps) ≡ true
unresolved_here p ps last is = λ i. (is i && not (last i)) || has_unresolved ps

-- ==== putting comments into threads one after the other gives the threads

-- ---- comments with their roots, one after the other

abbrev pub post_of : List Post → CommentRow → Post
post_of ps x = record { author = x.author; root = root_of ps x; unresolved = x.unresolved }

-- the posts of comments after earlier ones
abbrev pub later : List Post → List CommentRow → List Post
later ps [] = []
later ps (x ∷ xs) = post_of ps x ∷ later (ps ++ post_of ps x ∷ []) xs

abbrev pub rooted_one : List Post → CommentRow → Rooted
rooted_one ps x = record { root = root_of ps x; comment = shown_comment (length ps + 1) x }

-- the comments after earlier ones, each with its root
abbrev pub rooted_rest : List Post → List CommentRow → List Rooted
rooted_rest ps [] = []
rooted_rest ps (x ∷ xs) = rooted_one ps x ∷ rooted_rest (ps ++ post_of ps x ∷ []) xs

pub threaded_is : (ps : List Post) (xs : List CommentRow) → threaded ps xs ≡ ps ++ later ps xs
threaded_is ps [] = sym (append-nil ps)
threaded_is ps (x ∷ xs) = threaded_is (ps ++ post_of ps x ∷ []) xs ∙ append_assoc ps (post_of ps x ∷ []) (later (ps ++ post_of ps x ∷ []) xs)

rooted_later : (n : ℕ) (ps : List Post) (xs : List CommentRow) → n ≡ length ps → rooted_after n (later ps xs) xs ≡ rooted_rest ps xs
rooted_later n ps [] is = refl
rooted_later n ps (x ∷ xs) is =
    let rest = rooted_later (n + 1) (ps ++ post_of ps x ∷ []) xs (ap (λ m. m + 1) is ∙ sym (length-append ps (post_of ps x ∷ []))) in
    λ i. record { root = root_of ps x; comment = shown_comment (is i + 1) x } ∷ rest i

pub rooted_is : (xs : List CommentRow) → rooted xs ≡ rooted_rest [] xs
rooted_is xs = ap (λ ps. rooted_after 0 ps xs) (threaded_is [] xs) ∙ rooted_later 0 [] xs refl

-- ---- one comment more

mapped_more : {X Y : Type 0} (f : X → Y) (p : X → Bool) (xs : List X) (x : X) → map f (filter p (xs ++ x ∷ [])) ≡ map f (filter p xs) ++ cond (p x) (f x ∷ []) []
mapped_more f p [] x = at (p x)
  where
    at : (b : Bool) → map f (cond b (x ∷ []) []) ≡ cond b (f x ∷ []) []
    at true = refl
    at false = refl
mapped_more f p (y ∷ ys) x = at (p y) (mapped_more f p ys x)
  where
    at : (b : Bool) → map f (filter p (ys ++ x ∷ [])) ≡ map f (filter p ys) ++ cond (p x) (f x ∷ []) [] →
        map f (cond b (y ∷ filter p (ys ++ x ∷ [])) (filter p (ys ++ x ∷ []))) ≡ map f (cond b (y ∷ filter p ys) (filter p ys)) ++ cond (p x) (f x ∷ []) []
    at true rest = ap (λ l. f y ∷ l) rest
    at false rest = rest

pub of_root_more : (rs : List Rooted) (r : Rooted) (s : ℕ) → of_root (rs ++ r ∷ []) s ≡ of_root rs s ++ cond (r.root == s) (r.comment ∷ []) []
of_root_more rs r s = mapped_more (λ x. x.comment) (λ x. x.root == s) rs r

pub roots_more : (rs : List Rooted) (r : Rooted) → roots (rs ++ r ∷ []) ≡ roots rs ++ cond (r.root == r.comment.number) (r.root ∷ []) []
roots_more rs r = mapped_more (λ x. x.root) (λ x. x.root == x.comment.number) rs r

pub last_of : (b : Bool) (xs : List ShownComment) (x : ShownComment) → last_unresolved b (xs ++ x ∷ []) ≡ x.unresolved
last_of b [] x = refl
last_of b (y ∷ ys) x = last_of y.unresolved ys x

-- the other threads stay
pub thread_stays : (rs : List Rooted) (r : Rooted) (s : ℕ) → (r.root == s) ≡ false → thread_of (rs ++ r ∷ []) s ≡ thread_of rs s
thread_stays rs r s other =
    let same = of_root_more rs r s ∙ (ap (λ b. of_root rs s ++ cond b (r.comment ∷ []) []) other ∙ append-nil (of_root rs s)) in
    λ i. record { root = s; comments = same i; unresolved = last_unresolved false (same i) }

-- the thread of the comment has it at its end
pub thread_grows : (rs : List Rooted) (r : Rooted) → thread_of (rs ++ r ∷ []) r.root ≡ record { root = r.root; comments = of_root rs r.root ++ r.comment ∷ []; unresolved = r.comment.unresolved }
thread_grows rs r =
    let same : of_root (rs ++ r ∷ []) r.root ≡ of_root rs r.root ++ r.comment ∷ [] =
    of_root_more rs r r.root ∙ ap (λ b. of_root rs r.root ++ cond b (r.comment ∷ []) []) (eq-eqb r.root r.root refl) in
    let last = ap (last_unresolved false) same ∙ last_of false (of_root rs r.root) r.comment in
    λ i. record { root = r.root; comments = same i; unresolved = last i }

-- ---- lists of roots

-- no root stands twice
abbrev pub AreApart : List ℕ → Type 0
AreApart [] = Unit {0}
AreApart (x ∷ xs) = AllByRecursion (λ y. (x == y) ≡ false) xs × AreApart xs

same_all : (P : ℕ → Type 0) (f g : ℕ → Thread) (q : List ℕ) → ((y : ℕ) → P y → g y ≡ f y) → AllByRecursion P q → map g q ≡ map f q
same_all P f g [] same all = refl
same_all P f g (y ∷ q) same all = λ i. same y all.0 i ∷ same_all P f g q same all.1 i

pub other_way : (x y : ℕ) → (x == y) ≡ false → (y == x) ≡ false
other_way x y e = grind (arith, nat_tests)

put_there : (q : List ℕ) (k s : ℕ) (f g : ℕ → Thread) (x : ShownComment) → slice_get q k ≡ Some s → AreApart q → ((y : ℕ) → (s == y) ≡ false → g y ≡ f y) →
    g s ≡ record { root = (f s).root; comments = (f s).comments ++ x ∷ []; unresolved = x.unresolved } → map g q ≡ put_in k x (map f q)
put_there [] k s f g x is apart stays grows = absurd (cc)
put_there (y ∷ q) zero s f g x is apart stays grows =
    let same : s ≡ y = cc in
    let here = subst (λ z. g z ≡ record { root = (f z).root; comments = (f z).comments ++ x ∷ []; unresolved = x.unresolved }) same grows in
    λ i. here i ∷ same_all (λ z. (y == z) ≡ false) f g q (λ z other. stays z (ap (λ w. w == z) same ∙ other)) apart.0 i
put_there (y ∷ q) (suc k) s f g x is apart stays grows =
    λ i. stays y (other_way y s (all_at (λ z. (y == z) ≡ false) q k s apart.0 is)) i ∷ put_there q k s f g x is apart.1 stays grows i

put_last : (x : ShownComment) (ts : List Thread) → put_in (length ts) x ts ≡ ts ++ record { root = x.number; comments = x ∷ []; unresolved = x.unresolved } ∷ []
put_last x [] = refl
put_last x (t ∷ ts) = ap (λ l. t ∷ l) (put_last x ts)

-- a root is one of these
abbrev pub is_among : ℕ → List ℕ → Bool
is_among s q = list_any (λ x. x == s) q

among_more : (s : ℕ) (xs ys : List ℕ) → is_among s xs ≡ true → is_among s (xs ++ ys) ≡ true
among_more s [] ys is = absurd (cc)
among_more s (x ∷ xs) ys is = at (x == s) (is_among s xs) is (among_more s xs ys)
  where
    at : (a b : Bool) → (a || b) ≡ true → (b ≡ true → is_among s (xs ++ ys) ≡ true) → (a || is_among s (xs ++ ys)) ≡ true
    at true b e rest = refl
    at false b e rest = rest e

among_last : (s : ℕ) (xs : List ℕ) → is_among s (xs ++ s ∷ []) ≡ true
among_last s [] = ap (λ b. b || false) (eq-eqb s s refl)
among_last s (x ∷ xs) = ap (λ b. (x == s) || b) (among_last s xs) ∙ or-true (x == s)

among_at : (q : List ℕ) (k s : ℕ) → slice_get q k ≡ Some s → is_among s q ≡ true
among_at [] k s is = absurd (cc)
among_at (y ∷ q) zero s is = let same : y ≡ s = cc in ap (λ b. b || is_among s q) (eq-eqb y s same)
among_at (y ∷ q) (suc k) s is = ap (λ b. (y == s) || b) (among_at q k s is) ∙ or-true (y == s)

-- ---- what holds of the comments so far

pub record IsSoFar (ps : List Post) (rs : List Rooted) (places : List ℕ) (ts : List Thread) : Type 0 where
  pub so_far : ts ≡ map (thread_of rs) (roots rs)
  pub placed : map (slice_get (roots rs)) places ≡ map (λ p. Some p.root) ps
  pub many : length places ≡ length ps
  pub within : AllByRecursion (λ r. r.root ≤ length ps) rs
  pub apart : AreApart (roots rs)
  pub rooted_in : AllByRecursion (λ r. is_among r.root (roots rs) ≡ true) rs

all_more : {X : Type 0} (P Q : X → Type 0) (xs : List X) (x : X) → ((y : X) → P y → Q y) → AllByRecursion P xs → Q x → AllByRecursion Q (xs ++ x ∷ [])
all_more P Q [] x weaker all last = (last, tt)
all_more P Q (y ∷ ys) x weaker all last = (weaker y all.0, all_more P Q ys x weaker all.1 last)

roots_within : (n : ℕ) (rs : List Rooted) → AllByRecursion (λ r. r.root ≤ n) rs → AllByRecursion (λ s. s ≤ n) (roots rs)
roots_within n [] all = tt
roots_within n (r ∷ rs) all = at (r.root == r.comment.number) (roots_within n rs all.1)
  where
    at : (b : Bool) → AllByRecursion (λ s. s ≤ n) (roots rs) →
        AllByRecursion (λ s. s ≤ n) (map (λ x. x.root) (cond b (r ∷ filter (λ x. x.root == x.comment.number) rs) (filter (λ x. x.root == x.comment.number) rs)))
    at true rest = (all.0, rest)
    at false rest = rest

below_other : (n s : ℕ) → s ≤ n → (n + 1 == s) ≡ false
below_other n s le = grind (arith, nat_tests)

none_rooted : (n : ℕ) (rs : List Rooted) → AllByRecursion (λ r. r.root ≤ n) rs → of_root rs (n + 1) ≡ []
none_rooted n [] all = refl
none_rooted n (r ∷ rs) all =
    let other = other_way (n + 1) r.root (below_other n r.root all.0) in
    ap (λ b. map (λ x. x.comment) (cond b (r ∷ filter (λ x. x.root == n + 1) rs) (filter (λ x. x.root == n + 1) rs))) other ∙ none_rooted n rs all.1

grows_by_one : (ps : List Post) (p : Post) → length (ps ++ p ∷ []) ≡ length ps + 1
grows_by_one ps p = length-append ps (p ∷ [])

-- a comment that answers one of a thread
answered : (ps : List Post) (rs : List Rooted) (places : List ℕ) (ts : List Thread) (p : Post) (r : Rooted) (k : ℕ) → IsSoFar ps rs places ts → p.root ≡ r.root → r.comment.number ≡ length ps + 1 → slice_get (roots rs) k ≡ Some r.root →
    IsSoFar (ps ++ p ∷ []) (rs ++ r ∷ []) (places ++ k ∷ []) (put_in k r.comment ts)
answered ps rs places ts p r k h of_post number at =
    let low = all_at (λ s. s ≤ length ps) (roots rs) k r.root (roots_within (length ps) rs h.within) at in
    let other : (r.root == r.comment.number) ≡ false = ap (λ m. r.root == m) number ∙ other_way (length ps + 1) r.root (below_other (length ps) r.root low) in
    let stay : roots (rs ++ r ∷ []) ≡ roots rs = roots_more rs r ∙ (ap (λ b. roots rs ++ cond b (r.root ∷ []) []) other ∙ append-nil (roots rs)) in
    record {
      so_far = sym (ap (map (thread_of (rs ++ r ∷ []))) stay
          ∙ (put_there (roots rs) k r.root (thread_of rs) (thread_of (rs ++ r ∷ [])) r.comment at h.apart (λ s o. thread_stays rs r s o) (thread_grows rs r)
          ∙ ap (put_in k r.comment) (sym h.so_far)));
      placed = ap (λ l. map (slice_get l) (places ++ k ∷ [])) stay
          ∙ (map-append (slice_get (roots rs)) places (k ∷ [])
          ∙ ((λ i. h.placed i ++ (at ∙ ap Some (sym of_post)) i ∷ [])
          ∙ sym (map-append (λ q. Some q.root) ps (p ∷ []))));
      many = length-append places (k ∷ []) ∙ (ap (λ m. m + 1) h.many ∙ sym (grows_by_one ps p));
      within = all_more (λ x. x.root ≤ length ps) (λ x. x.root ≤ length (ps ++ p ∷ [])) rs r (λ x le. subst (λ m. x.root ≤ m) (sym (grows_by_one ps p)) (omega arith)) h.within (subst (λ m. r.root ≤ m) (sym (grows_by_one ps p)) (omega arith));
      apart = subst AreApart (sym stay) h.apart;
      rooted_in = subst (λ q. AllByRecursion (λ x. is_among x.root q ≡ true) (rs ++ r ∷ [])) (sym stay)
          (all_more (λ x. is_among x.root (roots rs) ≡ true) (λ x. is_among x.root (roots rs) ≡ true) rs r (λ x e. e) h.rooted_in (among_at (roots rs) k r.root at));
    }

front_stays : (xs ys : List ℕ) (k s : ℕ) → slice_get xs k ≡ Some s → slice_get (xs ++ ys) k ≡ Some s
front_stays [] ys k s is = absurd (cc)
front_stays (x ∷ xs) ys zero s is = is
front_stays (x ∷ xs) ys (suc k) s is = front_stays xs ys k s is

some_head : (a : Option ℕ) (b : ℕ) (rest bs : List (Option ℕ)) → a ∷ rest ≡ Some b ∷ bs → (a ≡ Some b) × (rest ≡ bs)
some_head a b rest bs is = (cc, cc)

still_placed : (xs ys places : List ℕ) (ps : List Post) → map (slice_get xs) places ≡ map (λ p. Some p.root) ps → map (slice_get (xs ++ ys)) places ≡ map (λ p. Some p.root) ps
still_placed xs ys [] [] is = refl
still_placed xs ys [] (p ∷ ps) is = absurd (cc)
still_placed xs ys (k ∷ places) [] is = absurd (cc)
still_placed xs ys (k ∷ places) (p ∷ ps) is =
    let both = some_head (slice_get xs k) p.root (map (slice_get xs) places) (map (λ q. Some q.root) ps) is in
    λ i. front_stays xs ys k p.root both.0 i ∷ still_placed xs ys places ps both.1 i

at_last : (xs : List ℕ) (x : ℕ) → slice_get (xs ++ x ∷ []) (length xs) ≡ Some x
at_last [] x = refl
at_last (y ∷ xs) x = at_last xs x

apart_more : (n : ℕ) (xs : List ℕ) → AllByRecursion (λ s. s ≤ n) xs → AreApart xs → AreApart (xs ++ (n + 1) ∷ [])
apart_more n [] low apart = (tt, tt)
apart_more n (x ∷ xs) low apart =
    (all_more (λ y. (x == y) ≡ false) (λ y. (x == y) ≡ false) xs (n + 1) (λ y o. o) apart.0 (other_way (n + 1) x (below_other n x low.0)), apart_more n xs low.1 apart.1)

-- a comment that begins a thread
begun : (ps : List Post) (rs : List Rooted) (places : List ℕ) (ts : List Thread) (p : Post) (r : Rooted) → IsSoFar ps rs places ts → p.root ≡ r.root → r.comment.number ≡ length ps + 1 → r.root ≡ length ps + 1 →
    IsSoFar (ps ++ p ∷ []) (rs ++ r ∷ []) (places ++ length ts ∷ []) (put_in (length ts) r.comment ts)
begun ps rs places ts p r h of_post number own =
    let n = length ps in
    let itself : (r.root == r.comment.number) ≡ true = eq-eqb r.root r.comment.number (own ∙ sym number) in
    let more : roots (rs ++ r ∷ []) ≡ roots rs ++ r.root ∷ [] = roots_more rs r ∙ ap (λ b. roots rs ++ cond b (r.root ∷ []) []) itself in
    let count : length ts ≡ length (roots rs) = ap length h.so_far ∙ length-map (roots rs) (thread_of rs) in
    let low = roots_within n rs h.within in
    let none : of_root rs r.root ≡ [] = ap (of_root rs) own ∙ none_rooted n rs h.within in
    let new : thread_of (rs ++ r ∷ []) r.root ≡ record { root = r.comment.number; comments = r.comment ∷ []; unresolved = r.comment.unresolved } =
    thread_grows rs r ∙ (λ i. record { root = (own ∙ sym number) i; comments = none i ++ r.comment ∷ []; unresolved = r.comment.unresolved }) in
    let before = same_all (λ s. s ≤ n) (thread_of rs) (thread_of (rs ++ r ∷ [])) (roots rs) (λ s le. thread_stays rs r s (ap (λ m. m == s) own ∙ below_other n s le)) low in
    record {
      so_far = put_last r.comment ts
          ∙ sym (ap (map (thread_of (rs ++ r ∷ []))) more
          ∙ (map-append (thread_of (rs ++ r ∷ [])) (roots rs) (r.root ∷ []) ∙ (λ i. (before ∙ sym h.so_far) i ++ new i ∷ [])));
      placed = ap (λ l. map (slice_get l) (places ++ length ts ∷ [])) more
          ∙ (map-append (slice_get (roots rs ++ r.root ∷ [])) places (length ts ∷ [])
          ∙ ((λ i. still_placed (roots rs) (r.root ∷ []) places ps h.placed i ++ (ap (slice_get (roots rs ++ r.root ∷ [])) count ∙ (at_last (roots rs) r.root ∙ ap Some (sym of_post))) i ∷ [])
          ∙ sym (map-append (λ q. Some q.root) ps (p ∷ []))));
      many = length-append places (length ts ∷ []) ∙ (ap (λ m. m + 1) h.many ∙ sym (grows_by_one ps p));
      within = all_more (λ x. x.root ≤ length ps) (λ x. x.root ≤ length (ps ++ p ∷ [])) rs r (λ x le. subst (λ m. x.root ≤ m) (sym (grows_by_one ps p)) (omega arith)) h.within (subst (λ m. r.root ≤ m) (sym (grows_by_one ps p)) (omega arith));
      apart = subst AreApart (sym (more ∙ ap (λ s. roots rs ++ s ∷ []) own)) (apart_more n (roots rs) low h.apart);
      rooted_in = subst (λ q. AllByRecursion (λ x. is_among x.root q ≡ true) (rs ++ r ∷ [])) (sym more)
          (all_more (λ x. is_among x.root (roots rs) ≡ true) (λ x. is_among x.root (roots rs ++ r.root ∷ []) ≡ true) rs r (λ x e. among_more x.root (roots rs) (r.root ∷ []) e) h.rooted_in (among_last r.root (roots rs)));
    }

numbered : {X Y : Type 0} (f : X → Y) (xs : List X) (n : ℕ) → of_number (map f xs) n ≡ option_map f (of_number xs n)
numbered f xs zero = refl
numbered f xs (suc n) = slice_get-map f xs n

-- the place of the comment that is answered is that of its root
found_alike : (ps : List Post) (rs : List Rooted) (places : List ℕ) (answers : Option ℕ) → map (slice_get (roots rs)) places ≡ map (λ p. Some p.root) ps →
    option_map (slice_get (roots rs)) (option_map_or (of_number places) answers None) ≡ option_map (λ p. Some p.root) (option_map_or (of_number ps) answers None)
found_alike ps rs places None is = refl
found_alike ps rs places (Some n) is = sym (numbered (slice_get (roots rs)) places n) ∙ (ap (λ l. of_number l n) is ∙ numbered (λ p. Some p.root) ps n)

next_so_far : (ps : List Post) (rs : List Rooted) (places : List ℕ) (ts : List Thread) (x : CommentRow) → IsSoFar ps rs places ts →
    IsSoFar (ps ++ post_of ps x ∷ []) (rs ++ rooted_one ps x ∷ []) (places ++ place_of places (length ts) x ∷ []) (put_in (place_of places (length ts) x) (shown_comment (length ps + 1) x) ts)
next_so_far ps rs places ts x h = at (option_map_or (of_number places) x.answers None) (option_map_or (of_number ps) x.answers None) refl refl (found_alike ps rs places x.answers h.placed)
  where
    at : (o : Option ℕ) (q : Option Post) → option_map_or (of_number places) x.answers None ≡ o → option_map_or (of_number ps) x.answers None ≡ q → option_map (slice_get (roots rs)) o ≡ option_map (λ p. Some p.root) q →
        IsSoFar (ps ++ post_of ps x ∷ []) (rs ++ rooted_one ps x ∷ []) (places ++ place_of places (length ts) x ∷ []) (put_in (place_of places (length ts) x) (shown_comment (length ps + 1) x) ts)
    at None None there of_post alike =
        let own : root_of ps x ≡ length ps + 1 = ap (λ q. option_map_or (λ p. p.root) q (length ps + 1)) of_post in
        subst (λ k. IsSoFar (ps ++ post_of ps x ∷ []) (rs ++ rooted_one ps x ∷ []) (places ++ k ∷ []) (put_in k (shown_comment (length ps + 1) x) ts)) (sym (ap (λ o. unwrap_or o (length ts)) there))
        (begun ps rs places ts (post_of ps x) (rooted_one ps x) h refl refl own)
    at (Some k) (Some q) there of_post alike =
        let root : root_of ps x ≡ q.root = ap (λ o. option_map_or (λ p. p.root) o (length ps + 1)) of_post in
        let found : slice_get (roots rs) k ≡ Some q.root = cc in
        subst (λ k. IsSoFar (ps ++ post_of ps x ∷ []) (rs ++ rooted_one ps x ∷ []) (places ++ k ∷ []) (put_in k (shown_comment (length ps + 1) x) ts)) (sym (ap (λ o. unwrap_or o (length ts)) there))
        (answered ps rs places ts (post_of ps x) (rooted_one ps x) k h refl refl (found ∙ ap Some (sym root)))
    at None (Some q) there of_post alike = absurd (cc)
    at (Some k) None there of_post alike = absurd (cc)

-- the threads after some comments more
abbrev pub gathered : List ℕ → List Thread → List CommentRow → List Thread
gathered places ts [] = ts
gathered places ts (x ∷ xs) = gathered (places ++ place_of places (length ts) x ∷ []) (put_in (place_of places (length ts) x) (shown_comment (length places + 1) x) ts) xs

gathered_is : (ps : List Post) (rs : List Rooted) (places : List ℕ) (ts : List Thread) (xs : List CommentRow) → IsSoFar ps rs places ts →
    gathered places ts xs ≡ map (thread_of (rs ++ rooted_rest ps xs)) (roots (rs ++ rooted_rest ps xs))
gathered_is ps rs places ts [] h = h.so_far ∙ ap (λ l. map (thread_of l) (roots l)) (sym (append-nil rs))
gathered_is ps rs places ts (x ∷ xs) h =
    ap (λ m. gathered (places ++ place_of places (length ts) x ∷ []) (put_in (place_of places (length ts) x) (shown_comment (m + 1) x) ts) xs) h.many
    ∙ (gathered_is (ps ++ post_of ps x ∷ []) (rs ++ rooted_one ps x ∷ []) (places ++ place_of places (length ts) x ∷ []) (put_in (place_of places (length ts) x) (shown_comment (length ps + 1) x) ts) xs (next_so_far ps rs places ts x h)
    ∙ ap (λ l. map (thread_of l) (roots l)) (append_assoc rs (rooted_one ps x ∷ []) (rooted_rest (ps ++ post_of ps x ∷ []) xs)))

-- all comments give the threads
pub all_gathered : (xs : List CommentRow) → gathered [] [] xs ≡ threads xs
all_gathered xs =
    gathered_is [] [] [] [] xs (record { so_far = refl; placed = refl; many = refl; within = tt; apart = tt; rooted_in = tt }) ∙ ap (λ l. map (thread_of l) (roots l)) (sym (rooted_is xs))

-- what holds of all comments
final : (ps : List Post) (rs : List Rooted) (places : List ℕ) (ts : List Thread) (xs : List CommentRow) → IsSoFar ps rs places ts →
    (qs : List Post) × (places : List ℕ) × (ts : List Thread) × IsSoFar qs (rs ++ rooted_rest ps xs) places ts
final ps rs places ts [] h = (ps, places, ts, subst (λ l. IsSoFar ps l places ts) (sym (append-nil rs)) h)
final ps rs places ts (x ∷ xs) h =
    let rest = final (ps ++ post_of ps x ∷ []) (rs ++ rooted_one ps x ∷ []) (places ++ place_of places (length ts) x ∷ []) (put_in (place_of places (length ts) x) (shown_comment (length ps + 1) x) ts) xs (next_so_far ps rs places ts x h) in
    (rest.0, rest.1, rest.2, subst (λ l. IsSoFar rest.0 l rest.1 rest.2) (append_assoc rs (rooted_one ps x ∷ []) (rooted_rest (ps ++ post_of ps x ∷ []) xs)) rest.3)

-- the root of each comment begins a thread
pub all_rooted : (xs : List CommentRow) → AllByRecursion (λ r. is_among r.root (roots (rooted_rest [] xs)) ≡ true) (rooted_rest [] xs)
all_rooted xs = let h = final [] [] [] [] xs (record { so_far = refl; placed = refl; many = refl; within = tt; apart = tt; rooted_in = tt }) in h.3.rooted_in

-- ---- threads as they are gathered

pub put_set : (xs : List Gathered) (k : ℕ) (d g new : Gathered) (x : ShownComment) → k < length xs → g ≡ get_or xs k d → new.root ≡ g.root → new.comments.items ≡ g.comments.items ++ x ∷ [] → new.unresolved ≡ x.unresolved →
    map thread_so_far (set xs k new) ≡ put_in k x (map thread_so_far xs)
put_set [] k d g new x lt is root comments unresolved = absurd (omega arith)
put_set (y ∷ xs) zero d g new x lt is root comments unresolved =
    λ i. record { root = (root ∙ ap (λ z. z.root) is) i; comments = (comments ∙ ap (λ z. z.comments.items ++ x ∷ []) is) i; unresolved = unresolved i } ∷ map thread_so_far xs
put_set (y ∷ xs) (suc k) d g new x lt is root comments unresolved = ap (λ l. thread_so_far y ∷ l) (put_set xs k d g new x (omega arith) is root comments unresolved)

pub put_past : (x : ShownComment) (k : ℕ) (ts : List Thread) → length ts ≤ k → put_in k x ts ≡ ts ++ record { root = x.number; comments = x ∷ []; unresolved = x.unresolved } ∷ []
put_past x k [] le = refl
put_past x zero (t ∷ ts) le = absurd (omega arith)
put_past x (suc k) (t ∷ ts) le = ap (λ l. t ∷ l) (put_past x k ts (omega arith))

-- ==== a change has an unresolved thread where one of its threads is shown as unresolved

-- whether a comment is unresolved and none of its thread follows
abbrev ends_open : List Rooted → Bool
ends_open [] = false
ends_open (r ∷ rs) = (r.comment.unresolved && not (list_any (λ q. q.root == r.root) rs)) || ends_open rs

same_roots : (ps : List Post) (xs : List CommentRow) (s : ℕ) → list_any (λ q. q.root == s) (later ps xs) ≡ list_any (λ q. q.root == s) (rooted_rest ps xs)
same_roots ps [] s = refl
same_roots ps (x ∷ xs) s = ap (λ b. (root_of ps x == s) || b) (same_roots (ps ++ post_of ps x ∷ []) xs s)

by_rooted : (ps : List Post) (xs : List CommentRow) → has_unresolved (later ps xs) ≡ ends_open (rooted_rest ps xs)
by_rooted ps [] = refl
by_rooted ps (x ∷ xs) = λ i. (x.unresolved && not (same_roots (ps ++ post_of ps x ∷ []) xs (root_of ps x) i)) || by_rooted (ps ++ post_of ps x ∷ []) xs i

-- whether the thread of a root is unresolved
abbrev is_open : List Rooted → ℕ → Bool
is_open rs s = last_unresolved false (of_root rs s)

of_here : (r : Rooted) (rs : List Rooted) (s : ℕ) → (r.root == s) ≡ true → of_root (r ∷ rs) s ≡ r.comment ∷ of_root rs s
of_here r rs s is = ap (λ t. map (λ x. x.comment) (cond t (r ∷ filter (λ x. x.root == s) rs) (filter (λ x. x.root == s) rs))) is

of_other : (r : Rooted) (rs : List Rooted) (s : ℕ) → (r.root == s) ≡ false → of_root (r ∷ rs) s ≡ of_root rs s
of_other r rs s is = ap (λ t. map (λ x. x.comment) (cond t (r ∷ filter (λ x. x.root == s) rs) (filter (λ x. x.root == s) rs))) is

abbrev has_root : List Rooted → ℕ → Bool
has_root rs s = list_any (λ q. q.root == s) rs

-- a root without comments
none_of : (rs : List Rooted) (s : ℕ) → has_root rs s ≡ false → of_root rs s ≡ []
none_of [] s none = refl
none_of (r ∷ rs) s none = ⊎_elim
    (λ (e : (r.root == s) ≡ true). let bad : true ≡ false = sym (ap (λ b. b || has_root rs s) e) ∙ none in absurd (cc))
    (λ (e : (r.root == s) ≡ false). of_other r rs s e ∙ none_of rs s (sym (ap (λ b. b || has_root rs s) e) ∙ none))
    (cases_Bool (r.root == s))

-- where one follows, what came before doesn't matter
some_of : (rs : List Rooted) (s : ℕ) (a b : Bool) → has_root rs s ≡ true → last_unresolved a (of_root rs s) ≡ last_unresolved b (of_root rs s)
some_of [] s a b some = absurd (cc)
some_of (r ∷ rs) s a b some = ⊎_elim
    (λ (e : (r.root == s) ≡ true). ap (last_unresolved a) (of_here r rs s e) ∙ sym (ap (last_unresolved b) (of_here r rs s e)))
    (λ (e : (r.root == s) ≡ false).
    ap (last_unresolved a) (of_other r rs s e) ∙ (some_of rs s a b (sym (ap (λ t. t || has_root rs s) e) ∙ some) ∙ sym (ap (last_unresolved b) (of_other r rs s e))))
    (cases_Bool (r.root == s))

-- the first comment of what is left ends its thread unresolved
first_ends : (r : Rooted) (rs : List Rooted) → r.comment.unresolved ≡ true → has_root rs r.root ≡ false → ends_open (r ∷ rs) ≡ true
first_ends r rs is last = λ i. (is i && not (last i)) || ends_open rs

others_end : (r : Rooted) (rs : List Rooted) → ends_open rs ≡ true → ends_open (r ∷ rs) ≡ true
others_end r rs is = ap (λ b. (r.comment.unresolved && not (has_root rs r.root)) || b) is ∙ or-true (r.comment.unresolved && not (has_root rs r.root))

-- an open thread has a comment that is unresolved with none of the thread behind it
open_ends : (rs : List Rooted) (s : ℕ) → is_open rs s ≡ true → ends_open rs ≡ true
open_ends [] s is = absurd (cc)
open_ends (r ∷ rs) s is = ⊎_elim
    (λ (e : (r.root == s) ≡ true).
    let now : last_unresolved r.comment.unresolved (of_root rs s) ≡ true = sym (ap (last_unresolved false) (of_here r rs s e)) ∙ is in ⊎_elim
    (λ (some : has_root rs s ≡ true). others_end r rs (open_ends rs s (some_of rs s false r.comment.unresolved some ∙ now)))
    (λ (none : has_root rs s ≡ false).
    first_ends r rs (sym (ap (last_unresolved r.comment.unresolved) (none_of rs s none)) ∙ now) (ap (has_root rs) (eqb-true r.root s e) ∙ none))
    (cases_Bool (has_root rs s)))
    (λ (e : (r.root == s) ≡ false). others_end r rs (open_ends rs s (sym (ap (last_unresolved false) (of_other r rs s e)) ∙ is)))
    (cases_Bool (r.root == s))

both_parts : (a b : Bool) → (a && not b) ≡ true → (a ≡ true) × (b ≡ false)
both_parts true true e = absurd (cc)
both_parts true false e = (refl, refl)
both_parts false b e = absurd (cc)

-- an open thread stays open with one comment more in front
stays_open : (r : Rooted) (rs : List Rooted) (s : ℕ) → is_open rs s ≡ true → is_open (r ∷ rs) s ≡ true
stays_open r rs s is = ⊎_elim
    (λ (same : (r.root == s) ≡ true).
    ap (last_unresolved false) (of_here r rs s same)
    ∙ (⊎_elim
    (λ (some : has_root rs s ≡ true). some_of rs s r.comment.unresolved false some)
    (λ (none : has_root rs s ≡ false). let bad : false ≡ true = sym (ap (last_unresolved false) (none_of rs s none)) ∙ is in absurd (cc))
    (cases_Bool (has_root rs s)) ∙ is))
    (λ (different : (r.root == s) ≡ false). ap (last_unresolved false) (of_other r rs s different) ∙ is)
    (cases_Bool (r.root == s))

-- and such a comment has an open thread
ends_open_at : (rs : List Rooted) → ends_open rs ≡ true → (s : ℕ) × (is_open rs s ≡ true)
ends_open_at [] is = absurd (cc)
ends_open_at (r ∷ rs) is = ⊎_elim
    (λ (e : (r.comment.unresolved && not (has_root rs r.root)) ≡ true).
    let p = both_parts r.comment.unresolved (has_root rs r.root) e in
    (r.root, ap (last_unresolved false) (of_here r rs r.root (eq-eqb r.root r.root refl)) ∙ (ap (last_unresolved r.comment.unresolved) (none_of rs r.root p.1) ∙ p.0)))
    (λ (e : (r.comment.unresolved && not (has_root rs r.root)) ≡ false).
    let rest = ends_open_at rs (sym (ap (λ b. b || ends_open rs) e) ∙ is) in
    (rest.0, stays_open r rs rest.0 rest.1))
    (cases_Bool (r.comment.unresolved && not (has_root rs r.root)))

-- an open thread is that of a root
rooted_at : (P : ℕ → Type 0) (rs : List Rooted) (s : ℕ) → AllByRecursion (λ r. P r.root) rs → list_any (λ q. q.root == s) rs ≡ true → P s
rooted_at P [] s all some = absurd (cc)
rooted_at P (r ∷ rs) s all some =
    ⊎_elim (λ (e : (r.root == s) ≡ true). subst P (eqb-true r.root s e) all.0)
    (λ (e : (r.root == s) ≡ false). rooted_at P rs s all.1 (sym (ap (λ b. b || list_any (λ q. q.root == s) rs) e) ∙ some))
    (cases_Bool (r.root == s))

open_rooted : (rs : List Rooted) (s : ℕ) → AllByRecursion (λ r. is_among r.root (roots rs) ≡ true) rs → is_open rs s ≡ true → is_among s (roots rs) ≡ true
open_rooted rs s all is = ⊎_elim
    (λ (some : list_any (λ q. q.root == s) rs ≡ true). rooted_at (λ m. is_among m (roots rs) ≡ true) rs s all some)
    (λ (none : list_any (λ q. q.root == s) rs ≡ false). let bad : false ≡ true = sym (ap (last_unresolved false) (none_of rs s none)) ∙ is in absurd (cc))
    (cases_Bool (list_any (λ q. q.root == s) rs))

any_at : (p : ℕ → Bool) (xs : List ℕ) (s : ℕ) → is_among s xs ≡ true → p s ≡ true → list_any p xs ≡ true
any_at p [] s among is = absurd (cc)
any_at p (x ∷ xs) s among is =
    ⊎_elim (λ (e : (x == s) ≡ true). ap (λ b. b || list_any p xs) (ap p (eqb-true x s e) ∙ is))
    (λ (e : (x == s) ≡ false). ap (λ b. p x || b) (any_at p xs s (sym (ap (λ b. b || is_among s xs) e) ∙ among) is) ∙ or-true (p x))
    (cases_Bool (x == s))

some_at : (p : ℕ → Bool) (xs : List ℕ) → list_any p xs ≡ true → (s : ℕ) × (p s ≡ true)
some_at p [] is = absurd (cc)
some_at p (x ∷ xs) is = ⊎_elim (λ (e : p x ≡ true). (x, e)) (λ (e : p x ≡ false). some_at p xs (sym (ap (λ b. b || list_any p xs) e) ∙ is)) (cases_Bool (p x))

same_bools : (a b : Bool) → (a ≡ true → b ≡ true) → (b ≡ true → a ≡ true) → a ≡ b
same_bools true b to from = sym (to refl)
same_bools false true to from = from refl
same_bools false false to from = refl

any_thread : (rs : List Rooted) (xs : List ℕ) → list_any (λ t. t.unresolved) (map (thread_of rs) xs) ≡ list_any (is_open rs) xs
any_thread rs [] = refl
any_thread rs (x ∷ xs) = ap (λ b. is_open rs x || b) (any_thread rs xs)

pub unresolved_alike : (comments : List CommentRow) → has_unresolved (posts comments) ≡ list_any (λ t. t.unresolved) (threads comments)
unresolved_alike xs =
    let rs = rooted_rest [] xs in
    ap has_unresolved (threaded_is [] xs)
    ∙ (by_rooted [] xs
    ∙ (same_bools (ends_open rs) (list_any (is_open rs) (roots rs))
    (λ e. let at = ends_open_at rs e in any_at (is_open rs) (roots rs) at.0 (open_rooted rs at.0 (all_rooted xs) at.1) at.1)
    (λ e. let at = some_at (is_open rs) (roots rs) e in open_ends rs at.0 at.1)
    ∙ (sym (any_thread rs (roots rs)) ∙ ap (λ l. list_any (λ t. t.unresolved) (map (thread_of l) (roots l))) (sym (rooted_is xs)))))
