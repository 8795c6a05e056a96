-- A request keeps a change sound.
use lib.ListN.{length-map}
use Rattle.std.proofs.Common.{int_eq, ◌≡◌, ◌≤◌, ℕ, ◌+◌, true, nat_lt, arith, ◌&&◌, List, [], ◌∷◌, ◌++◌, length, map, Option, Some, None, refl, ℤ, Bool, false, sym, ◌∙◌, bytes_eq, if◌then◌else◌, is_some, not, ◌||◌, ap, eqb-true, ⊎_elim, ◌==◌, is_none, pos, eq-eqb, nat_le, lt-ltb, length-append}
use Rattle.std.proofs.lemmas.Bool.{not-false, and_right, and_parts, and_from, or_parts, cases_Bool}
use Rattle.std.proofs.lemmas.Bool.Decides.{Decides-int_eq, nat_tests}
use Rattle.std.specs.{List.list_any, Option.option_map_or}
use Rattle.review_names.specs.Forms.{is_within, most_patches, most_comments}
use Rattle.review_words.specs.declared.changes.{Given.Given, NewChange.NewChange, NewComment.NewComment}
use Rattle.review_words.specs.declared.changes.{NewPatch.NewPatch, Review.Review as ReviewOf, Role.Role}
use Rattle.review_words.specs.declared.changes.Role.TheVariants.{Reviewer, Cc}
use Rattle.review_words.specs.declared.command.ChangeCommand.{ChangeCommand}
use Rattle.review_words.specs.declared.command.ChangeCommand.TheVariants.{Upload, Review, AddReviewer, RemoveReviewer, AddAttention}
use Rattle.review_core_rules.specs.Change.{stored_as, message_of, given_or, Change, Copying, after_copying, settled, eligible, removes, uploader, writer_role, gives_vote, says_something, called_by, kept_or, begun, joined_at, current, reviewed, said, new_comments, carried}
use Rattle.review_core_rules.specs.{Sound.are_in_order, Sound.answer_stored, Sound.fits, Sound.IsSound, Votes.voted}
use Rattle.review_core_rules.specs.declared.rows.{AttentionEntry.AttentionEntry, CommentRow.CommentRow}
use Rattle.review_core_rules.specs.declared.rows.{PatchRow.PatchRow, Why.Why, Why.TheVariants.Told}

-- ==== numbers from 1 to a greatest one

pub within_parts : (most n : ℕ) → is_within most n ≡ true → (1 ≤ n) × (n ≤ most)
unfolding is_within
within_parts most n h = (grind (arith, nat_tests, h), grind (arith, nat_tests, h))

pub within_from : (most n : ℕ) → 1 ≤ n → n ≤ most → is_within most n ≡ true
unfolding is_within
within_from most n low high = grind (arith, nat_tests, low, high)

pub below : (n most : ℕ) → nat_lt n most ≡ true → n + 1 ≤ most
below n most h = grind (arith, nat_tests, h)

-- a number stays within more
pub within_more : (most more n : ℕ) → most ≤ more → is_within most n ≡ true → is_within more n ≡ true
within_more most more n le h = let p = within_parts most n h in within_from more n p.0 (omega (arith, le, p.1))

-- the next number, where there is one
pub within_next : (n most : ℕ) → nat_lt n most ≡ true → is_within most (n + 1) ≡ true
within_next n most h = within_from most (n + 1) (omega arith) (below n most h)

-- ==== comments in order

answers_more : (before more : ℕ) → before ≤ more → (o : Option ℕ) → option_map_or (λ k. is_within before k) o true ≡ true → option_map_or (λ k. is_within more k) o true ≡ true
answers_more before more le None h = refl
answers_more before more le (Some k) h = within_more before more k le h

-- on more patch sets
pub order_more : (patches more before : ℕ) → patches ≤ more → (xs : List CommentRow) → are_in_order patches before xs ≡ true → are_in_order more before xs ≡ true
order_more patches more before le [] h = refl
order_more patches more before le (x ∷ xs) h =
    let p = and_parts (is_within patches x.patch) (option_map_or (λ k. is_within before k) x.answers true && are_in_order patches (before + 1) xs) h in
    let q = and_parts (option_map_or (λ k. is_within before k) x.answers true) (are_in_order patches (before + 1) xs) p.1 in
    and_from (is_within more x.patch) (option_map_or (λ k. is_within before k) x.answers true && are_in_order more (before + 1) xs)
    (within_more patches more x.patch le p.0)
    (and_from (option_map_or (λ k. is_within before k) x.answers true) (are_in_order more (before + 1) xs) q.0 (order_more patches more (before + 1) le xs q.1))

-- new comments that answer stored ones
pub order_new : (patches stored before : ℕ) → stored ≤ before → (old : List CommentRow) (patch author request : ℕ) → is_within patches patch ≡ true →
    (new : List NewComment) → answer_stored stored new ≡ true → are_in_order patches before (map (stored_as old patch author request) new) ≡ true
order_new patches stored before le old patch author request there [] h = refl
order_new patches stored before le old patch author request there (n ∷ new) h =
    let p = and_parts (option_map_or (λ k. is_within stored k) n.in_reply_to true) (answer_stored stored new) h in
    and_from (is_within patches patch) (option_map_or (λ k. is_within before k) n.in_reply_to true && are_in_order patches (before + 1) (map (stored_as old patch author request) new)) there
    (and_from (option_map_or (λ k. is_within before k) n.in_reply_to true) (are_in_order patches (before + 1) (map (stored_as old patch author request) new))
    (answers_more stored before le n.in_reply_to p.0)
    (order_new patches stored (before + 1) (omega (arith, le)) old patch author request there new p.1))

-- a message answers none
pub said_stored : (stored : ℕ) (message : List ℕ) (new : List NewComment) → answer_stored stored new ≡ true → answer_stored stored (message_of message ++ new) ≡ true
said_stored stored [] new h = h
said_stored stored (b ∷ bs) new h = h

-- some comments after others
pub order_append : (patches before : ℕ) (xs ys : List CommentRow) → are_in_order patches before xs ≡ true → ((n : ℕ) → before + length xs ≤ n → are_in_order patches n ys ≡ true) → are_in_order patches before (xs ++ ys) ≡ true
order_append patches before [] ys h more = more before (omega arith)
order_append patches before (x ∷ xs) ys h more =
    let p = and_parts (is_within patches x.patch) (option_map_or (λ k. is_within before k) x.answers true && are_in_order patches (before + 1) xs) h in
    let q = and_parts (option_map_or (λ k. is_within before k) x.answers true) (are_in_order patches (before + 1) xs) p.1 in
    and_from (is_within patches x.patch) (option_map_or (λ k. is_within before k) x.answers true && are_in_order patches (before + 1) (xs ++ ys)) p.0
    (and_from (option_map_or (λ k. is_within before k) x.answers true) (are_in_order patches (before + 1) (xs ++ ys)) q.0
    (order_append patches (before + 1) xs ys q.1 (λ n le. more n (omega (arith, le)))))

-- ==== who votes has a role

-- what a choice gives, each way
pub where_true : (b : Bool) (x y : ℤ) → b ≡ true → voted (if b then x else y) ≡ true → voted x ≡ true
where_true b x y e h = let f : voted (if b then x else y) ≡ voted x = rw e refl in sym f ∙ h

pub where_false : (b : Bool) (x y : ℤ) → b ≡ false → voted (if b then x else y) ≡ true → voted y ≡ true
where_false b x y e h = let f : voted (if b then x else y) ≡ voted y = rw e refl in sym f ∙ h

-- a vote other than 0 that a review leaves, which gives none itself, was there before
pub given_before : (gs : List Given) (l : List ℕ) (v : ℤ) → list_any (λ g. voted g.value) gs ≡ false → voted (given_or gs l v) ≡ true → voted v ≡ true
given_before [] l v none h = h
given_before (g ∷ gs) l v none h =
    let p = or_parts (voted g.value) (list_any (λ x. voted x.value) gs) none in
    go (bytes_eq g.label l) p.0 (given_before gs l (if bytes_eq g.label l then g.value else v) p.1 h)
  where
    go : (b : Bool) → voted g.value ≡ false → voted (if b then g.value else v) ≡ true → voted v ≡ true
    go true zero set = absurd (let e : true ≡ false = sym set ∙ zero in cc)
    go false zero set = set

-- who writes a review that leaves him a vote has a role
pub writer_has : (gives says : Bool) (was : Option Role) (after before : ℤ) → (gives ≡ false → voted after ≡ true → voted before ≡ true) → (voted before ≡ true → is_some was ≡ true) → voted after ≡ true →
    is_some (if gives then Some Reviewer else if says then Some Cc else was) ≡ true
writer_has true says was after before back has h = refl
writer_has false true was after before back has h = refl
writer_has false false was after before back has h = has (back refl h)

-- ==== who is in the attention set is eligible

more_roles : (a b x y : Bool) → (x ≡ true → y ≡ true) → (a || (b || x)) ≡ true → (a || (b || y)) ≡ true
more_roles true b x y f h = refl
more_roles false true x y f h = refl
more_roles false false x y f h = f h

pub some_put : {X : Type 0} (b : Bool) (r : X) (o : Option X) → is_some o ≡ true → is_some (if b then Some r else o) ≡ true
some_put true r o h = refl
some_put false r o h = h

some_where : (b : Bool) (x o : Option Role) → (b ≡ true → is_some x ≡ true) → is_some o ≡ true → is_some (if b then x else o) ≡ true
some_where true x o f h = f refl
some_where false x o f h = h

some_written : (a b : Bool) (o : Option Role) → is_some o ≡ true → is_some (if a then Some Reviewer else if b then Some Cc else o) ≡ true
some_written true b o h = refl
some_written false true o h = refl
some_written false false o h = h

none_where : (b : Bool) (o : Option Role) → is_some (if b then None else o) ≡ (if b then false else is_some o)
none_where true o = refl
none_where false o = refl

moved : (v u : ℕ) (f : ℕ → Bool) → ((v == u) && not (f v)) ≡ ((v == u) && not (f u))
moved v u f = ⊎_elim
    (λ (e : (v == u) ≡ true). ap (λ x. (v == u) && not (f x)) (eqb-true v u e))
    (λ (e : (v == u) ≡ false). rw e refl)
    (cases_Bool (v == u))

-- a new patch set: the former uploader goes unless still eligible
sent : (a b n x : Bool) → (a || (b || x)) ≡ true → (b && not (a || (n || x))) ≡ false → (a || (n || x)) ≡ true
sent true b n x h k = refl
sent false b true x h k = refl
sent false b false true h k = refl
sent false true false false h k = absurd (let e : true ≡ false = k in cc)
sent false false false false h k = h

-- who is eligible stays so, or is taken out
stays_eligible : (k : Copying) (command : ChangeCommand) (caller request : ℕ) (c : Change) (u : ℕ) → eligible c u ≡ true →
    removes command caller c (settled k command caller request c) u ≡ false → eligible (settled k command caller request c) u ≡ true
stays_eligible k (Upload p) caller request c u h out =
    sent (c.owner == u) (uploader c == u) (uploader (settled k (Upload p) caller request c) == u) (is_some (c.role u)) h
    (sym (moved (uploader c) u (eligible (settled k (Upload p) caller request c))) ∙ out)
stays_eligible k (Review r) caller request c u h out =
    more_roles (c.owner == u) (uploader c == u) (is_some (c.role u)) (is_some (if caller == u then writer_role r c.owner caller (c.role caller) else c.role u))
    (λ has. some_where (caller == u) (writer_role r c.owner caller (c.role caller)) (c.role u)
    (λ same. some_written (gives_vote r) (says_something r && (not (caller == c.owner) && is_none (c.role caller))) (c.role caller) (ap (λ x. is_some (c.role x)) (eqb-true caller u same) ∙ has)) has) h
stays_eligible k (AddReviewer v role) caller request c u h out =
    more_roles (c.owner == u) (uploader c == u) (is_some (c.role u)) (is_some (if v == u then Some role else c.role u)) (some_put (v == u) role (c.role u)) h
stays_eligible k (RemoveReviewer v) caller request c u h out =
    ap (λ b. (c.owner == u) || ((uploader c == u) || b)) (none_where (v == u) (c.role u))
    ∙ go (v == u) (c.owner == u) (uploader c == u) (is_some (c.role u)) h (sym (moved v u (λ x. (c.owner == x) || (uploader c == x))) ∙ out)
  where
    go : (same a b x : Bool) → (a || (b || x)) ≡ true → (same && not (a || b)) ≡ false → (a || (b || (if same then false else x))) ≡ true
    go same true b x h k = refl
    go same false true x h k = refl
    go true false false x h k = absurd (let e : true ≡ false = k in cc)
    go false false false x h k = h
stays_eligible k _ caller request c u h out = h

by_rule : (e x : Bool) (w : Option Why) → is_some (if e && x then w else None) ≡ true → e ≡ true
by_rule true x w h = refl
by_rule false x w h = absurd (let e : false ≡ true = h in cc)

-- whom a request calls is eligible, by the rules or by what it has to be
called_eligible : (k : Copying) (command : ChangeCommand) (caller request : ℕ) (c : Change) (u : ℕ) → fits command c ≡ true →
    is_some (called_by k command caller request c (settled k command caller request c) u) ≡ true → eligible (settled k command caller request c) u ≡ true
called_eligible k (AddAttention v reason) caller request c u fit h = ⊎_elim
    (λ (e : (v == u) ≡ true). ap (eligible c) (sym (eqb-true v u e)) ∙ fit)
    (λ (e : (v == u) ≡ false). let f : is_some (if v == u then Some (Told reason) else None) ≡ false = rw e refl in absurd (cc))
    (cases_Bool (v == u))
called_eligible k command caller request c u fit h =
    by_rule (eligible (settled k command caller request c) u) (not (caller == u) && not (settled k command caller request c).wip) _ h

in_by : (gone : Bool) (was : Option AttentionEntry) (w : Option Why) (n : ℕ) (E : Bool) → (gone ≡ false → is_some was ≡ true → E ≡ true) → (is_some w ≡ true → E ≡ true) →
    is_some (kept_or (if gone then None else was) w n) ≡ true → E ≡ true
in_by true was None n E f g h = absurd (let e : false ≡ true = h in cc)
in_by true was (Some w) n E f g h = g refl
in_by false None None n E f g h = absurd (let e : false ≡ true = h in cc)
in_by false None (Some w) n E f g h = g refl
in_by false (Some o) w n E f g h = f refl refl

pub all_eligible : (k : Copying) (command : ChangeCommand) (caller request : ℕ) (c : Change) → fits command c ≡ true →
    ((u : ℕ) → is_some (c.attention u) ≡ true → eligible c u ≡ true) → (u : ℕ) → is_some ((after_copying k command caller request c).attention u) ≡ true → eligible (after_copying k command caller request c) u ≡ true
all_eligible k command caller request c fit before u h =
    in_by (removes command caller c (settled k command caller request c) u) (c.attention u) (called_by k command caller request c (settled k command caller request c) u) request (eligible (settled k command caller request c) u)
    (λ stays in_before. stays_eligible k command caller request c u (before u in_before) stays)
    (called_eligible k command caller request c u fit)
    h

-- who has a role is eligible
pub role_eligible : (a b x : Bool) → x ≡ true → (a || (b || x)) ≡ true
role_eligible true b x h = refl
role_eligible false true x h = refl
role_eligible false false x h = h

-- ==== a request keeps a change sound

longer : (ps : List PatchRow) (p : PatchRow) → length (ps ++ p ∷ []) ≡ length ps + 1
longer ps p = length-append ps (p ∷ [])

-- ---- a new patch set

sent_patches : (n m : ℕ) → m ≡ n + 1 → nat_lt n most_patches ≡ true → is_within most_patches m ≡ true
sent_patches n m e fit = ap (is_within most_patches) e ∙ within_next n most_patches fit

carried_voted : (k : Copying) (c : Change) (l : List ℕ) (a : ℕ) → voted (carried k c l a) ≡ true → voted (c.vote (current c) l a) ≡ true
carried_voted k c l a h = ⊎_elim
    (λ (e : k.copies l a (c.vote (current c) l a) ≡ true). where_true (k.copies l a (c.vote (current c) l a)) (c.vote (current c) l a) (pos 0) e h)
    (λ (e : k.copies l a (c.vote (current c) l a) ≡ false). absurd (let f : false ≡ true = where_false (k.copies l a (c.vote (current c) l a)) (c.vote (current c) l a) (pos 0) e h in cc))
    (cases_Bool (k.copies l a (c.vote (current c) l a)))

sent_on : (c : Change) (m n : ℕ) (new old : ℤ) → m ≡ current c + 1 → nat_lt (current c) most_patches ≡ true → (voted old ≡ true → is_within (current c) n ≡ true) →
    voted (if current c + 1 == n then new else old) ≡ true → is_within m n ≡ true
sent_on c m n new old e fit before h = ⊎_elim
    (λ (y : (current c + 1 == n) ≡ true). ap (λ x. is_within x n) e ∙ (ap (λ x. is_within (current c + 1) x) (sym (eqb-true (current c + 1) n y)) ∙ within_next (current c) (current c + 1) (tested (current c))))
    (λ (f : (current c + 1 == n) ≡ false). ap (λ x. is_within x n) e ∙ within_more (current c) (current c + 1) n (omega arith) (before (where_false (current c + 1 == n) new old f h)))
    (cases_Bool (current c + 1 == n))
  where
    tested : (n : ℕ) → nat_lt n (n + 1) ≡ true
    tested n = lt-ltb n (n + 1) (omega arith)

sent_voters : (k : Copying) (c : Change) (m : ℕ) (l : List ℕ) (a : ℕ) → m ≡ current c + 1 → (voted (c.vote (current c) l a) ≡ true → is_some (c.role a) ≡ true) →
    voted (if current c + 1 == m then carried k c l a else c.vote m l a) ≡ true → is_some (c.role a) ≡ true
sent_voters k c m l a e before h = before (carried_voted k c l a (where_true (current c + 1 == m) (carried k c l a) (c.vote m l a) (eq-eqb (current c + 1) m (sym e)) h))

sent_sound : (k : Copying) (p : NewPatch) (caller request : ℕ) (c : Change) → IsSound c → nat_lt (current c) most_patches ≡ true → IsSound (after_copying k (Upload p) caller request c)
sent_sound k p caller request c s fit =
    let row : PatchRow = record { commit = p.commit; parent = p.parent; kind = p.kind; uploader = caller; paths = p.paths } in
    let e : length (c.patches ++ row ∷ []) ≡ current c + 1 = longer c.patches row in
    record {
      patches = sent_patches (current c) (length (c.patches ++ row ∷ [])) e fit;
      comments = s.comments;
      on_patches = λ n l a h. sent_on c (length (c.patches ++ row ∷ [])) n (carried k c l a) (c.vote n l a) e fit (s.on_patches n l a) h;
      in_order = order_more (current c) (length (c.patches ++ row ∷ [])) 0 (omega (arith, e)) c.comments s.in_order;
      voters = λ l a h. sent_voters k c (length (c.patches ++ row ∷ [])) l a e (s.voters l a) h;
      attending = all_eligible k (Upload p) caller request c fit s.attending;
    }

-- ---- a review

reviewed_on : (r : ReviewOf) (caller : ℕ) (c : Change) (n : ℕ) (l : List ℕ) (a : ℕ) → is_within (current c) (reviewed r c) ≡ true → (voted (c.vote n l a) ≡ true → is_within (current c) n ≡ true) →
    voted (if (reviewed r c == n) && (caller == a) then given_or r.labels l (c.vote n l a) else c.vote n l a) ≡ true → is_within (current c) n ≡ true
reviewed_on r caller c n l a there before h = ⊎_elim
    (λ (y : ((reviewed r c == n) && (caller == a)) ≡ true). ap (is_within (current c)) (sym (eqb-true (reviewed r c) n (and_parts (reviewed r c == n) (caller == a) y).0)) ∙ there)
    (λ (f : ((reviewed r c == n) && (caller == a)) ≡ false). before (where_false ((reviewed r c == n) && (caller == a)) (given_or r.labels l (c.vote n l a)) (c.vote n l a) f h))
    (cases_Bool ((reviewed r c == n) && (caller == a)))

given_where : (b d : Bool) (x v : ℤ) → (voted x ≡ true → voted v ≡ true) → voted (if b && d then x else v) ≡ true → voted v ≡ true
given_where true true x v back h = back h
given_where true false x v back h = h
given_where false d x v back h = h

role_at : (b : Bool) (x y : Option Role) → b ≡ true → is_some x ≡ true → is_some (if b then x else y) ≡ true
role_at b x y e h = let f : is_some (if b then x else y) ≡ is_some x = rw e refl in f ∙ h

role_not : (b : Bool) (x y : Option Role) → b ≡ false → is_some y ≡ true → is_some (if b then x else y) ≡ true
role_not b x y e h = let f : is_some (if b then x else y) ≡ is_some y = rw e refl in f ∙ h

reviewed_voters : (r : ReviewOf) (caller : ℕ) (c : Change) (l : List ℕ) (a : ℕ) → (voted (c.vote (current c) l a) ≡ true → is_some (c.role a) ≡ true) →
    voted (if (reviewed r c == current c) && (caller == a) then given_or r.labels l (c.vote (current c) l a) else c.vote (current c) l a) ≡ true →
    is_some (if caller == a then writer_role r c.owner caller (c.role caller) else c.role a) ≡ true
reviewed_voters r caller c l a before h = ⊎_elim
    (λ (y : (caller == a) ≡ true).
    let same = eqb-true caller a y in
    role_at (caller == a) (writer_role r c.owner caller (c.role caller)) (c.role a) y
    (writer_has (gives_vote r) (says_something r && (not (caller == c.owner) && is_none (c.role caller))) (c.role caller)
    (if (reviewed r c == current c) && (caller == a) then given_or r.labels l (c.vote (current c) l a) else c.vote (current c) l a) (c.vote (current c) l a)
    (λ none now. given_where (reviewed r c == current c) (caller == a) (given_or r.labels l (c.vote (current c) l a)) (c.vote (current c) l a) (given_before r.labels l (c.vote (current c) l a) none) now)
    (λ had. ap (λ x. is_some (c.role x)) same ∙ before had) h))
    (λ (f : (caller == a) ≡ false).
    role_not (caller == a) (writer_role r c.owner caller (c.role caller)) (c.role a) f
    (before (where_false ((reviewed r c == current c) && (caller == a)) (given_or r.labels l (c.vote (current c) l a)) (c.vote (current c) l a) (and_right (reviewed r c == current c) (caller == a) f) h)))
    (cases_Bool (caller == a))

reviewed_sound : (k : Copying) (r : ReviewOf) (caller request : ℕ) (c : Change) → IsSound c → fits (Review r) c ≡ true → IsSound (after_copying k (Review r) caller request c)
reviewed_sound k r caller request c s fit =
    let p = and_parts (is_within (current c) (reviewed r c)) (answer_stored (length c.comments) r.comments && nat_le (length c.comments + length (said r)) most_comments) fit in
    let q = and_parts (answer_stored (length c.comments) r.comments) (nat_le (length c.comments + length (said r)) most_comments) p.1 in
    let count : length (c.comments ++ new_comments r caller request c) ≡ length c.comments + length (said r) =
    length-append c.comments (new_comments r caller request c) ∙ ap (λ n. length c.comments + n) (length-map (said r) (stored_as c.comments (reviewed r c) caller request)) in
    record {
      patches = s.patches;
      comments = ap (λ n. nat_le n most_comments) count ∙ q.1;
      on_patches = λ n l a h. reviewed_on r caller c n l a p.0 (s.on_patches n l a) h;
      in_order = order_append (current c) 0 c.comments (new_comments r caller request c) s.in_order
          (λ n le. order_new (current c) (length c.comments) n (omega (arith, le)) c.comments (reviewed r c) caller request p.0 (said r) (said_stored (length c.comments) r.message r.comments q.0));
      voters = λ l a h. reviewed_voters r caller c l a (s.voters l a) h;
      attending = all_eligible k (Review r) caller request c fit s.attending;
    }

-- ---- a reviewer added or removed

removed_voters : (here same : Bool) (v : ℤ) (was : Option Role) → here ≡ true → (voted v ≡ true → is_some was ≡ true) → voted (if here && same then pos 0 else v) ≡ true → is_some (if same then None else was) ≡ true
removed_voters true true v was e before h = absurd (let f : false ≡ true = h in cc)
removed_voters true false v was e before h = before h
removed_voters false same v was e before h = absurd (let f : false ≡ true = e in cc)

pub removed_on : (b : Bool) (v : ℤ) → voted (if b then pos 0 else v) ≡ true → voted v ≡ true
removed_on true v h = absurd (let f : false ≡ true = h in cc)
removed_on false v h = h

-- ---- any request

pub stays : (k : Copying) (command : ChangeCommand) (caller request : ℕ) (c : Change) → IsSound c → fits command c ≡ true → IsSound (after_copying k command caller request c)
stays k (Upload p) caller request c s fit = sent_sound k p caller request c s fit
stays k (Review r) caller request c s fit = reviewed_sound k r caller request c s fit
stays k (AddReviewer v role) caller request c s fit = record {
  patches = s.patches;
  comments = s.comments;
  on_patches = s.on_patches;
  in_order = s.in_order;
  voters = λ l a h. some_put (v == a) role (c.role a) (s.voters l a h);
  attending = all_eligible k (AddReviewer v role) caller request c fit s.attending;
}
stays k (RemoveReviewer v) caller request c s fit = record {
  patches = s.patches;
  comments = s.comments;
  on_patches = λ n l a h. s.on_patches n l a (removed_on ((current c == n) && (v == a)) (c.vote n l a) h);
  in_order = s.in_order;
  voters = λ l a h. removed_voters (current c == current c) (v == a) (c.vote (current c) l a) (c.role a) (eq-eqb (current c) (current c) refl) (s.voters l a) h;
  attending = all_eligible k (RemoveReviewer v) caller request c fit s.attending;
}
stays k command caller request c s fit = record {
  patches = s.patches;
  comments = s.comments;
  on_patches = s.on_patches;
  in_order = s.in_order;
  voters = s.voters;
  attending = all_eligible k command caller request c fit s.attending;
}

pub begins : (n : NewChange) (caller request : ℕ) → IsSound (begun n caller request)
begins n caller request = record {
  patches = one;
  comments = refl;
  on_patches = λ m l a h. absurd (let e : false ≡ true = h in cc);
  in_order = refl;
  voters = λ l a h. absurd (let e : false ≡ true = h in cc);
  attending = λ u h. absurd (let e : false ≡ true = h in cc);
}
  where
    one : is_within most_patches 1 ≡ true
    one = within_next 0 most_patches refl

pub joins : (place request : ℕ) (c : Change) → IsSound c → IsSound (joined_at place request c)
joins place request c s = record {
  patches = s.patches;
  comments = s.comments;
  on_patches = s.on_patches;
  in_order = s.in_order;
  voters = s.voters;
  attending = λ u h. absurd (let e : false ≡ true = h in cc);
}

-- a vote that isn't one is 0
pub zero_of : (v : ℤ) → voted v ≡ false → v ≡ pos 0
zero_of v e = (Decides-int_eq v (pos 0)).0 (not-false (int_eq v (pos 0)) e)
