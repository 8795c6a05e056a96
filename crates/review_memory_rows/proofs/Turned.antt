-- What edits make of the tables of a change.
use Rattle.std.proofs.Common.{drop-cons, append_assoc, ◌≡◌, ℕ, ◌==◌, List, [], ◌∷◌, Option, Some, None, Bool, true, false, cond, ◌&&◌, refl, sym, ap, ◌∙◌, eqb-true, All, IsSome, is_some, nat_cmp, suc, arith, ◌+◌, ◌<◌, ◌++◌, length, drop, get_or, subst, flat_map, ℤ, option_map}
use Rattle.std.proofs.lemmas.List.Elements.{All-push}
use Rattle.review_table.specs.Rows.{after_row_edit, changed, flat, row_edit_of, row_in, rows_of}
use Rattle.review_core_rules.specs.Parts.{Part, TheHeader, PatchOf, VoteOf, RoleOf, CommentOf, AttentionOf, PartRow, AHeader, APatch, ARole, AComment, AnAttentionEntry, part_row}
use Rattle.review_core_rules.specs.declared.rows.AttentionEntry.{AttentionEntry}
use Rattle.review_machine_rows.proofs.Common.{APart, All-from_recursion, Change, CommentRow, PatchRow, Role, RowEdit, VoteKey, edited, is_at, nat_tests, option_or, part_change, unsigned_tied, vote_cmp, vote_row}
use Rattle.review_machine_rows.proofs.Joins.{part_from}
use Rattle.review_machine_rows.specs.{Known.HasChange, declared.rows.ChangeEdit.ChangeEdit}
use Rattle.review_machine_change_rows.specs.Tables.{part_in, HaveFault, Show}
use Rattle.review_machine_change_rows.specs.declared.loading.ChangeFault.{ChangeFault}
use Rattle.review_machine_change_rows.specs.declared.loading.ChangeFault.TheVariants.{Memory, Gap}
use Rattle.review_machine_change_rows.specs.declared.tables.ChangeTables.{ChangeTables}
use Rattle.review_memory_rows.specs.Kept.{made, part_at, part_where, renewed, renewed_at, renewed_by, sent_by, sent_in, with_sent, AreEdited, IsPrepared, row_of, IsUnread}
use Rattle.review_memory_rows.specs.declared.{edits.NewTables.NewTables, kept.Prepared.Prepared, kept.SentKey.SentKey}

-- ==== what edits make of the tables of changes

-- one item more at the end of a list is found where none before it is
pushed_edit : {X : Type 0} (cs : List (RowEdit ℕ X)) (c : RowEdit ℕ X) (n : ℕ) → row_edit_of nat_cmp (cs ++ c ∷ []) n ≡ option_or (row_edit_of nat_cmp cs n) (cond (c.key == n) (Some c.row) None)
pushed_edit [] c n = ap (λ b. cond b (Some c.row) None) (unsigned_tied c.key n)
pushed_edit (d ∷ cs) c n = by (is_at (nat_cmp d.key) n) (pushed_edit cs c n)
  where
    by : (b : Bool) → row_edit_of nat_cmp (cs ++ c ∷ []) n ≡ option_or (row_edit_of nat_cmp cs n) (cond (c.key == n) (Some c.row) None) →
        cond b (Some d.row) (row_edit_of nat_cmp (cs ++ c ∷ []) n) ≡ option_or (cond b (Some d.row) (row_edit_of nat_cmp cs n)) (cond (c.key == n) (Some c.row) None)
    by true later = refl
    by false later = later

pushed_row : {X : Type 0} (rows : List (ℕ × X)) (k : ℕ) (x : X) (n : ℕ) → row_in nat_cmp (rows ++ (k, x) ∷ []) n ≡ option_or (row_in nat_cmp rows n) (cond (k == n) (Some x) None)
pushed_row [] k x n = ap (λ b. cond b (Some x) None) (unsigned_tied n k ∙ turned_round n k)
  where
    turned_round : (a b : ℕ) → (a == b) ≡ (b == a)
    turned_round a b = grind (arith, nat_tests)
pushed_row (r ∷ rows) k x n = by (is_at (nat_cmp n) r.0) (pushed_row rows k x n)
  where
    by : (b : Bool) → row_in nat_cmp (rows ++ (k, x) ∷ []) n ≡ option_or (row_in nat_cmp rows n) (cond (k == n) (Some x) None) →
        cond b (Some r.1) (row_in nat_cmp (rows ++ (k, x) ∷ []) n) ≡ option_or (cond b (Some r.1) (row_in nat_cmp rows n)) (cond (k == n) (Some x) None)
    by true later = refl
    by false later = later

drop_one : {X : Type 0} (xs : List X) (i : ℕ) (d : X) → i < length xs → drop i xs ≡ get_or xs i d ∷ drop (i + 1) xs
drop_one xs i d below = let e : suc i ≡ i + 1 = omega arith in drop-cons xs i d below ∙ ap (λ n. get_or xs i d ∷ drop n xs) e

-- a row of a change, of which what is prepared says all or nothing; the edits that are left say the rest. In the end it is to be the last
abbrev pub IsSoFar : Option ChangeTables → Option (Option ChangeTables) → Option NewTables → Part → Option (Option PartRow) → Option PartRow → Type 0
IsSoFar None None None part left end = after_row_edit left None ≡ end
IsSoFar None (Some begun) None part left end = part_where begun part ≡ end
IsSoFar (Some t) None None part left end = after_row_edit left (part_in t part) ≡ end
IsSoFar (Some t) None (Some new) part left end = part_in (renewed t new) part ≡ end
IsSoFar _ _ _ part left end = ⊥

-- what was prepared of the first edits, where others are left
pub record ArePreparedSoFar (kept : List (ℕ × ChangeTables)) (es left : List ChangeEdit) (begun : List (RowEdit ℕ ChangeTables)) (renewed : List (ℕ × NewTables)) : Type 0 where
  pub tables : (n : ℕ) (part : Part) → IsSoFar (row_in nat_cmp kept n) (row_edit_of nat_cmp begun n) (row_in nat_cmp renewed n) part (edited left n part) (after_row_edit (edited es n part) (part_at kept n part))
  pub some : All (λ c. IsSome c.row) begun

first_so_far : (o : Option ChangeTables) (part : Part) (left : Option (Option PartRow)) → IsSoFar o None None part left (after_row_edit left (part_where o part))
first_so_far None part left = refl
first_so_far (Some t) part left = refl

-- nothing is prepared at first
pub prepared_first : (kept : List (ℕ × ChangeTables)) (es left : List ChangeEdit) (begun : List (RowEdit ℕ ChangeTables)) (renewed : List (ℕ × NewTables)) → left ≡ es → begun ≡ [] → renewed ≡ [] → ArePreparedSoFar kept es left begun renewed
prepared_first kept es left begun renewed all no_begun no_renewed =
    subst (λ l. ArePreparedSoFar kept es l begun renewed) (sym all)
    (subst (λ cs. ArePreparedSoFar kept es es cs renewed) (sym no_begun)
    (subst (ArePreparedSoFar kept es es []) (sym no_renewed) (record {
      tables = λ n part. first_so_far (row_in nat_cmp kept n) part (edited es n part);
      some = All-from_recursion (λ (c : RowEdit ℕ ChangeTables). IsSome c.row) [] tt;
    })))

-- an edit of a change that wasn't there
begun_so_far : (e : ChangeEdit) (t : ChangeTables) → AreEdited (λ part. None) e t → (b : Bool) (o : Option ChangeTables) → (b ≡ true → o ≡ None) → (x : Option (Option ChangeTables)) (y : Option NewTables) (part : Part) (left : Option (Option PartRow)) (end : Option PartRow) →
    IsSoFar o x y part (cond b (part_change e part) left) end → IsSoFar o (option_or x (cond b (Some (Some t)) None)) y part left end
begun_so_far e t does false o at None y part left end so = so
begun_so_far e t does false o at (Some x) y part left end so = so
begun_so_far e t does true (Some was) at x y part left end so = absurd (let f = at refl in cc)
begun_so_far e t does true None at None None part left end so = does part ∙ so
begun_so_far e t does true None at None (Some y) part left end so = absurd so
begun_so_far e t does true None at (Some x) None part left end so = so
begun_so_far e t does true None at (Some x) (Some y) part left end so = absurd so

-- and one of a change that was
renewed_so_far : (e : ChangeEdit) (t : ChangeTables) (new : NewTables) → AreEdited (part_in t) e (renewed t new) → (b : Bool) (o : Option ChangeTables) → (b ≡ true → o ≡ Some t) → (x : Option (Option ChangeTables)) (y : Option NewTables) (part : Part) (left : Option (Option PartRow)) (end : Option PartRow) →
    IsSoFar o x y part (cond b (part_change e part) left) end → IsSoFar o x (option_or y (cond b (Some new) None)) part left end
renewed_so_far e t new does false o at x None part left end so = so
renewed_so_far e t new does false o at x (Some y) part left end so = so
renewed_so_far e t new does true None at x y part left end so = absurd (let f = at refl in cc)
renewed_so_far e t new does true (Some was) at (Some x) y part left end so = absurd so
renewed_so_far e t new does true (Some was) at None (Some y) part left end so = so
renewed_so_far e t new does true (Some was) at None None part left end so =
    let same : was ≡ t = let f = at refl in cc in
    ap (λ x. part_in (renewed x new) part) same ∙ does part ∙ ap (λ x. after_row_edit (part_change e part) (part_in x part)) (sym same) ∙ so

-- one edit more
pub prepared_more : (kept : List (ℕ × ChangeTables)) (es left rest : List ChangeEdit) (e : ChangeEdit) (begun begun_then : List (RowEdit ℕ ChangeTables)) (renewed renewed_then : List (ℕ × NewTables)) → left ≡ e ∷ rest →
    IsPrepared (row_in nat_cmp kept e.change) e begun begun_then renewed renewed_then → ArePreparedSoFar kept es left begun renewed → ArePreparedSoFar kept es rest begun_then renewed_then
prepared_more kept es left rest e begun begun_then renewed renewed_then first is before = by (row_in nat_cmp kept e.change) refl is
  where
    so : ArePreparedSoFar kept es (e ∷ rest) begun renewed
    so = subst (λ l. ArePreparedSoFar kept es l begun renewed) first before

    at : (o : Option ChangeTables) → row_in nat_cmp kept e.change ≡ o → (n : ℕ) → (e.change == n) ≡ true → row_in nat_cmp kept n ≡ o
    at o there n same = ap (row_in nat_cmp kept) (sym (eqb-true e.change n same)) ∙ there

    by : (o : Option ChangeTables) → row_in nat_cmp kept e.change ≡ o → IsPrepared o e begun begun_then renewed renewed_then → ArePreparedSoFar kept es rest begun_then renewed_then
    by None there is = subst (λ cs. ArePreparedSoFar kept es rest cs renewed_then) (sym is.0.listed) (subst (ArePreparedSoFar kept es rest (begun ++ record { key = e.change; row = Some is.0.tables } ∷ [])) (sym is.1) (record {
      tables = λ n part.
          subst (λ x. IsSoFar (row_in nat_cmp kept n) x (row_in nat_cmp renewed n) part (edited rest n part) (after_row_edit (edited es n part) (part_at kept n part))) (sym (pushed_edit begun (record { key = e.change; row = Some is.0.tables }) n))
          (begun_so_far e is.0.tables is.0.edited (e.change == n) (row_in nat_cmp kept n) (at None there n) (row_edit_of nat_cmp begun n) (row_in nat_cmp renewed n) part (edited rest n part) (after_row_edit (edited es n part) (part_at kept n part)) (so.tables n part));
      some = All-push (λ (c : RowEdit ℕ ChangeTables). IsSome c.row) begun (record { key = e.change; row = Some is.0.tables }) so.some refl;
    }))
    by (Some t) there is = subst (λ cs. ArePreparedSoFar kept es rest cs renewed_then) (sym is.1) (subst (ArePreparedSoFar kept es rest begun) (sym is.0.listed) (record {
      tables = λ n part.
          subst (λ y. IsSoFar (row_in nat_cmp kept n) (row_edit_of nat_cmp begun n) y part (edited rest n part) (after_row_edit (edited es n part) (part_at kept n part))) (sym (pushed_row renewed e.change is.0.tables n))
          (renewed_so_far e t is.0.tables is.0.edited (e.change == n) (row_in nat_cmp kept n) (at (Some t) there n) (row_edit_of nat_cmp begun n) (row_in nat_cmp renewed n) part (edited rest n part) (after_row_edit (edited es n part) (part_at kept n part)) (so.tables n part));
      some = so.some;
    }))

-- where no edit is left, what was prepared makes what all of them make
prepared_all : (o : Option ChangeTables) (x : Option (Option ChangeTables)) (y : Option NewTables) (part : Part) (end : Option PartRow) → IsSoFar o x y part None end → part_where (option_map (renewed_by y) (after_row_edit x o)) part ≡ end
prepared_all None None None part end so = so
prepared_all None (Some None) None part end so = so
prepared_all None (Some (Some t)) None part end so = so
prepared_all (Some t) None None part end so = so
prepared_all (Some t) None (Some new) part end so = so
prepared_all None None (Some y) part end so = absurd so
prepared_all None (Some x) (Some y) part end so = absurd so
prepared_all (Some t) (Some x) y part end so = absurd so

pub prepared_end : (kept : List (ℕ × ChangeTables)) (es left : List ChangeEdit) (p : Prepared) → left ≡ [] → ArePreparedSoFar kept es left p.begun.items p.renewed.items → (n : ℕ) (part : Part) →
    part_where (made p n (row_in nat_cmp kept n)) part ≡ after_row_edit (edited es n part) (part_at kept n part)
prepared_end kept es left p none so n part =
    let goal = after_row_edit (edited es n part) (part_at kept n part) in
    prepared_all (row_in nat_cmp kept n) (row_edit_of nat_cmp p.begun.items n) (row_in nat_cmp p.renewed.items n) part goal
    (subst (λ l. IsSoFar (row_in nat_cmp kept n) (row_edit_of nat_cmp p.begun.items n) (row_in nat_cmp p.renewed.items n) part (edited l n part) goal) none (so.tables n part))

-- ==== what is prepared takes the place of what was there

-- the first of those that are left
pub first_left : {X : Type 0} (rows : List (ℕ × X)) (i : ℕ) (row : ℕ × X) (n : ℕ) → i < length rows → row ≡ get_or rows i row → is_some (row_in nat_cmp (drop i rows) n) ≡ is_some (cond (n == row.0) (Some row.1) (row_in nat_cmp (drop (i + 1) rows) n))
first_left rows i row n below item =
    ap (λ xs. is_some (row_in nat_cmp xs n)) (drop_one rows i row below ∙ ap (λ x. x ∷ drop (i + 1) rows) (sym item)) ∙ ap (λ b. is_some (cond b (Some row.1) (row_in nat_cmp (drop (i + 1) rows) n))) (unsigned_tied n row.0)

unless_earlier : {X : Type 0} (x : Option X) (b : Bool) (new : X) → (b ≡ true → is_some x ≡ true) → option_or x (cond b (Some new) None) ≡ x
unless_earlier (Some x) b new earlier = refl
unless_earlier None false new earlier = refl
unless_earlier None true new earlier = absurd (let f = earlier refl in cc)

-- a change that an earlier one names stays as it is
pub earlier_stays : (changes : List (ℕ × NewTables)) (k : ℕ) (new : NewTables) → is_some (row_in nat_cmp changes k) ≡ true → (n : ℕ) (was : Option ChangeTables) → renewed_at changes n was ≡ renewed_at (changes ++ (k, new) ∷ []) n was
earlier_stays changes k new earlier n was =
    ap (λ y. option_map (renewed_by y) was) (sym (pushed_row changes k new n ∙ unless_earlier (row_in nat_cmp changes n) (k == n) new (λ same. ap (λ m. is_some (row_in nat_cmp changes m)) (sym (eqb-true k n same)) ∙ earlier)))

-- and another one gets what is made of it
pub first_renewed : (changes : List (ℕ × NewTables)) (k : ℕ) (new : NewTables) (old after : List (ℕ × ChangeTables)) → is_some (row_in nat_cmp changes k) ≡ false →
    ((n : ℕ) → row_in nat_cmp after n ≡ cond (is_at (nat_cmp k) n) (option_map (λ t. renewed t new) (row_in nat_cmp old k)) (row_in nat_cmp old n)) → (n : ℕ) →
    renewed_at changes n (row_in nat_cmp after n) ≡ renewed_at (changes ++ (k, new) ∷ []) n (row_in nat_cmp old n)
first_renewed changes k new old after none put n =
    ap (renewed_at changes n) (put n ∙ ap (λ b. cond b (option_map (λ t. renewed t new) (row_in nat_cmp old k)) (row_in nat_cmp old n)) (unsigned_tied k n))
    ∙ by (k == n) refl ∙ ap (λ y. option_map (renewed_by y) (row_in nat_cmp old n)) (sym (pushed_row changes k new n))
  where
    here : (y : Option NewTables) (was : Option ChangeTables) → is_some y ≡ false → option_map (renewed_by y) (option_map (λ t. renewed t new) was) ≡ option_map (renewed_by (option_or y (Some new))) was
    here (Some y) was none = absurd (cc)
    here None None none = refl
    here None (Some t) none = refl

    or_none : (y : Option NewTables) → y ≡ option_or y None
    or_none None = refl
    or_none (Some y) = refl

    by : (b : Bool) → (k == n) ≡ b → renewed_at changes n (cond b (option_map (λ t. renewed t new) (row_in nat_cmp old k)) (row_in nat_cmp old n)) ≡ option_map (renewed_by (option_or (row_in nat_cmp changes n) (cond (k == n) (Some new) None))) (row_in nat_cmp old n)
    by true same =
        subst (λ m. option_map (renewed_by (row_in nat_cmp changes m)) (option_map (λ t. renewed t new) (row_in nat_cmp old k)) ≡ option_map (renewed_by (option_or (row_in nat_cmp changes m) (Some new))) (row_in nat_cmp old m)) (eqb-true k n same)
        (here (row_in nat_cmp changes k) (row_in nat_cmp old k) none)
        ∙ ap (λ b. option_map (renewed_by (option_or (row_in nat_cmp changes n) (cond b (Some new) None))) (row_in nat_cmp old n)) (sym same)
    by false other =
        ap (λ y. option_map (renewed_by y) (row_in nat_cmp old n)) (or_none (row_in nat_cmp changes n))
        ∙ ap (λ b. option_map (renewed_by (option_or (row_in nat_cmp changes n) (cond b (Some new) None))) (row_in nat_cmp old n)) (sym other)

-- a row that is taken out and put back at its place
pub put_back : {X : Type 0} (place at : Bool) (row : X) (was mid after : Option X) → place ≡ true → mid ≡ cond at None was → after ≡ cond (place && at) (Some row) mid → after ≡ cond at (Some row) was
put_back place at row was mid after there taken put = put ∙ (λ i. cond (there i && at) (Some row) (taken i)) ∙ once at
  where
    once : (b : Bool) → cond b (Some row) (cond b None was) ≡ cond b (Some row) was
    once true = refl
    once false = refl

-- a row has a place
pub row_has_place : {X : Type 0} (o : Option (Option X)) (row : X) → flat o ≡ Some row → is_some o ≡ true
row_has_place None row is = absurd (cc)
row_has_place (Some x) row is = refl

-- ==== lists of edits and of keys, one more each

with_apart : (n p : ℕ) (row : Option PatchRow) (rest : List (RowEdit SentKey (Unit {0}))) → with_sent n p row rest ≡ with_sent n p row [] ++ rest
with_apart n p None rest = refl
with_apart n p (Some patch) rest = refl

pub sent_more : (n : ℕ) (cs : List (RowEdit ℕ PatchRow)) (i : ℕ) (c : RowEdit ℕ PatchRow) (old new all : List (RowEdit SentKey (Unit {0}))) → i < length cs → c ≡ get_or cs i c →
    new ≡ old ++ with_sent n c.key c.row [] → old ++ sent_in n (drop i cs) ≡ all → new ++ sent_in n (drop (i + 1) cs) ≡ all
sent_more n cs i c old new all below is new_is whole =
    ap (λ l. l ++ sent_in n (drop (i + 1) cs)) new_is
    ∙ append_assoc old (with_sent n c.key c.row []) (sent_in n (drop (i + 1) cs))
    ∙ ap (λ l. old ++ l) (sym (with_apart n c.key c.row (sent_in n (drop (i + 1) cs))) ∙ ap (sent_in n) (sym (drop_one cs i c below ∙ ap (λ x. x ∷ drop (i + 1) cs) (sym is))))
    ∙ whole

-- one item more of a list that is gone through
pub flat_more : {X Y : Type 0} (f : X → List Y) (xs : List X) (i : ℕ) (x : X) (old new all : List Y) → i < length xs → x ≡ get_or xs i x →
    new ≡ old ++ f x → old ++ flat_map f (drop i xs) ≡ all → new ++ flat_map f (drop (i + 1) xs) ≡ all
flat_more f xs i x old new all below is new_is whole =
    ap (λ l. l ++ flat_map f (drop (i + 1) xs)) new_is
    ∙ append_assoc old (f x) (flat_map f (drop (i + 1) xs))
    ∙ ap (λ l. old ++ l) (ap (flat_map f) (sym (drop_one xs i x below ∙ ap (λ y. y ∷ drop (i + 1) xs) (sym is))))
    ∙ whole

pub sent_by_more : (es : List ChangeEdit) (i : ℕ) (e : ChangeEdit) (old new all : List (RowEdit SentKey (Unit {0}))) → i < length es → e ≡ get_or es i e →
    new ≡ old ++ sent_in e.change e.patches.items → old ++ sent_by (drop i es) ≡ all → new ++ sent_by (drop (i + 1) es) ≡ all
sent_by_more es i e old new all below is new_is whole =
    ap (λ l. l ++ sent_by (drop (i + 1) es)) new_is
    ∙ append_assoc old (sent_in e.change e.patches.items) (sent_by (drop (i + 1) es))
    ∙ ap (λ l. old ++ l) (ap sent_by (sym (drop_one es i e below ∙ ap (λ x. x ∷ drop (i + 1) es) (sym is))))
    ∙ whole

-- ==== what an edit makes of the tables of a change, row by row

after_mapped : {X Y : Type 0} (f : X → Y) (o : Option (Option X)) (was : Option X) → option_map f (after_row_edit o was) ≡ after_row_edit (option_map (option_map f) o) (option_map f was)
after_mapped f None was = refl
after_mapped f (Some now) was = refl

after_vote : (o : Option (Option ℤ)) (was : Option ℤ) → vote_row (after_row_edit o was) ≡ after_row_edit (option_map vote_row o) (vote_row was)
after_vote None was = refl
after_vote (Some now) was = refl

-- the rows of a change, table by table, but for its header
pub record Before : Type 0 where
  pub patches : ℕ → Option PatchRow
  pub votes : VoteKey → Option ℤ
  pub roles : ℕ → Option Role
  pub comments : ℕ → Option CommentRow
  pub attention : ℕ → Option AttentionEntry

-- those of a change that has tables
abbrev pub of_tables : ChangeTables → Before
of_tables t = record {
  patches = row_in nat_cmp (rows_of t.patches);
  votes = row_in vote_cmp (rows_of t.votes);
  roles = row_in nat_cmp (rows_of t.roles);
  comments = row_in nat_cmp (rows_of t.comments);
  attention = row_in nat_cmp (rows_of t.attention);
}

-- an edit makes these tables of the rows
pub record Turns (e : ChangeEdit) (old : Before) (new : ChangeTables) : Type 0 where
  pub header : new.header ≡ e.header
  pub patches : (n : ℕ) → row_in nat_cmp (rows_of new.patches) n ≡ changed nat_cmp e.patches.items n (old.patches n)
  pub votes : (q : VoteKey) → row_in vote_cmp (rows_of new.votes) q ≡ changed vote_cmp e.votes.items q (old.votes q)
  pub roles : (u : ℕ) → row_in nat_cmp (rows_of new.roles) u ≡ changed nat_cmp e.roles.items u (old.roles u)
  pub comments : (n : ℕ) → row_in nat_cmp (rows_of new.comments) n ≡ changed nat_cmp e.comments.items n (old.comments n)
  pub attention : (u : ℕ) → row_in nat_cmp (rows_of new.attention) u ≡ changed nat_cmp e.attention.items u (old.attention u)

-- the row of a part, by the rows before
abbrev pub part_before : Option PartRow → Before → Part → Option PartRow
part_before header b TheHeader = header
part_before header b (PatchOf n) = option_map APatch (b.patches n)
part_before header b (VoteOf n l a) = vote_row (b.votes (record { patch = n; label = l; account = a }))
part_before header b (RoleOf u) = option_map ARole (b.roles u)
part_before header b (CommentOf n) = option_map AComment (b.comments n)
part_before header b (AttentionOf u) = option_map AnAttentionEntry (b.attention u)

turned_by : (header : Option PartRow) (e : ChangeEdit) (old : Before) (new : ChangeTables) → Turns e old new → AreEdited (part_before header old) e new
turned_by header e old new t TheHeader = ap (λ h. Some (AHeader h)) t.header
turned_by header e old new t (PatchOf n) = ap (option_map APatch) (t.patches n) ∙ after_mapped APatch (row_edit_of nat_cmp e.patches.items n) (old.patches n)
turned_by header e old new t (VoteOf n l a) =
    let q : VoteKey = record { patch = n; label = l; account = a } in
    ap vote_row (t.votes q) ∙ after_vote (row_edit_of vote_cmp e.votes.items q) (old.votes q)
turned_by header e old new t (RoleOf u) = ap (option_map ARole) (t.roles u) ∙ after_mapped ARole (row_edit_of nat_cmp e.roles.items u) (old.roles u)
turned_by header e old new t (CommentOf n) = ap (option_map AComment) (t.comments n) ∙ after_mapped AComment (row_edit_of nat_cmp e.comments.items n) (old.comments n)
turned_by header e old new t (AttentionOf u) = ap (option_map AnAttentionEntry) (t.attention u) ∙ after_mapped AnAttentionEntry (row_edit_of nat_cmp e.attention.items u) (old.attention u)

before_is : (t : ChangeTables) (part : Part) → part_before (Some (AHeader t.header)) (of_tables t) part ≡ part_in t part
before_is t TheHeader = refl
before_is t _ = refl

pub turned : (e : ChangeEdit) (old new : ChangeTables) → Turns e (of_tables old) new → AreEdited (part_in old) e new
turned e old new t part = turned_by (Some (AHeader old.header)) e (of_tables old) new t part ∙ ap (after_row_edit (part_change e part)) (before_is old part)

-- tables with no rows but a header
pub record AreBare (t : ChangeTables) : Type 0 where
  pub patches : rows_of t.patches ≡ []
  pub votes : rows_of t.votes ≡ []
  pub roles : rows_of t.roles ≡ []
  pub comments : rows_of t.comments ≡ []
  pub attention : rows_of t.attention ≡ []

-- an edit makes of them what it makes of nothing, since it puts a header
pub bare_before : (e : ChangeEdit) (t : ChangeTables) → AreBare t → (part : Part) → after_row_edit (part_change e part) (part_in t part) ≡ after_row_edit (part_change e part) None
bare_before e t bare TheHeader = refl
bare_before e t bare (PatchOf n) = λ i. after_row_edit (part_change e (PatchOf n)) (option_map APatch (row_in nat_cmp (bare.patches i) n))
bare_before e t bare (VoteOf n l a) = λ i. after_row_edit (part_change e (VoteOf n l a)) (vote_row (row_in vote_cmp (bare.votes i) (record { patch = n; label = l; account = a })))
bare_before e t bare (RoleOf u) = λ i. after_row_edit (part_change e (RoleOf u)) (option_map ARole (row_in nat_cmp (bare.roles i) u))
bare_before e t bare (CommentOf n) = λ i. after_row_edit (part_change e (CommentOf n)) (option_map AComment (row_in nat_cmp (bare.comments i) n))
bare_before e t bare (AttentionOf u) = λ i. after_row_edit (part_change e (AttentionOf u)) (option_map AnAttentionEntry (row_in nat_cmp (bare.attention i) u))

-- ==== the change of a number

-- the change of a number
pub has_change : (kept : List (ℕ × ChangeTables)) (n : ℕ) (t : ChangeTables) (c : Change) → row_in nat_cmp kept n ≡ Some t → Show t c → HasChange (row_of kept) n (Some c)
has_change kept n t c is show part = ap (λ o. option_map APart (part_where o part)) is ∙ ap (option_map APart) (show part)

pub has_none : (kept : List (ℕ × ChangeTables)) (n : ℕ) → row_in nat_cmp kept n ≡ None → HasChange (row_of kept) n None
has_none kept n is part = ap (λ o. option_map APart (part_where o part)) is

pub unread : (kept : List (ℕ × ChangeTables)) (n : ℕ) (t : ChangeTables) (f : ChangeFault) → row_in nat_cmp kept n ≡ Some t → HaveFault t f → IsUnread kept n f
unread kept n t Memory is none = tt
unread kept n t Gap is none = λ c has. none_has c has
  where
    none_has : (c : Option Change) → HasChange (row_of kept) n c → ⊥
    none_has None has = let bad : Some (APart (AHeader t.header)) ≡ None = sym (ap (λ o. option_map APart (part_where o TheHeader)) is) ∙ has TheHeader in absurd (cc)
    none_has (Some c) has = none c (λ part. part_from (part_in t part) (part_row c part) (sym (ap (λ o. option_map APart (part_where o part)) is) ∙ has part))

-- ==== headers of changes

-- a change that has tables has a header
pub header_there : (o : Option ChangeTables) → IsSome o → IsSome (option_map APart (part_where o TheHeader))
header_there None some = some
header_there (Some t) some = refl
