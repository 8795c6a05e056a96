-- What the tables of a change tell.
use Rattle.review_sql_tables.proofs.Common.{◌≡◌, ◌∙◌, ℕ, ℤ, List, [], ◌∷◌, Bool, true, Option, Some, None, option_map, pos, refl, sym, ap, subst, inl, inr, cases_Bool, and_parts, same_Some, IsSome, nat_cmp, Trees, column, Int, row_in, rows_of, has_key, AreParts, HasGreatest, only, reads, row_at, rows_at}
use Rattle.review_core_rules.specs.Change.{Change}
use Rattle.review_core_rules.specs.Parts.{Part, TheHeader, PatchOf, VoteOf, RoleOf, CommentOf, AttentionOf, PartRow, AHeader, APatch, AVote, ARole, AComment, AnAttentionEntry, part_row}
use Rattle.review_core_rules.specs.{Seen.vote_cmp, Votes.voted, declared.rows.AttentionEntry.AttentionEntry}
use Rattle.review_core_rules.specs.declared.rows.{CommentRow.CommentRow, PatchRow.PatchRow, VoteKey.VoteKey}
use Rattle.review_machine_rows.specs.{Changes.change, Known.HasChange, Known.header_key, Known.part_of}
use Rattle.review_machine_rows.specs.declared.rows.Found.{Found as Kept}
use Rattle.review_machine_change_rows.specs.{Tables.Show, declared.tables.ChangeTables.ChangeTables}
use Rattle.review_sql_records.proofs.Common.{Role, all_pass, reading_of, IsLast, PartKey, APart, vote_row, IsDamaged, Want, where_is, is_small}
use Rattle.review_sql_change_records.specs.Forms.{headers, patches, votes, roles, comments, attention_entries, change_patches, change_votes, change_roles, change_comments, change_attention, change_numbers, integer_in, is_vote}
use Rattle.review_sql_lookups.proofs.Telling.{last_none, last_some, odd_damage, stored_row}
use Rattle.review_sql_lookups.specs.Loads.{Tells, Sees, last_of}
use Rattle.review_sql_lookups.specs.Tables.{part_in, tables_at, told, vote_told}
use Rattle.review_sql_lookups.specs.declared.sights.Sight.{Sight}
use Rattle.review_sql_lookups.specs.declared.sights.Sight.TheVariants.{NoMemory, Damaged, Found}
use Rattle.review_sql_change_lookups.specs.Reviews.{AreFoundRows, HasRow, HaveSome, HaveTables, IsWhyNone, IsFresh, NothingStays, number_after}
use Rattle.review_sql_change_lookups.specs.declared.reviews.FoundRows.{FoundRows}
use Rattle.review_machine_rows.specs.declared.rows.Want.TheVariants as want
use Rattle.review_machine_change_rows.specs.Tables as tables

part_whole : {X : Type 0} (kind : X → PartRow) (o : Option X) → told (λ x. APart (kind x)) (option_map Some o) ≡ option_map APart (option_map kind o)
part_whole kind None = refl
part_whole kind (Some x) = refl

vote_whole : (o : Option ℤ) → vote_told (option_map Some o) ≡ option_map APart (vote_row o)
vote_whole None = refl
vote_whole (Some v) = refl

-- the tables of a change that has a header
pub tables_told : (n : ℕ) (db : Trees) (t : ChangeTables) (f : FoundRows) → f ≡ record { sets = record { header = Some (Some t.header); patches = Some t.patches; votes = Some t.votes }; talk = record { roles = Some t.roles; comments = Some t.comments; attention = Some t.attention } }
    → AreFoundRows n db f → HaveTables n db (Some t)
tables_told n db t f is are part = by part (subst (AreFoundRows n db) is are)
  where
    by : (part : Part) → AreFoundRows n db (record { sets = record { header = Some (Some t.header); patches = Some t.patches; votes = Some t.votes }; talk = record { roles = Some t.roles; comments = Some t.comments; attention = Some t.attention } })
        → part_in db n part ≡ option_map APart (tables.part_in t part)
    by TheHeader are = ap (told (λ x. APart (AHeader x))) (sym are.sets.header)
    by (PatchOf k) are = ap (told (λ x. APart (APatch x))) (are.sets.patches k) ∙ part_whole APatch (row_in nat_cmp (rows_of t.patches) k)
    by (VoteOf k label u) are = ap vote_told (are.sets.votes (record { patch = k; label = label; account = u })) ∙ vote_whole (row_in vote_cmp (rows_of t.votes) (record { patch = k; label = label; account = u }))
    by (RoleOf u) are = ap (told (λ x. APart (ARole x))) (are.talk.roles u) ∙ part_whole ARole (row_in nat_cmp (rows_of t.roles) u)
    by (CommentOf k) are = ap (told (λ x. APart (AComment x))) (are.talk.comments k) ∙ part_whole AComment (row_in nat_cmp (rows_of t.comments) k)
    by (AttentionOf u) are = ap (told (λ x. APart (AnAttentionEntry x))) (are.talk.attention u) ∙ part_whole AnAttentionEntry (row_in nat_cmp (rows_of t.attention) u)

fits : {X : Type 0} (test : X → Bool) (o : Option X) (x : X) → where_is test o ≡ Some x → test x ≡ true
fits test None x is = absurd (cc)
fits test (Some y) x is = elim (cases_Bool (test y)) [ inl pass ↦ (let e = rw pass at is in subst (λ z. test z ≡ true) (same_Some _ _ e) pass) | inr other ↦ absurd (let e = rw other at is in cc) ]

-- a vote that reads isn't 0
vote_read : (db : Trees) (k : ℕ × VoteKey) (v : ℤ) → row_at votes db k ≡ Some (Some v) → voted v ≡ true
vote_read db k v is = let row = stored_row (reads votes) (rows_at (votes.at k) (db 14)) v is in (and_parts _ _ (fits is_vote (integer_in (column row.0 5)) v row.2)).0

vote_there : (v : ℤ) → voted v ≡ true → option_map APart (vote_row (Some v)) ≡ Some (APart (AVote v))
vote_there v is = rw is refl

-- what was found of a change without a header, and the rows of its tables
pub record IsHeadless (f : FoundRows) (patches : List (ℕ × PatchRow)) (votes : List (VoteKey × ℤ)) (roles : List (ℕ × Role)) (comments : List (ℕ × CommentRow)) (attention : List (ℕ × AttentionEntry)) : Type 0 where
  pub header : f.sets.header ≡ None
  pub patches_are : option_map (λ t. rows_of t) f.sets.patches ≡ Some patches
  pub votes_are : option_map (λ t. rows_of t) f.sets.votes ≡ Some votes
  pub roles_are : option_map (λ t. rows_of t) f.talk.roles ≡ Some roles
  pub comments_are : option_map (λ t. rows_of t) f.talk.comments ≡ Some comments
  pub attention_are : option_map (λ t. rows_of t) f.talk.attention ≡ Some attention

module _ (n : ℕ) (db : Trees) (f : FoundRows) (p : List (ℕ × PatchRow)) (v : List (VoteKey × ℤ)) (r : List (ℕ × Role)) (m : List (ℕ × CommentRow)) (a : List (ℕ × AttentionEntry)) (is : IsHeadless f p v r m a) (are : AreFoundRows n db f) where
  headless : part_in db n TheHeader ≡ None
  headless = ap (told (λ x. APart (AHeader x))) (sym are.sets.header ∙ is.header)

  patch_row : (k : ℕ) → part_in db n (PatchOf k) ≡ option_map APart (option_map APatch (row_in nat_cmp p k))
  patch_row k = ap (told (λ x. APart (APatch x))) (subst (AreParts nat_cmp change_patches patches n db) is.patches_are are.sets.patches k) ∙ part_whole APatch (row_in nat_cmp p k)

  vote_at_row : (k : VoteKey) → part_in db n (VoteOf k.patch k.label k.account) ≡ option_map APart (vote_row (row_in vote_cmp v k))
  vote_at_row k = ap vote_told (subst (AreParts vote_cmp change_votes votes n db) is.votes_are are.sets.votes k) ∙ vote_whole (row_in vote_cmp v k)

  role_row : (k : ℕ) → part_in db n (RoleOf k) ≡ option_map APart (option_map ARole (row_in nat_cmp r k))
  role_row k = ap (told (λ x. APart (ARole x))) (subst (AreParts nat_cmp change_roles roles n db) is.roles_are are.talk.roles k) ∙ part_whole ARole (row_in nat_cmp r k)

  comment_row : (k : ℕ) → part_in db n (CommentOf k) ≡ option_map APart (option_map AComment (row_in nat_cmp m k))
  comment_row k = ap (told (λ x. APart (AComment x))) (subst (AreParts nat_cmp change_comments comments n db) is.comments_are are.talk.comments k) ∙ part_whole AComment (row_in nat_cmp m k)

  attention_row : (k : ℕ) → part_in db n (AttentionOf k) ≡ option_map APart (option_map AnAttentionEntry (row_in nat_cmp a k))
  attention_row k = ap (told (λ x. APart (AnAttentionEntry x))) (subst (AreParts nat_cmp change_attention attention_entries n db) is.attention_are are.talk.attention k) ∙ part_whole AnAttentionEntry (row_in nat_cmp a k)

  -- a change that has no row
  pub none_told : p ≡ [] → v ≡ [] → r ≡ [] → m ≡ [] → a ≡ [] → HaveTables n db None
  none_told no_p no_v no_r no_m no_a TheHeader = headless
  none_told no_p no_v no_r no_m no_a (PatchOf k) = patch_row k ∙ ap (λ l. option_map APart (option_map APatch (row_in nat_cmp l k))) no_p
  none_told no_p no_v no_r no_m no_a (VoteOf k label u) =
      let key : VoteKey = record { patch = k; label = label; account = u } in
      vote_at_row key ∙ ap (λ l. option_map APart (vote_row (row_in vote_cmp l key))) no_v
  none_told no_p no_v no_r no_m no_a (RoleOf u) = role_row u ∙ ap (λ l. option_map APart (option_map ARole (row_in nat_cmp l u))) no_r
  none_told no_p no_v no_r no_m no_a (CommentOf k) = comment_row k ∙ ap (λ l. option_map APart (option_map AComment (row_in nat_cmp l k))) no_m
  none_told no_p no_v no_r no_m no_a (AttentionOf u) = attention_row u ∙ ap (λ l. option_map APart (option_map AnAttentionEntry (row_in nat_cmp l u))) no_a

  -- a row of a change without a header is one of no history
  alone_damaged : (part : Part) (row : PartRow) → part_in db n part ≡ Some (APart row) → IsDamaged (tables_at db)
  alone_damaged part row there h history view =
      let read = reading_of h history in
      by (change read.0 h n) (sym ((view read.0 read.1).row_is (PartKey n TheHeader)) ∙ headless) (sym ((view read.0 read.1).row_is (PartKey n part)) ∙ there)
    where
      by : (o : Option Change) → option_map APart (part_of o TheHeader) ≡ None → option_map APart (part_of o part) ≡ Some (APart row) → ⊥
      by None none some = cc
      by (Some c) none some = cc

  some_patch : HasRow nat_cmp p → IsDamaged (tables_at db)
  some_patch has = by (row_in nat_cmp p has.0) refl has.1
    where
      by : (o : Option PatchRow) → row_in nat_cmp p has.0 ≡ o → IsSome o → IsDamaged (tables_at db)
      by None at some = absurd (let e = some in cc)
      by (Some x) at some = alone_damaged (PatchOf has.0) (APatch x) (patch_row has.0 ∙ ap (λ o. option_map APart (option_map APatch o)) at)

  some_vote : HasRow vote_cmp v → IsDamaged (tables_at db)
  some_vote has = by (row_in vote_cmp v has.0) refl has.1
    where
      by : (o : Option ℤ) → row_in vote_cmp v has.0 ≡ o → IsSome o → IsDamaged (tables_at db)
      by None at some = absurd (let e = some in cc)
      by (Some x) at some =
          let found : row_at votes db (n, has.0) ≡ Some (Some x) = subst (AreParts vote_cmp change_votes votes n db) is.votes_are are.sets.votes has.0 ∙ ap (option_map Some) at in
          alone_damaged (VoteOf has.0.patch has.0.label has.0.account) (AVote x) (vote_at_row has.0 ∙ ap (λ o. option_map APart (vote_row o)) at ∙ vote_there x (vote_read db (n, has.0) x found))

  some_role : HasRow nat_cmp r → IsDamaged (tables_at db)
  some_role has = by (row_in nat_cmp r has.0) refl has.1
    where
      by : (o : Option Role) → row_in nat_cmp r has.0 ≡ o → IsSome o → IsDamaged (tables_at db)
      by None at some = absurd (let e = some in cc)
      by (Some x) at some = alone_damaged (RoleOf has.0) (ARole x) (role_row has.0 ∙ ap (λ o. option_map APart (option_map ARole o)) at)

  some_comment : HasRow nat_cmp m → IsDamaged (tables_at db)
  some_comment has = by (row_in nat_cmp m has.0) refl has.1
    where
      by : (o : Option CommentRow) → row_in nat_cmp m has.0 ≡ o → IsSome o → IsDamaged (tables_at db)
      by None at some = absurd (let e = some in cc)
      by (Some x) at some = alone_damaged (CommentOf has.0) (AComment x) (comment_row has.0 ∙ ap (λ o. option_map APart (option_map AComment o)) at)

  some_call : HasRow nat_cmp a → IsDamaged (tables_at db)
  some_call has = by (row_in nat_cmp a has.0) refl has.1
    where
      by : (o : Option AttentionEntry) → row_in nat_cmp a has.0 ≡ o → IsSome o → IsDamaged (tables_at db)
      by None at some = absurd (let e = some in cc)
      by (Some x) at some = alone_damaged (AttentionOf has.0) (AnAttentionEntry x) (attention_row has.0 ∙ ap (λ o. option_map APart (option_map AnAttentionEntry o)) at)

  -- where it has some row, the tables are those of no history
  pub some_told : HaveSome p v r m a → IsDamaged (tables_at db)
  some_told (inl has) = some_patch has
  some_told (inr (inl has)) = some_vote has
  some_told (inr (inr (inl has))) = some_role has
  some_told (inr (inr (inr (inl has)))) = some_comment has
  some_told (inr (inr (inr (inr has)))) = some_call has

-- the change that its tables show
pub change_told : (n : ℕ) (db : Trees) (t : ChangeTables) (c : Change) → HaveTables n db (Some t) → Show t c → HasChange (tables_at db).row n (Some c)
change_told n db t c have show part = have part ∙ ap (option_map APart) (show part)

part_from : (o p : Option PartRow) → option_map APart o ≡ option_map APart p → o ≡ p
part_from None None e = refl
part_from None (Some y) e = absurd (cc)
part_from (Some x) None e = absurd (cc)
part_from (Some x) (Some y) e = let same : x ≡ y = cc in ap Some same

-- tables that show no change are those of no history
pub gap_damaged : (n : ℕ) (db : Trees) (t : ChangeTables) → HaveTables n db (Some t) → ((c : Change) → Show t c → ⊥) → IsDamaged (tables_at db)
gap_damaged n db t have none h history view =
    let read = reading_of h history in
    by_change (change read.0 h n) (λ part. sym (have part) ∙ (view read.0 read.1).row_is (PartKey n part))
  where
    by_change : (o : Option Change) → ((part : Part) → option_map APart (tables.part_in t part) ≡ option_map APart (part_of o part)) → ⊥
    by_change None is = let bad = is TheHeader in cc
    by_change (Some c) is = none c (λ part. part_from (tables.part_in t part) (part_row c part) (is part))

pub headers_in : (db : Trees) (n : ℕ) → (tables_at db).row (header_key n) ≡ told (λ x. APart (AHeader x)) (only (reads headers) (Rattle.std.proofs.Common.filter (has_key ((0, Int (pos n)) ∷ [])) (rows_at [] (db 9))))
headers_in db n = ap (λ l. told (λ x. APart (AHeader x)) (only (reads headers) (Rattle.std.proofs.Common.filter (has_key ((0, Int (pos n)) ∷ [])) l))) (sym (all_pass (db 9)))

pub last_change : (db : Trees) (found : Option (Option ℕ)) (n : ℕ) → HasGreatest change_numbers 0 tt db found → last_of found ≡ Some n → IsLast header_key (tables_at db).row n
last_change db None n none is = subst (IsLast header_key (tables_at db).row) (same_Some _ _ is) (last_none (λ x. APart (AHeader x)) (reads headers) header_key db 0 (rows_at [] (db 9)) (headers_in db) none)
last_change db (Some None) n great is = absurd (cc)
last_change db (Some (Some m)) n great is = subst (IsLast header_key (tables_at db).row) (same_Some _ _ is) (last_some (λ x. APart (AHeader x)) (reads headers) header_key db 0 (rows_at [] (db 9)) (headers_in db) great.0 m great.1 (sym great.2))

-- a header that doesn't read
pub header_damaged : (n : ℕ) (db : Trees) (f : FoundRows) (s : Sight) → (s ≡ Damaged) × (f.sets.header ≡ Some None) → AreFoundRows n db f → IsWhyNone n db s
header_damaged n db f s odd are = subst (IsWhyNone n db) (sym odd.0) (odd_damage (tables_at db) (PartKey n TheHeader) (ap (told (λ x. APart (AHeader x))) (sym are.sets.header ∙ odd.1)))

-- why the tables of a change are not told
pub why_told : (n : ℕ) (db : Trees) (s : Sight) (w : Want) → IsWhyNone n db s → Tells (tables_at db) w s
why_told n db (Found found) w why = absurd why
why_told n db NoMemory w why = tt
why_told n db Damaged w why = why

-- the greatest number of a change that no more may follow
pub none_after : (db : Trees) (found : Option (Option ℕ)) → HasGreatest change_numbers 0 tt db found → number_after (where_is is_small (last_of found)) ≡ None → NothingStays db
none_after db found great none = (found, great, rw none tt)

-- and one whose next one was looked up
pub whole_after : (db : Trees) (found : Option (Option ℕ)) (n : ℕ) (looked : Kept) → HasGreatest change_numbers 0 tt db found → number_after (where_is is_small (last_of found)) ≡ Some n
    → Sees (want.Change n) db (Found looked) → NothingStays db
whole_after db found n looked great is sees = (found, great, rw is (sees.0, sees.2))

pub fresh : (db : Trees) (s : Sight) → NothingStays db → IsFresh db s
fresh db (Found found) stays = stays
fresh db _ stays = tt
