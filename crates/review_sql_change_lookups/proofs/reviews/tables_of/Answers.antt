use Rattle.std.{proofs.Common.⊎_elim, proofs.Common.◌⊎◌, specs.Option.option_zip}
use Rattle.review_sql_tables.proofs.Common.{◌≡◌, ◌∙◌, ℕ, Option, Some, None, ap, inl, inr, refl, subst, sym, true, false, rules, option_map, nat_cmp, rows_of, AreParts, Trees}
use Rattle.review_core_rules.specs.Seen.{vote_cmp}
use Rattle.review_sql_change_records.specs.Forms.{patches, votes, roles, comments, attention_entries, change_patches, change_votes, change_roles, change_comments, change_attention}
use Rattle.review_sql_lookups.proofs.Odd.{patches_damaged, votes_damaged, roles_damaged, comments_damaged, attention_damaged}
use Rattle.review_sql_lookups.specs.declared.sights.Sight.TheVariants.{Damaged}
use Rattle.review_sql_change_lookups.proofs.Reviewing.{header_damaged, none_told, some_told, tables_told, IsHeadless}
use Rattle.review_sql_change_lookups.specs.Reviews.{AreFoundRows, IsWhyNone}
use Rattle.review_sql_change_lookups.specs.declared.reviews.FoundRows.{FoundRows}
use Rattle.review_sql_change_lookups.proofs.reviews.tables_of.Goals as goal

both : {A B : Type 0} (a : Option A) (b : Option B) (x : A) (y : B) → option_zip a b ≡ Some (x, y) → (a ≡ Some x) × (b ≡ Some y)
both None b x y e = absurd (let h : None ≡ Some (x, y) = e in cc)
both (Some a) None x y e = absurd (let h : None ≡ Some (x, y) = e in cc)
both (Some a) (Some b) x y e = (ap (option_map (λ q. q.0)) e, ap (option_map (λ q. q.1)) e)

neither : {A B : Type 0} (a : Option A) (b : Option B) → option_zip a b ≡ None → (a ≡ None) ⊎ (b ≡ None)
neither None b e = inl refl
neither (Some a) None e = inr refl
neither (Some a) (Some b) e = absurd (let h : Some (a, b) ≡ None = e in cc)

-- the five tables, in the pairs that are made of them
abbrev zipped : {P V R M A : Type 0} → Option P → Option V → Option R → Option M → Option A → Option ((P × V) × ((R × M) × A))
zipped p v r m a = option_zip (option_zip p v) (option_zip (option_zip r m) a)

-- where all are there, each is
each_there : {P V R M A : Type 0} (p : Option P) (v : Option V) (r : Option R) (m : Option M) (a : Option A) (x : P) (y : V) (z : R) (w : M) (u : A) → zipped p v r m a ≡ Some ((x, y), ((z, w), u)) → record { patches : p ≡ Some x; votes : v ≡ Some y; roles : r ≡ Some z; comments : m ≡ Some w; attention : a ≡ Some u }
each_there p v r m a x y z w u e =
    let all = both (option_zip p v) (option_zip (option_zip r m) a) (x, y) ((z, w), u) e in
    let sets = both p v x y all.0 in
    let talk = both (option_zip r m) a (z, w) u all.1 in
    let said = both r m z w talk.0 in
    record { patches = sets.0; votes = sets.1; roles = said.0; comments = said.1; attention = talk.1 }

-- where one isn't, the tables are damaged
one_missing : (n : ℕ) (db : Trees) (f : FoundRows) → zipped f.sets.patches f.sets.votes f.talk.roles f.talk.comments f.talk.attention ≡ None → AreFoundRows n db f → IsWhyNone n db Damaged
one_missing n db f e are =
    let s = f.sets in
    let t = f.talk in
    ⊎_elim
    (λ sets. ⊎_elim
    (λ none. patches_damaged db n (subst (λ o. AreParts nat_cmp change_patches patches n db (option_map (λ t. rows_of t) o)) none are.sets.patches))
    (λ none. votes_damaged db n (subst (λ o. AreParts vote_cmp change_votes votes n db (option_map (λ t. rows_of t) o)) none are.sets.votes))
    (neither s.patches s.votes sets))
    (λ talk. ⊎_elim
    (λ said. ⊎_elim
    (λ none. roles_damaged db n (subst (λ o. AreParts nat_cmp change_roles roles n db (option_map (λ t. rows_of t) o)) none are.talk.roles))
    (λ none. comments_damaged db n (subst (λ o. AreParts nat_cmp change_comments comments n db (option_map (λ t. rows_of t) o)) none are.talk.comments))
    (neither t.roles t.comments said))
    (λ none. attention_damaged db n (subst (λ o. AreParts nat_cmp change_attention attention_entries n db (option_map (λ t. rows_of t) o)) none are.talk.attention))
    (neither (option_zip t.roles t.comments) t.attention talk))
    (neither (option_zip s.patches s.votes) (option_zip (option_zip t.roles t.comments) t.attention) e)

pub returns-in-Ok-Some-clause-ok : goal.returns-in-Ok-Some-clause-ok
returns-in-Ok-Some-clause-ok c =
    let some : c.in-Ok-Some.field-0 ≡ Some c.in-Ok-Some.header = search rules in
    let header_is : c.args.found.sets.header ≡ Some (Some c.in-Ok-Some.header) = c.in-Ok-Some.ensures.ok ∙ ap (option_map Some) some in
    let f = c.args.found in
    let made : c.zip-2.result ≡ zipped f.sets.patches f.sets.votes f.talk.roles f.talk.comments f.talk.attention =
    c.zip-2.ensures ∙ (λ i. option_zip (c.zip-sets.ensures i) ((c.zip-talk.ensures ∙ (λ j. option_zip (c.zip.ensures j) f.talk.attention)) i)) in
    let all = c.in-Some.all in
    let is = each_there f.sets.patches f.sets.votes f.talk.roles f.talk.comments f.talk.attention all.0.0 all.0.1 all.1.0.0 all.1.0.1 all.1.1 (sym made ∙ c.in-Some.is) in
    (λ n db are. tables_told n db _ c.args.found
    (λ i. record { sets = record { header = header_is i; patches = is.patches i; votes = is.votes i }; talk = record { roles = is.roles i; comments = is.comments i; attention = is.attention i } }) are)

pub returns-then-are_empty-clause-ok : goal.returns-then-are_empty-clause-ok
returns-then-are_empty-clause-ok c =
    let none : c.in-Ok-None.field-0 ≡ None = search rules in
    let header_is : c.args.found.sets.header ≡ None = c.in-Ok-None.ensures.ok ∙ ap (option_map Some) none in
    let f = c.args.found in
    let made : c.zip-2.result ≡ zipped f.sets.patches f.sets.votes f.talk.roles f.talk.comments f.talk.attention =
    c.zip-2.ensures ∙ (λ i. option_zip (c.zip-sets.ensures i) ((c.zip-talk.ensures ∙ (λ j. option_zip (c.zip.ensures j) f.talk.attention)) i)) in
    let all = c.in-Some.all in
    let is = each_there f.sets.patches f.sets.votes f.talk.roles f.talk.comments f.talk.attention all.0.0 all.0.1 all.1.0.0 all.1.0.1 all.1.1 (sym made ∙ c.in-Some.is) in
    let headless : IsHeadless c.args.found _ _ _ _ _ =
    record { header = header_is; patches_are = ap (option_map (λ t. rows_of t)) is.patches; votes_are = ap (option_map (λ t. rows_of t)) is.votes; roles_are = ap (option_map (λ t. rows_of t)) is.roles; comments_are = ap (option_map (λ t. rows_of t)) is.comments; attention_are = ap (option_map (λ t. rows_of t)) is.attention } in
    let empty : c.are_empty.result ≡ true = search rules in
    let empty_all = c.are_empty.ensures in
    (λ n db are. none_told n db c.args.found _ _ _ _ _ headless are (empty_all.patches empty) (empty_all.votes empty) (empty_all.roles empty) (empty_all.comments empty) (empty_all.attention empty))

pub returns-in-Ok-None-clause-err : goal.returns-in-Ok-None-clause-err
returns-in-Ok-None-clause-err c =
    let none : c.in-Ok-None.field-0 ≡ None = search rules in
    let header_is : c.args.found.sets.header ≡ None = c.in-Ok-None.ensures.ok ∙ ap (option_map Some) none in
    let f = c.args.found in
    let made : c.zip-2.result ≡ zipped f.sets.patches f.sets.votes f.talk.roles f.talk.comments f.talk.attention =
    c.zip-2.ensures ∙ (λ i. option_zip (c.zip-sets.ensures i) ((c.zip-talk.ensures ∙ (λ j. option_zip (c.zip.ensures j) f.talk.attention)) i)) in
    let all = c.in-Some.all in
    let is = each_there f.sets.patches f.sets.votes f.talk.roles f.talk.comments f.talk.attention all.0.0 all.0.1 all.1.0.0 all.1.0.1 all.1.1 (sym made ∙ c.in-Some.is) in
    let headless : IsHeadless c.args.found _ _ _ _ _ =
    record { header = header_is; patches_are = ap (option_map (λ t. rows_of t)) is.patches; votes_are = ap (option_map (λ t. rows_of t)) is.votes; roles_are = ap (option_map (λ t. rows_of t)) is.roles; comments_are = ap (option_map (λ t. rows_of t)) is.comments; attention_are = ap (option_map (λ t. rows_of t)) is.attention } in
    let some : c.are_empty.result ≡ false = search rules in
    (λ n db are. some_told n db c.args.found _ _ _ _ _ headless are (c.are_empty.ensures.some some))

pub returns-clause-err : goal.returns-clause-err
returns-clause-err c = λ n db are. header_damaged n db c.args.found c.in-Err.sight (c.in-Err.ensures.err) are

pub returns-in_default-clause-err : goal.returns-in_default-clause-err
returns-in_default-clause-err c =
    let f = c.args.found in
    let made : c.zip-2.result ≡ zipped f.sets.patches f.sets.votes f.talk.roles f.talk.comments f.talk.attention =
    c.zip-2.ensures ∙ (λ i. option_zip (c.zip-sets.ensures i) ((c.zip-talk.ensures ∙ (λ j. option_zip (c.zip.ensures j) f.talk.attention)) i)) in
    λ n db are. one_missing n db f (sym made ∙ c.in_default.is) are
