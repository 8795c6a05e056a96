-- What the texts that read the tables `desk` and `epochs` show over any schema.
use Rattle.sqlite.specs.Listing.{reads_listing, if_select, IsSourceOf}
use Rattle.{sqlite.specs.State.CommitsShowing, sqlite_ast.specs.declared.Statement.Statement}
use Rattle.sqlite_resolve.specs.Compile.{compiled, first, planned, meaning, command, returning, timed, small, with_command}
use Rattle.sqlite_resolve.specs.{Lowering.and_then, declared.error.CompileError.TheVariants.NoSuchTable}
use Rattle.{sqlite_schema.specs.declared.command.Command.Command, sqlite_syntax.specs.declared.statement.Parsed.Parsed}
use Rattle.review_sql_tables.proofs.Common.{◌≡◌, ◌∙◌, ◌⊎◌, inl, inr, ℕ, List, [], None, Ok, Err, Result, IfOk, IfErr, IsTrue, false, ◌+◌, refl, sym, ap, subst, subst₂, cases_Bool, survives_weaker, Reads, understood, listing_schema, State, Shown, HasCleanDisk, Survives, FailsToQuery, IsUnchanged, IsRolledBack, Error, Checked, Compiled, Schema, everything, Trees, Row}
use Rattle.review_sql_tables.proofs.Sequences.{fails_keeps}
use Rattle.review_sql_tables.specs.declared.texts.TheConstants.{FIND_DESK, FIND_EPOCHS}
use Rattle.review_sql.specs.{Opened.ShowsRows, Shelf.Stays}
use Rattle.sqlite_ast.specs.declared.Statement.TheVariants as written
use Rattle.sqlite_ast.specs.declared.Select as written_select

-- a text that was read as one query, which doesn't read the time
abbrev IsQuery : Checked Parsed → Type 0
IsQuery (Ok p) = (s : written_select.Select) × (p.statement ≡ written.Select s) × (p.formats ≡ [])
IsQuery (Err e) = ⊥

-- what a statement of these formats is compiled to
abbrev as_compiled : Schema → Parsed → Statement → List (List ℕ) → Checked Compiled
as_compiled schema p statement formats =
    let waited = timed schema formats statement in
    and_then
    (and_then (and_then (returning schema (small p.names + small waited) statement) (λ shown. and_then (command schema formats (small p.names + small waited) statement) (λ c. Ok (c, shown)))) (λ found. Ok (waited, found)))
    (λ plan. Ok (with_command p plan))

abbrev of_ok : Compiled → Checked Compiled → Compiled
of_ok other (Ok c) = c
of_ok other (Err e) = other

-- how a query is compiled, whatever its meaning
of_command : (p : Parsed) (r : Checked Command) (c : Compiled)
    → and_then (and_then (and_then r (λ k. Ok (k, None))) (λ found. Ok ([], found))) (λ plan. Ok (with_command p plan)) ≡ Ok c → (c.returning ≡ None) × (c.formats ≡ [])
of_command p (Ok k) c is = let same = ap (of_ok c) is in (sym (ap (λ (x : Compiled). x.returning) same), sym (ap (λ (x : Compiled). x.formats) same))
of_command p (Err e) c is = absurd (cc)

query_is_plain : (schema : Schema) (r : Checked Parsed) (c : Compiled) → IsQuery r → and_then r (λ p. and_then (planned schema p) (λ plan. Ok (with_command p plan))) ≡ Ok c → (c.returning ≡ None) × (c.formats ≡ [])
unfolding planned meaning returning timed
query_is_plain schema (Ok p) c it is =
    of_command p (command schema [] (small p.names + small []) (written.Select it.0)) c
    (subst₂ (λ st fs. as_compiled schema p st fs ≡ Ok c) it.1 it.2 is)
query_is_plain schema (Err e) c it is = absurd it

-- a text is read as such a query, which asks for no listing of tables
pub record IsBare (sql : List ℕ) : Type 0 where
  pub query : IsQuery (first sql)
  pub unlisted : if_select (compiled listing_schema sql) ≡ Err NoSuchTable

pub find_desk_bare : IsBare FIND_DESK.now
unfolding everything listing_schema
find_desk_bare = record { query = (_, refl, refl); unlisted = refl }

pub find_epochs_bare : IsBare FIND_EPOCHS.now
unfolding everything listing_schema
find_epochs_bare = record { query = (_, refl, refl); unlisted = refl }

listing_refused : (r : Checked Compiled) (c : Compiled) → r ≡ Err NoSuchTable → r ≡ Ok c → ⊥
listing_refused r c refused found = let e = sym refused ∙ found in cc

module _ (sql : List ℕ) (bare : IsBare sql) (schema : Schema) (c : Compiled) where
  pub not_listed : understood schema sql ≡ Ok c → reads_listing schema sql ≡ false
  unfolding understood
  not_listed is = elim (cases_Bool (reads_listing schema sql)) [
    | inl listed ↦ absurd (listing_refused _ c bare.unlisted (rw listed at is))
    | inr not ↦ not
  ]

  pub is_plain : understood schema sql ≡ Ok c → (c.returning ≡ None) × (c.formats ≡ [])
  unfolding understood compiled
  is_plain is = query_is_plain schema (first sql) c bare.query (rw (not_listed is) at is)

module _ (sql : List ℕ) (bare : IsBare sql) (old new : State) where
  -- what the query showed
  shown_so : (rows : List Row) → Shown sql [] old new rows
      → IsUnchanged old new × ((c : Compiled) × (understood old.now.schema sql ≡ Ok c) × Reads c.command old.now [] rows)
  unfolding Shown
  shown_so rows h =
      let plain = is_plain sql bare old.now.schema h.0 h.1.is in
      let it = rw (plain.0, plain.1) at h.2 in
      let db : it.0 ≡ old.now = subst (λ b. IsSourceOf b old.now it.0) (not_listed sql bare old.now.schema h.0 h.1.is) it.1 in
      (it.3, (h.0, h.1.is, subst (λ d. Reads h.0.command d [] rows) db it.2))

  never_commits : (db : Trees) → CommitsShowing sql [] old db → ⊥
  unfolding CommitsShowing
  never_commits db h = absurd (let some = rw (is_plain sql bare old.now.schema h.0 h.1.is).0 at h.2 in cc)

  -- a query that showed rows, and left what was there
  pub asked_rows : {X : Type 0} (view : X → List Row) (r : Result X Error) → IfOk r (λ x. Shown sql [] old new (view x)) → IfOk r (λ x. ShowsRows old.now sql (view x))
  asked_rows view (Ok x) h = let it = (shown_so (view x) h).1 in record { query = it.0; is = it.1; shown = it.2 }
  asked_rows view (Err e) h = tt

  -- where it showed rows, the store is open
  pub asked_open : {X : Type 0} (view : X → List Row) (r : Result X Error) → IfOk r (λ x. Shown sql [] old new (view x)) → IfOk r (λ x. IsTrue new.is_open)
  asked_open view (Ok x) h = (shown_so (view x) h).0.0.is_open
  asked_open view (Err e) h = tt

  pub asked_stays : {X : Type 0} (view : X → List Row) (r : Result X Error) (settled : IsTrue old.is_open → old.now ≡ old.committed) → (IsTrue new.is_open → HasCleanDisk new)
      → (HasCleanDisk new → IfOk r (λ x. Shown sql [] old new (view x))) → (HasCleanDisk new → IfErr r (FailsToQuery sql [] old new))
      → Survives old new (CommitsShowing sql [] old) → Stays old new
  asked_stays {X} view r settled clean ok err survives = record {
    kept = λ is_open. by_result r (ok (clean is_open)) (err (clean is_open)) is_open;
    survives = survives_weaker old new (CommitsShowing sql [] old) (λ _. ⊥) (λ _ db h. never_commits db h) survives;
  }
    where
      undone_or_not : IsUnchanged old new ⊎ IsRolledBack old new → IsTrue new.is_open → IsTrue old.is_open × (new.now ≡ old.now)
      undone_or_not (inl same) is_open = (same.0.was_open, same.0.now_is)
      undone_or_not (inr undone) is_open = let was = undone.was_open is_open in (was, (undone.undone is_open).0 ∙ sym (settled was))

      by_result : (r : Result X Error) → IfOk r (λ x. Shown sql [] old new (view x)) → IfErr r (FailsToQuery sql [] old new) → IsTrue new.is_open → IsTrue old.is_open × (new.now ≡ old.now)
      by_result (Ok x) h none is_open = let same = (shown_so (view x) h).0 in (same.0.was_open, same.0.now_is)
      by_result (Err e) none h is_open = undone_or_not (fails_keeps sql [] old new e h) is_open
