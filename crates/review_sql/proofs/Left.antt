-- What a stop left of a desk of ours is opened as one.
use Rattle.sqlite.specs.State.{IsLive}
use Rattle.review_sql_tables.proofs.Common.{◌≡◌, ◌≢◌, ◌⊎◌, inl, inr, List, IsTrue, refl, sym, subst, arith, Database, IsDatabase, State, Ghosts, desk_schema, schema_0, IsBlank, IsReady}
use Rattle.review_sql_records.proofs.Common.{Entry, one_schema, reading_of, IsHistory, IsView}
use Rattle.review_sql_lookups.specs.Tables.{tables_at}
use Rattle.review_sql.proofs.{Again.cause_left, Again.unfit_left, Shown.ready_ours}
use Rattle.review_sql.specs.{Migrated.IsUnfit, Opened.IsRefused}
use Rattle.review_sql.specs.Shelf.{MakesOurs, StopLeavesDesk, AreLeftOfOurs, AreOurs, no_tables}
use Rattle.review_sql.specs.declared.faults.DeskFault.{DeskFault, TheVariants.Store, TheVariants.Memory}

-- a database of trees of a desk of ours is a desk
ready_again : (db : Database) → IsDatabase db → AreOurs db.trees → IsReady db
ready_again db sound ours =
    subst IsReady (λ i. record { schema = sym (one_schema db.trees db.schema desk_schema refl sound ours.ready.sound) i; trees = db.trees }) ours.ready

-- one of the two, where it can't be neither
either : (fault : DeskFault) → (((fault ≢ Memory) × (fault ≢ Store)) → ⊥) → (fault ≡ Memory) ⊎ (fault ≡ Store)
either Store not = inr refl
either Memory not = inl refl
either _ not = absurd (not ((λ e. cc), (λ e. cc)))

module _ (old new : State) (fault : DeskFault) (live : IsLive old) (stays : IsTrue new.is_open → IsTrue old.is_open × (new.now ≡ old.now)) (is_open : IsTrue new.is_open) (left : AreLeftOfOurs old.now.trees) where
  sound : IsDatabase old.now
  sound = (live (stays is_open).0).0

  pub refused_left : IsRefused old fault → (fault ≡ Memory) ⊎ (fault ≡ Store)
  refused_left refused = either fault (λ not. left (λ ours. elim (cause_left old ours.numbers fault (ready_again old.now sound ours) ours.desk refused) [ inl is ↦ not.0 is | inr is ↦ not.1 is ]))

  pub unfit_left_behind : IsUnfit old.now fault → (fault ≡ Memory) ⊎ (fault ≡ Store)
  unfit_left_behind unfit = either fault (λ not. left (λ ours. elim (unfit_left old.now ours.numbers fault (ready_again old.now sound ours) ours.desk unfit) [ inl is ↦ not.0 is | inr is ↦ not.1 is ]))

-- ---- what a stop leaves

has_no_history : (h : List Entry) → IsHistory h → IsView h no_tables → ⊥
has_no_history h history view = let read = reading_of h history in let e : 0 ≡ 3 = (view read.0 read.1).version in omega (arith, e)

pub stop_leaves_desk : {S : Type 0} (g : Ghosts S) → StopLeavesDesk g
stop_leaves_desk g shelf histories db may =
    let it = histories (tables_at db) (db, may, inl refl) in (
      (λ none. let no = histories no_tables (db, may, inr (refl, none, refl)) in has_no_history no.0 no.1 no.2),
      (db, may, inl refl),
      it.0,
      it.1,
      it.2,
    )

pub makes_ours : MakesOurs
makes_ours old after none made =
    let blank : IsBlank schema_0 old = record { schema_is = none; empty = tt } in
    (ready_ours after (record { requests = 0; least = 0 }) (made.ready blank) (made.desk blank), made.view blank)
