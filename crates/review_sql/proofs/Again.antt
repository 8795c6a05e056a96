-- A shelf over a connection that one which was closed has left.
use Rattle.review_sql_tables.proofs.Common.{◌≡◌, ◌≢◌, ◌⊎◌, inl, inr, ◌∙◌, Bool, IsTrue, refl, sym, subst, arith, same_Some, Database, Held, state, State, Ghosts, IsReady, schema_at}
use Rattle.review_sql_tables.specs.declared.versions.TablesVersion.{TablesVersion}
use Rattle.review_sql_tables.specs.declared.versions.TablesVersion.TheVariants.{First, Second, Third}
use Rattle.review_sql_writes.specs.{Commits.IsDesk, declared.numbers.Numbers.Numbers}
use Rattle.review_sql.proofs.Saying.{desk_says, never_earlier, never_no_desk, never_other_version, never_there_earlier}
use Rattle.review_sql.{proofs.Shown.stays, specs.Migrated.IsNotMigrated, specs.Migrated.IsUnfit}
use Rattle.review_sql.specs.Opened.{AreAllApart, AreApartIn, IsOpened, IsRefused, ReopensLast, IsRefusedAgain, IsReopened, IsNone, IsThere}
use Rattle.review_sql.specs.{Shelf.Holds, Shelf.ShelfView, Shelf.Stays, declared.faults.DeskFault.DeskFault}
use Rattle.review_sql.specs.declared.faults.DeskFault.TheVariants.{NotADesk, WrongVersion, Store, NotEmpty, NotOurs, Memory}

-- the rows of each table of a desk have rowids of their own
all_apart : (db : Database) → IsReady db → AreAllApart db.trees
all_apart db ready = (ready.apart 0 refl, (ready.apart 2 refl, (ready.apart 6 refl, (ready.apart 9 refl, (ready.apart 11 refl, (ready.apart 14 refl, (ready.apart 16 refl, (ready.apart 18 refl, (ready.apart 20 refl, (ready.apart 25 refl, (ready.apart 26 refl, (ready.apart 28 refl, (ready.apart 31 refl, tt)))))))))))))

-- the faults that are left
store_or_memory : (fault : DeskFault) → (fault ≡ NotADesk → ⊥) → (fault ≡ WrongVersion → ⊥) → fault ≢ NotEmpty → (fault ≡ NotOurs → ⊥) → (fault ≡ Memory) ⊎ (fault ≡ Store)
store_or_memory NotADesk a b c d = absurd (a refl)
store_or_memory WrongVersion a b c d = absurd (b refl)
store_or_memory Store a b c d = inr refl
store_or_memory NotEmpty a b c d = absurd (c refl)
store_or_memory NotOurs a b c d = absurd (d refl)
store_or_memory Memory a b c d = inl refl

pub cause_left : (s : State) (numbers : Numbers) (fault : DeskFault) → IsReady s.now → IsDesk numbers s.now.trees → IsRefused s fault → (fault ≡ Memory) ⊎ (fault ≡ Store)
cause_left s numbers fault ready is refused =
    store_or_memory fault (λ none. never_no_desk s.now ready.schema numbers is (refused.no_desk none)) (λ other. never_other_version s.now ready.schema numbers is (refused.other_version other)) refused.not_empty
    (λ not. (refused.not_ours not).1 ready.schema (all_apart s.now ready))

-- the same of what is not migrated
pub unfit_left : (db : Database) (numbers : Numbers) (fault : DeskFault) → IsReady db → IsDesk numbers db.trees → IsUnfit db fault → (fault ≡ Memory) ⊎ (fault ≡ Store)
unfit_left db numbers fault ready is unfit =
    store_or_memory fault (λ none. let it = unfit.no_desk none in no_desk it.0 it.1) (λ other. let it = unfit.other_version other in it.2.2.1.1.0 (same_Some _ _ (sym it.2.1 ∙ (desk_says Third db ready.schema it.0 it.1 numbers is).0))) unfit.not_empty
    (λ not. let it = unfit.not_ours not in not_ours it.0 it.1.0 it.1.1 it.2)
  where
    no_desk : (version : TablesVersion) → IsNone version db → ⊥
    no_desk First none = never_earlier First (λ e. omega (arith, e)) db ready.schema numbers is none
    no_desk Second none = never_earlier Second (λ e. omega (arith, e)) db ready.schema numbers is none
    no_desk Third none = never_no_desk db ready.schema numbers is none

    not_ours : (version : TablesVersion) (n : Numbers) → IsThere version db n → (db.schema ≡ schema_at version → AreApartIn version db.trees → ⊥) → ⊥
    not_ours First n there other = never_there_earlier First (λ e. omega (arith, e)) db ready.schema numbers is n there
    not_ours Second n there other = never_there_earlier Second (λ e. omega (arith, e)) db ready.schema numbers is n there
    not_ours Third n there other = other ready.schema (all_apart db ready)

module _ {S : Type 0} (g : Ghosts S) (is_ours : Bool) (old : ShelfView S) (holds : Holds g old.conn is_ours old.numbers) where
  reopened : (new : ShelfView S) → IsOpened g old.conn new → IsReopened g is_ours old new
  reopened new it = record {
    tables = stays g old.conn new.conn it.stays.kept;
    honest = λ h. (omega (arith, it.stays.survives.clean, h.0), h.1);
    stops = λ clean t left. elim (it.stays.survives.crash clean left.0 left.1) [ inl was ↦ (left.0, was, left.2) | inr none ↦ absurd none ];
  }

  cause_again : (conn : Held S) (fault : DeskFault) → Stays (state g old.conn) (state g conn) → (IsTrue (state g conn).is_open → IsRefused (state g old.conn) fault) → IsTrue is_ours → IsTrue (state g conn).is_open → (fault ≡ Memory) ⊎ (fault ≡ Store)
  cause_again conn fault same why ours is_open =
      let it = holds.ready ours (same.kept is_open).0 in
      cause_left (state g old.conn) old.numbers fault it.0 it.1 (why is_open)

  unfit_again : (conn : Held S) (fault : DeskFault) → (IsTrue (state g conn).is_open → IsTrue (state g old.conn).is_open) → (IsTrue (state g conn).is_open → IsUnfit (state g old.conn).now fault) → IsTrue is_ours → IsTrue (state g conn).is_open → (fault ≡ Memory) ⊎ (fault ≡ Store)
  unfit_again conn fault was why ours is_open =
      let it = holds.ready ours (was is_open) in
      unfit_left (state g old.conn).now old.numbers fault it.0 it.1 (why is_open)

module _ {S : Type 0} (g : Ghosts S) (is_ours : Bool) (conn : Held S) where
  pub goes_on : (new : ShelfView S) → IsOpened g conn new → ReopensLast g is_ours conn new
  goes_on new it old closed = reopened g is_ours old closed.1 new (subst (λ (h : Held S). IsOpened g h new) closed.0 it)

  pub refused_again : (last : Held S) (fault : DeskFault) → Stays (state g conn) (state g last) → (IsTrue (state g last).is_open → IsRefused (state g conn) fault) → IsRefusedAgain g is_ours conn last fault
  refused_again last fault same why old closed =
      cause_again g is_ours old closed.1 last fault (subst (λ (h : Held S). Stays (state g h) (state g last)) closed.0 same) (λ is_open. subst (λ (h : Held S). IsRefused (state g h) fault) closed.0 (why is_open))

  pub unfit_closed : (last : Held S) (fault : DeskFault) → IsNotMigrated is_ours fault (state g conn) (state g last) → (IsTrue (state g last).is_open → IsUnfit (state g conn).now fault) → IsRefusedAgain g is_ours conn last fault
  unfit_closed last fault left why old closed =
      unfit_again g is_ours old closed.1 last fault (λ is_open. subst (λ (h : Held S). IsTrue (state g h).is_open) closed.0 (left.undone is_open).0) (λ is_open. subst (λ (h : Held S). IsUnfit (state g h).now fault) closed.0 (why is_open))
