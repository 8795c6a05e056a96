-- What is answered of how look-ups ended.
use Rattle.review_sql_tables.proofs.Common.{◌≡◌, refl, Bool, List, Option, Ok, OnOk, IsTrue, subst, sym, Database, Held, state, HasCleanDisk, Ghosts, Serves}
use Rattle.review_sql_records.proofs.Common.{AgreesBeside, AreAsked, Tables, BlamesTables, IsDamaged, KeepsTables, Rows, Shows, Want}
use Rattle.review_sql_lookups.specs.{Loads.AreBounded, Tables.tables_at, declared.counts.Counts.Counts}
use Rattle.review_sql_writes.specs.declared.numbers.Numbers.{Numbers}
use Rattle.review_sql.proofs.Shown.{desk_if_open, same_shown, shown_now}
use Rattle.review_sql.specs.Loading.{AreSeen, WereSeen}
use Rattle.review_sql.specs.Shelf.{Holds, KnowsCounts, answer_of, tables_of}
use Rattle.review_sql.specs.declared.loading.Ended.{Ended}
use Rattle.review_sql.specs.declared.loading.Ended.TheVariants as ended

pub was_asked : (wants : List Want) (before after : Rows) (end : Ended) → (end ≡ ended.Learnt → AreAsked wants before after) → OnOk (answer_of end) (AreAsked wants before after)
was_asked wants before after ended.Learnt asked = asked refl
was_asked wants before after _ asked = tt

pub keeps_loaded : (end : Ended) (old new : Option Tables) → new ≡ old → KeepsTables (answer_of end) old new
keeps_loaded ended.Learnt old new same = same
keeps_loaded _ old new same = same

module _ {S : Type 0} (g : Ghosts S) (old new : Held S) (is_ours : Bool) (numbers : Numbers) (holds : Holds g old is_ours numbers) (known more : Counts) (knows : KnowsCounts g old is_ours known)
    (before after : Rows) (end : Ended) (it : Serves (WereSeen before after known more) (state g old) (state g new) (Ok end)) where
  -- what look-ups found, on a shelf that knew what is so
  pub load_served : IsTrue is_ours → HasCleanDisk (state g new) → IsTrue (state g old).is_open × AreSeen before after (state g old).now.trees end
  load_served ours clean = let f = it.found clean (desk_if_open g old new is_ours numbers holds ours) in (f.0, (f.3 (knows ours f.0)).0)

  -- and what it knows then
  pub knows_loaded : (IsTrue (state g new).is_open → HasCleanDisk (state g new)) → KnowsCounts g new is_ours more
  knows_loaded clean = λ ours is_open.
      let f = it.found (clean is_open) (desk_if_open g old new is_ours numbers holds ours) in
      subst (λ (d : Database). AreBounded more (tables_at d.trees)) (sym f.2) (f.3 (knows ours f.0)).1

  -- a call that read leaves the tables
  pub tables_kept : IsTrue is_ours → HasCleanDisk (state g new) → tables_of g new ≡ tables_of g old
  tables_kept ours clean = let f = it.found clean (desk_if_open g old new is_ours numbers holds ours) in same_shown g old new f.0 f.1 f.2

module _ {S : Type 0} (g : Ghosts S) (conn : Held S) (before after : Rows) where
  pub shows_loaded : (end : Ended) → IsTrue (state g conn).is_open → AreSeen before after (state g conn).now.trees end → OnOk (answer_of end) (Shows (tables_of g conn) (λ t. AgreesBeside t before after))
  shows_loaded ended.Learnt is agree = shown_now g conn conn (λ t. AgreesBeside t before after) is agree
  shows_loaded _ is agree = tt

  pub blames_loaded : (end : Ended) → IsTrue (state g conn).is_open → AreSeen before after (state g conn).now.trees end → BlamesTables (answer_of end) (tables_of g conn)
  blames_loaded ended.Damaged is damaged = shown_now g conn conn IsDamaged is damaged
  blames_loaded _ is agree = tt
