-- What is decided of a command that is new, by what the tables tell.
use Rattle.std.specs.Prelude.{ℕ, ◌≡◌, ◌≤◌, ◌<◌, ◌+◌, List, Option, length, true, false}
use Rattle.review_words.specs.{History.Entry, History.if_done, Texts.IsStored}
use Rattle.review_words.specs.declared.{command.Command.Command, reply.NotTaken.NotTaken as Cause}
use Rattle.review_words.specs.declared.reply.NotTaken.TheVariants.{Full, Memory, Store, Damaged, Pattern}
use Rattle.review_machine_rows.specs.{Answer.most_requests, Answer.IsHistory, Changes.Reading, Changes.Reads}
use Rattle.review_machine_rows.specs.Decisions.{RestsOn, IsUndecided, ReadsPattern}
use Rattle.review_machine_rows.specs.{Files.File, Known.known, Known.number_of}
use Rattle.review_machine_rows.specs.Rows.{HasNoEffect, is_above, is_below, new_least, ClosedEpochs, Tables}
use Rattle.review_machine_rows.specs.Shelf.{Shows, Views, IsDamaged}
use Rattle.review_machine_rows.specs.{Steps.OfCommand, View.AreEnough, View.IsDecidedAt, View.IsView}
use Rattle.review_machine_rows.specs.declared.rows.{Rows.Rows, Want.TheVariants.LeastEpoch, Want.TheVariants.Requests}
use Rattle.review_machine_deliveries.specs.declared.deliveries.Decided.{Decided}

-- What rules decide of a command by a file and rows, and the number of its request, for which there is room. They promise too that the delta names each key once;
-- what a commit does is said without it.
pub record IsDecidedBy (caller epoch : ℕ) (command : Command) (file : Option File) (rows : Rows) (d : Decided) : Type 0 where
  pub request : (d.request ≡ number_of (known rows Requests) + 1) × (d.request ≤ most_requests)
  pub decided : (reading : Reading) (h : List Entry) → length h < most_requests → RestsOn (OfCommand command) h → AreEnough reading h caller (OfCommand command) file rows →
      IsDecidedAt reading h caller epoch command d.delta d.reply
  pub stored : IsStored d.reply
  pub refused : HasNoEffect d.reply d.delta
  pub closes : d.delta.least_epoch ≡ new_least (if_done d.reply command)
  pub own : is_below d.delta.least_epoch epoch ≡ false
  pub raises : is_above d.delta.least_epoch (number_of (known rows LeastEpoch)) ≡ true

-- Why nothing is decided of a command by a file and rows: no number is left for its request, or the rules don't decide it.
abbrev pub IsUndecidedBy : ℕ → Command → Option File → Rows → Cause → Type 0
IsUndecidedBy caller command file rows Full = most_requests ≤ number_of (known rows Requests)
IsUndecidedBy caller command file rows cause = IsUndecided caller command file rows cause

-- What was decided of a command, by the tables.
pub record WasDecided (caller epoch : ℕ) (command : Command) (tables : Option Tables) (d : Decided) : Type 0 where
  -- its request has the next number, for which there is room
  pub request : Shows tables (λ t. d.request ≡ t.requests + 1) × (d.request ≤ most_requests)
  -- it is right after each history whose tables these are
  pub right : (reading : Reading) (h : List Entry) → IsHistory h → Reads reading h → Views h tables → IsDecidedAt reading h caller epoch command d.delta d.reply
  -- on any tables whatever a refusal changes nothing
  pub refused : HasNoEffect d.reply d.delta
  -- and nothing but an accepted CloseEpoch changes the least open epoch: it makes the one that it names so, which is above the present one and not above that of the request
  pub closes : d.delta.least_epoch ≡ new_least (if_done d.reply command)
  pub own : is_below d.delta.least_epoch epoch ≡ false
  pub raises : Shows tables (λ t. is_above d.delta.least_epoch (t.count ClosedEpochs) ≡ true)

-- in each history whose tables these are the command reads a pattern that the engine may refuse
abbrev pub AlwaysReadsPattern : Command → Tables → Type 0
AlwaysReadsPattern command t = (reading : Reading) (h : List Entry) → IsHistory h → Reads reading h → IsView h t → ReadsPattern reading h command

-- Why nothing was decided of a command, by the tables: want of memory, a fault of the store, tables that are those of no history, a pattern that the engine may refuse,
-- or no number that is left for its request.
abbrev pub WasUndecided : Command → Option Tables → Cause → Type 0
WasUndecided command tables Memory = Unit {0}
WasUndecided command tables Store = Unit {0}
WasUndecided command tables Damaged = Shows tables IsDamaged
WasUndecided command tables Pattern = Shows tables (AlwaysReadsPattern command)
WasUndecided command tables Full = Shows tables (λ t. most_requests ≤ t.requests)
