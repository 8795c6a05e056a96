-- What rows and the file that was read tell of a question.
use Rattle.std.specs.Prelude.{ℕ, ℤ, ◌==◌, ◌&&◌, Bool, Option, Some, None}
use Rattle.review_words.specs.declared.command.ChangeQuery.{ChangeQuery, TheVariants.Requirements}
use Rattle.review_words.specs.declared.reply.Answer.{Answer}
use Rattle.review_core_rules.specs.Change.{Setting, Change}
use Rattle.review_core_rules.specs.{Shown.IsToldOf, Votes.voted, declared.rows.VoteKey.VoteKey}
use Rattle.review_core_tables.specs.Copies.{GroupTable, group_list}
use Rattle.review_machine_rows.specs.Files.{File}

-- a vote on this patch set
abbrev pub is_on : ℕ → VoteKey × ℤ → Bool
is_on n e = (e.0.patch == n) && voted e.1

-- what submit requirements are judged by: a file, and the groups that were loaded
abbrev pub setting_by : File → GroupTable → Setting
setting_by file groups = record { file = file; groups = group_list groups }

-- What a question about a change is told by the file that was read and the groups that were loaded; where no file was read, whatever file and groups there are.
abbrev pub IsToldBy : Option File → GroupTable → ℕ → ChangeQuery → Change → Answer → Type 0
IsToldBy None groups n query c told = (s : Setting) → IsToldOf s n query c told
IsToldBy (Some file) groups n query c told = IsToldOf (setting_by file groups) n query c told

-- requirements are asked for, and no file was read
abbrev pub LacksFile : Option File → ChangeQuery → Type 0
LacksFile None Requirements = Unit {0}
LacksFile effective query = ⊥
