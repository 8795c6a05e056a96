use Rattle.std.proofs.Common.{◌≡◌, ◌+◌, ◌++◌, drop, string_bytes}
use Rattle.review_desk_work.specs.Told.{joined_from}
use Rattle.review_desk_work.proofs.pages.joined_text.Given as goal

abbrev pub invariant-loop-index : goal.invariant-loop-index
invariant-loop-index l = string_bytes l.text ++ joined_from (l.index + 1) (drop l.index l.joined) ≡ joined_from 1 l.joined
