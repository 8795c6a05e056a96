use Rattle.std.proofs.Common.{◌≡◌, ◌++◌, drop, flat_map, string_bytes}
use Rattle.review_desk_work.specs.Told.{vote_line}
use Rattle.review_desk_work.proofs.pages.push_votes.Given as goal

abbrev pub invariant-loop-vote : goal.invariant-loop-vote
invariant-loop-vote l = string_bytes l.text ++ flat_map vote_line (drop l.vote-index l.votes) ≡ string_bytes l.fn.text ++ flat_map vote_line l.votes
