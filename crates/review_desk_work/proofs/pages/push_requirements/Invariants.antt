use Rattle.std.proofs.Common.{◌≡◌, ◌++◌, drop, flat_map, string_bytes}
use Rattle.review_desk_work.specs.Told.{requirement_line}
use Rattle.review_desk_work.proofs.pages.push_requirements.Given as goal

abbrev pub invariant-loop-requirement : goal.invariant-loop-requirement
invariant-loop-requirement l = string_bytes l.text ++ flat_map requirement_line (drop l.requirement-index l.requirements) ≡ string_bytes l.fn.text ++ flat_map requirement_line l.requirements
