use Rattle.std.proofs.Common.{◌≡◌, ◌++◌, drop, flat_map, string_bytes}
use Rattle.review_desk_work.specs.Told.{attention_line}
use Rattle.review_desk_work.proofs.pages.push_attention_lines.Given as goal

abbrev pub invariant-loop-call : goal.invariant-loop-call
invariant-loop-call l = string_bytes l.text ++ flat_map attention_line (drop l.call-index l.calls) ≡ string_bytes l.fn.text ++ flat_map attention_line l.calls
