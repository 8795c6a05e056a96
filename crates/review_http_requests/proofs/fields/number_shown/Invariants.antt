use Rattle.std.proofs.Common.{◌≡◌, ◌≤◌, drop}
use Rattle.review_http_requests.{proofs.Given.told, specs.Heads.digits_after, specs.Heads.most}
use Rattle.review_http_requests.proofs.fields.number_shown.Given as goal

abbrev pub invariant-loop-b : goal.invariant-loop-b
invariant-loop-b l = (told (digits_after l.number (drop l.b-index l.text)) ≡ told (digits_after 0 l.text)) × (l.number ≤ most)
