use Rattle.std.proofs.Common.{◌≡◌, length, Err, ◌∙◌, sym, arith}
use Rattle.std.proofs.lemmas.Grind.{common_steps}
use Rattle.review_http_requests.proofs.Telling.{still_waits, found, judged_body, judged_refused, front_within}
use Rattle.review_http_requests.specs.inner.Words.{Judges}
use Rattle.review_http_requests.proofs.judge.judge.Goals as goal

pub returns-in_err-envelope-in-Ok-Complete : goal.returns-in_err-envelope-in-Ok-Complete
returns-in_err-envelope-in-Ok-Complete c =
    let w = rw c.in-Ok-Complete.field-0-is at c.in-Ok-Complete.ensures.complete in
    let v = rw c.in-Ok-Complete.field-0-is at c.in-Ok-Complete.ensures.within in
    let room : length c.parse_request.new.headers ≡ 64 = omega arith in
    let h = found c.args.bytes.now _ _ c.in-Ok-Complete.spans c.front_of-front.ensures room w v in
    let e = c.in_err-envelope-in-Ok-Complete.ensures in
    let j : Judges c.args.bytes.now c.args.ended (Err c.in_err-envelope-in-Ok-Complete.field-0.0) =
    judged_refused c.args.bytes.now h.0 c.args.ended _ h.1 (rw (h.4, ← c.of-method.ensures, ← c.of-target.ensures) e) in
    grind (arith, common_steps, j)

pub body_from-requires : goal.body_from-requires
body_from-requires c =
    front_within c.args.bytes.now c.in-Ok-Complete.spans.len (rw (sym c.front_of-front.ensures) (grind (arith, common_steps)))

pub returns-in_ok-envelope-in-Ok-Complete : goal.returns-in_ok-envelope-in-Ok-Complete
returns-in_ok-envelope-in-Ok-Complete c =
    let w = rw c.in-Ok-Complete.field-0-is at c.in-Ok-Complete.ensures.complete in
    let v = rw c.in-Ok-Complete.field-0-is at c.in-Ok-Complete.ensures.within in
    let room : length c.parse_request.new.headers ≡ 64 = omega arith in
    let h = found c.args.bytes.now _ _ c.in-Ok-Complete.spans c.front_of-front.ensures room w v in
    let e = c.in_ok-envelope-in-Ok-Complete.ensures in
    let f = rw c.body_from.ensures at c.finish.ensures in
    judged_body c.args.bytes.now c.in-Ok-Complete.spans.len c.in_ok-envelope-in-Ok-Complete.envelope c.args.ended c.finish.result
    (h.0, h.1, h.2, h.3, h.4 ∙ rw (← c.of-method.ensures, ← c.of-target.ensures) e) f

pub returns-then-bytes-wanted : goal.returns-then-bytes-wanted
returns-then-bytes-wanted c = still_waits c.args.bytes.now c.args.wanted c.args.ended c.if-not-ended.true c.requires c.if-bytes-wanted.true
