use Rattle.std.proofs.Common.{◌<◌, arith, length, inl, inr, refl}
use Rattle.std.proofs.lemmas.Bool.Decides.{nat_tests}
use Rattle.review_http_requests.proofs.Telling.{ended_in_head, awaits_head}
use Rattle.review_http_requests.proofs.judge.unfinished.Goals as goal

pub returns-then-bytes-ge-FRONT : goal.returns-then-bytes-ge-FRONT
returns-then-bytes-ge-FRONT c = inr (inr (refl, inl (c.if-bytes-ge-FRONT.true, c.requires.0)))

pub returns-then-not-ended : goal.returns-then-not-ended
returns-then-not-ended c = awaits_head c.args.bytes.now c.args.ended c.if-not-ended.true c.if-bytes-ge-FRONT.false c.requires

pub returns : goal.returns
returns c =
    let some : 0 < length c.args.bytes.now = grind (arith, nat_tests) in
    ended_in_head c.args.bytes.now c.args.ended c.if-not-ended.false some c.if-bytes-ge-FRONT.false c.requires.0
