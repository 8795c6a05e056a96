use Rattle.{std.proofs.Common.sym, review_http_requests.proofs.Telling.front_short}
use Rattle.review_http_requests.proofs.judge.front_of.Goals as goal

pub returns-then-bytes-lt-FRONT : goal.returns-then-bytes-lt-FRONT
returns-then-bytes-lt-FRONT c = sym (front_short _ c.if-bytes-lt-FRONT.true)
