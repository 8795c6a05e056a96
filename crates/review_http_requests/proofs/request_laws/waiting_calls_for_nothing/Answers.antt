use Rattle.review_http_requests.proofs.Telling.{waiting}
use Rattle.review_http_requests.proofs.request_laws.waiting_calls_for_nothing.Goals as goal

pub returns : goal.returns
returns c = λ bytes o w h. waiting bytes o w h
