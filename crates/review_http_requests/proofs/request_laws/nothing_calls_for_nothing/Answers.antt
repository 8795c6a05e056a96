use Rattle.review_http_requests.proofs.Telling.{nothing}
use Rattle.review_http_requests.proofs.request_laws.nothing_calls_for_nothing.Goals as goal

pub returns : goal.returns
returns c = nothing
