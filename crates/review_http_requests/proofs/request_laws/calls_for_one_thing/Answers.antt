use Rattle.review_http_requests.proofs.Telling.{one}
use Rattle.review_http_requests.proofs.request_laws.calls_for_one_thing.Goals as goal

pub returns : goal.returns
returns c = λ bytes ended o p x y. one bytes ended o p x y
