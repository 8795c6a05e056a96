use Rattle.review_http_requests.proofs.Telling.{whole}
use Rattle.review_http_requests.proofs.request_laws.cuts_do_not_matter.Goals as goal

pub returns : goal.returns
returns c = λ input bytes left ended o g h. whole input bytes left ended o g h
