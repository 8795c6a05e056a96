use Rattle.std.proofs.Common.{[], false, inl, refl}
use Rattle.{std.proofs.KnownBytes.Appends-nil, review_http_requests.proofs.Given.gave_none}
use Rattle.review_machine.proofs.serve.serve_one.Goals as goal

pub returns-in_default-clause-served : goal.returns-in_default-clause-served
returns-in_default-clause-served g c = record {
  bytes = [];
  ended = false;
  text = [];
  gave = gave_none _;
  wrote = Appends-nil _;
  how = inl (refl, refl);
}
