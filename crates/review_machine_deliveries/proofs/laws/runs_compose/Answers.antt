use Rattle.review_machine_deliveries.proofs.Ran.{history_after-append, right-append}
use Rattle.review_machine_deliveries.proofs.laws.runs_compose.Goals as goal

pub returns : goal.returns
returns c = λ h0 ds es rs ss counts others one other.
    (history_after-append h0 ds es rs ss one.replies, right-append h0 ds es rs ss counts others one other)
