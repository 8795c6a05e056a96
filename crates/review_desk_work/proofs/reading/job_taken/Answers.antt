use Rattle.std.proofs.Common.{◌∙◌, ap, subst}
use Rattle.review_desk_work.proofs.Usage.{found_job, no_job}
use Rattle.review_desk_work.specs.Jobs.{Gives, spelled, fault_of_kind}
use Rattle.review_desk_work.proofs.reading.job_taken.Goals as goal

pub returns-in-Err : goal.returns-in-Err
returns-in-Err c = no_job _ _ c.in-Err.error c.from.result c.in-Ok.ensures.0 c.in-Err.ensures.kinds (c.from.ensures ∙ ap fault_of_kind c.kind.ensures)

pub returns-in-Ok-try_get_matches_from : goal.returns-in-Ok-try_get_matches_from
returns-in-Ok-try_get_matches_from c =
    let it = c.in-Ok-try_get_matches_from in
    subst (Gives spelled c.job_in.result) (found_job _ _ it.matches c.in-Ok.ensures.0 it.ensures.matches it.ensures.kinds) c.job_in.ensures
