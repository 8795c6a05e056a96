use Rattle.review_memory_rows.proofs.bases.begin.Goals as goal

pub returns-in_err-reserve-clause-spare : goal.returns-in_err-reserve-clause-spare
returns-in_err-reserve-clause-spare c = c.reserve.ensures.spare c.args.bases.now c.args.commits.now

pub returns-in_err-placed-clause-spare : goal.returns-in_err-placed-clause-spare
returns-in_err-placed-clause-spare c = c.reserve.ensures.spare c.args.bases.now c.args.commits.now

pub returns-clause-spare : goal.returns-clause-spare
returns-clause-spare c = λ full.
    let made = c.reserve.ensures.spare c.args.bases.now c.args.commits.now full in
    record {
      bases_full = c.place.ensures.bases_full made.bases_full;
      commits_full = c.place.ensures.commits_full made.commits_full;
      lasts_spare = made.lasts_spare;
      totals_spare = made.totals_spare;
    }
