use Rattle.review_sql_tables.proofs.{Common.Moves, Common.answers_move, Migrated.moves_answers}
use Rattle.review_sql_tables.proofs.Sequences.{follow, settled_as}
use Rattle.review_sql_tables.proofs.migrating.move_answers.Goals as goal

pub returns-clause-ran : goal.returns-clause-ran
returns-clause-ran g c =
    let two = follow _ _ _ _ _ _ _ c.in_ok-run_text.ensures.makes c.in_ok-run_text-2.ensures.fills in
    let all = follow _ _ _ _ _ _ _ two c.in_ok-run_text-3.ensures.drops in
    settled_as _ (Moves answers_move) _ _ _ _ (λ old new h. moves_answers old h.1.0 h.0 new h.1.1 h.1.2 h.2) all
