use Rattle.std.proofs.Common.{◌<◌, length, refl, subst}
use Rattle.{review_sql_tables.proofs.TextsOfTables.each_of_twelve, review_sql.specs.Shelf.rows_read}
use Rattle.review_sql.proofs.there.read_row.Goals as goal

pub returns-in-Third : goal.returns-in-Third
returns-in-Third c d =
    let low : c.args.at < 12 = subst (λ v. c.args.at < length (rows_read v)) c.in-Third.is c.requires in
    rw c.in-Third.is (each_of_twelve c.args.at low (λ e. rw e refl) (λ e. rw e refl) (λ e. rw e refl) (λ e. rw e refl) (λ e. rw e refl) (λ e. rw e refl) (λ e. rw e refl) (λ e. rw e refl) (λ e. rw e refl) (λ e. rw e refl) (λ e. rw e refl) (λ e. rw e refl))
