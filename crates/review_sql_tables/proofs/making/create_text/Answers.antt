use Rattle.{std.proofs.Common.refl, review_sql_tables.proofs.TextsOfTables.each_of_twelve}
use Rattle.review_sql_tables.proofs.making.create_text.Goals as goal

pub returns : goal.returns
returns c d = each_of_twelve c.args.at c.requires (λ e. rw e refl) (λ e. rw e refl) (λ e. rw e refl) (λ e. rw e refl) (λ e. rw e refl) (λ e. rw e refl) (λ e. rw e refl) (λ e. rw e refl) (λ e. rw e refl) (λ e. rw e refl) (λ e. rw e refl) (λ e. rw e refl)
