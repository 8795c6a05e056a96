use Rattle.{std.proofs.Common.refl, review_sql_change_lookups.proofs.Joining.none_joined}
use Rattle.review_sql_change_lookups.proofs.places.none_joined.Goals as goal

pub returns : goal.returns
returns c = λ branch db none. (0, refl, none_joined db branch none)
