-- How many values an array has, and how many members a table.
use Rattle.std.proofs.Common.{◌≡◌, suc, List, [], ◌∷◌, length, String, Global, refl, ap}
use Rattle.toml.specs.{View.items_view, View.members_view, declared.value.Value.Value}
use Rattle.review_file_document.specs.Document.{members, values}

pub length_values : (vs : List Value) → length (values (items_view vs)) ≡ length vs
length_values [] = refl
length_values (v ∷ vs) = ap (λ n. suc n) (length_values vs)

pub length_members : (es : List (String Global × Value)) → length (members (members_view es)) ≡ length es
length_members [] = refl
length_members (e ∷ es) = ap (λ n. suc n) (length_members es)
