use Rattle.std.proofs.Common.{rules, ◌≡◌, ◌∙◌, ◌++◌, ◌∷◌, [], List, Option, Some, None, ap, append_assoc, refl, sym}
use Rattle.std.specs.Prelude.{option_and_then, option_map, string_bytes}
use Rattle.serde_json.specs.{Data.member, View.members_view, View.view}
use Rattle.review_words.specs.declared.changes.Given.{Given}
use Rattle.review_json_routes.specs.Reviews.{given_in, given_of}
use Rattle.review_json_routes.proofs.votes.labels_in.Goals as goal

-- one value more was read
one_more : (read : List Given) (one : Given) (rest : Option (List Given)) → option_map (λ more. (read ++ one ∷ []) ++ more) rest ≡ option_map (λ more. read ++ more) (option_map (λ more. one ∷ more) rest)
one_more read one None = refl
one_more read one (Some more) = ap Some (append_assoc read (one ∷ []) more)

pub loop-key-preserved : goal.loop-key-preserved
unfolding given_of
loop-key-preserved c =
    let key = string_bytes c.in-Some-2.key.now in
    let value = view c.in-Some-2.value.now in
    let one : Given = record { label = c.in_ok-label.label; value = c.in_ok-value.value } in
    let is : given_of key value ≡ Some one = search rules in
    let old = c.loop-key.given.items in
    let pushed : c.push.new.self.items ≡ old ++ one ∷ [] = search rules in
    let rest = members_view c.next.new.self in
    let front : members_view c.loop-key.key-iterator ≡ member key value rest = search rules in
    ap (λ xs. option_map (λ more. xs ++ more) (given_in rest)) pushed
    ∙ (one_more old one (given_in rest)
    ∙ (sym (ap (λ ms. option_map (λ more. old ++ more) (given_in ms)) front ∙ ap (λ o. option_map (λ more. old ++ more) (option_and_then (λ x. option_map (λ more. x ∷ more) (given_in rest)) o)) is)
    ∙ c.loop-key.invariant))
