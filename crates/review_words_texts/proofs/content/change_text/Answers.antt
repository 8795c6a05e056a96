use Rattle.std.proofs.Common.{◌≡◌, [], ◌∷◌, ◌++◌, length, map, ap, subst, ◌∙◌, IfOk, codes, string_bytes}
use Rattle.review_names.specs.Numerals.{numeral}
use Rattle.review_words.specs.Texts.{command_fields, shown_truth, text_of}
use Rattle.{review_words.specs.declared.command.Command.TheVariants.CreateChange, review_words_texts.specs.Shown.shown}
use Rattle.review_words_texts.proofs.content.change_text.Goals as goal

pub returns : goal.returns
returns c =
    let new = c.args.new.now in
    let paths = c.as_slice-paths.ensures.paths in
    let behind = c.as_slice-paths.result.now ++ shown_truth new.wip ∷ [] in
    let head = ap (λ pieces. map shown pieces ++ behind) c.in_ok-out.ensures.items in
    let fields : map shown c.deref.result.now ≡ command_fields (CreateChange new) =
    ap (map shown) c.deref.ensures.value ∙ (c.in_ok-add_paths_and_truth.ensures ∙ (head ∙ (λ i. codes "CreateChange" ∷ c.as_str.ensures.text i ∷ c.as_str-2.ensures.text i ∷ c.as_str-3.ensures.text i
    ∷ c.as_str-4.ensures.text i ∷ c.as_str-5.ensures.text i ∷ numeral (length (paths i)) ∷ (paths i ++ shown_truth new.wip ∷ [])))) in
    subst (λ fields. IfOk c.joined.result (λ t. string_bytes t ≡ text_of fields)) fields c.joined.ensures
