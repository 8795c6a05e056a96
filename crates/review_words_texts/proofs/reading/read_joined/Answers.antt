use Rattle.std.proofs.Common.{◌≤◌, length, map, arith}
use Rattle.{std.proofs.lemmas.List.length-map, review_names.specs.Forms.most_changes}
use Rattle.{review_words.specs.Texts.most_joined, review_words_texts.proofs.Told.gives_stored}
use Rattle.review_words_texts.proofs.reading.read_joined.Goals as goal

pub returns-clause-stored : goal.returns-clause-stored
returns-clause-stored c =
    let same = length-map c.args.fields.now (λ f. f.now) in
    let few : length (map (λ f. f.now) c.args.fields.now) ≤ most_joined = omega (arith, same, c.if-fields-gt100.false) in
    gives_stored most_joined most_changes _ (map (λ f. f.now) c.args.fields.now) few c.read_change_numbers.ensures
