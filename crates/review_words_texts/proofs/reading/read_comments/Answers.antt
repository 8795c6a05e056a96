use Rattle.std.proofs.{Common.◌≤◌, Common.length, Common.map, Common.arith, lemmas.List.length-map}
use Rattle.{review_names.specs.Forms.most_comments, review_words_texts.proofs.Told.gives_stored}
use Rattle.review_words_texts.proofs.reading.read_comments.Goals as goal

pub returns-clause-stored : goal.returns-clause-stored
returns-clause-stored c =
    let same = length-map c.args.fields.now (λ f. f.now) in
    let few : length (map (λ f. f.now) c.args.fields.now) ≤ most_comments = omega (arith, same, c.if-fields-gt10000.false) in
    gives_stored most_comments most_comments _ (map (λ f. f.now) c.args.fields.now) few c.read_comment_numbers.ensures
