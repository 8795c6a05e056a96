use Rattle.{std.proofs.Common.◌∙◌, clap.proofs.WalkLemmas.first_value-rows, clap.specs.Words.found_of}
use Rattle.review_desk_work.proofs.reading.text_at.Goals as goal

pub returns : goal.returns
returns c = c.get_str.ensures ∙ first_value-rows (found_of c.args.matches.now) c.args.id.now
