use Rattle.review_names.proofs.LabelForms.{label_is}
use Rattle.review_names.proofs.laws.label_form.Goals as goal

pub returns : goal.returns
returns c = label_is
