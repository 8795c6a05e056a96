use Rattle.std.proofs.Common.{◌∙◌, ap₂}
use Rattle.{review_file_rules.specs.Inherited.inherit, review_file_lines.proofs.Effective.effective_with}
use Rattle.review_file_lines.proofs.lines.ReadLine.inherit_stored.Goals as goal

pub invariant_of-result : goal.invariant_of-result
invariant_of-result c =
    effective_with _ c.args.self.now.texts c.args.own.text _ c.args.own.file c.args.self.now.file c.in_ok-texts.ensures (c.in_ok-file.ensures ∙ ap₂ inherit c.file.ensures.file c.file-2.ensures.file)
    c.file-2.ensures.read c.file.ensures.effective
