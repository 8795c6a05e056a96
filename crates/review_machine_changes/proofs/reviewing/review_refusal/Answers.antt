use Rattle.std.proofs.Common.{◌∙◌, Some, sym, unwrap_or}
use Rattle.{std.specs.Option.option_copied, review_names.specs.Forms.is_within}
use Rattle.{review_words.specs.declared.reply.Refusal.TheVariants.NoPatchSet, review_file_rules.specs.Inherited.no_file}
use Rattle.review_core_rules.specs.{Change.current, Change.reviewed, Seen.seen}
use Rattle.review_machine_rows.specs.{Answer.given_checks, Answer.said_checks, Desks.facts_by}
use Rattle.review_machine_changes.proofs.Made.{first_of}
use Rattle.review_machine_changes.proofs.reviewing.review_refusal.Goals as goal

pub returns-then-is_some : goal.returns-then-is_some
returns-then-is_some c =
    let a = c.args in
    let r = a.review.now in
    let x = seen a.change.now in
    first_of (given_checks (facts_by a.rows.now (option_copied a.effective)) (unwrap_or (option_copied a.effective) no_file) a.caller r x r.labels) (said_checks r x) c.in_ok-values.values (is_within (current x) (reviewed r x)) (Some NoPatchSet)
    (sym c.has_reviewed.ensures ∙ c.if-not-has_reviewed.false) c.in_ok-values.ensures (sym c.is_some.ensures ∙ c.if-is_some.true)
