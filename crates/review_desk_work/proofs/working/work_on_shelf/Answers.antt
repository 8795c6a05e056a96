use Rattle.{std.proofs.Common.◌∙◌, review_sql.specs.Shelf.shown, review_desk_work.proofs.Turning.done_before}
use Rattle.review_desk_work.proofs.working.work_on_shelf.Goals as goal

pub returns-clause-done : goal.returns-clause-done
returns-clause-done g c = (
  c.do_task-ended.new.shelf,
  (done_before (shown g.S.Store g.O.Origin.IS_OURS) _ _ _ _ _ _ c.args.task.now c.do_task-ended.ensures.done, c.do_task-ended.ensures.quiet ∙ c.warn_of.ensures),
  c.close.ensures.closed,
)
