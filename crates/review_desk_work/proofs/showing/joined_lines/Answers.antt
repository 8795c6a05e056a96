use Rattle.std.proofs.{Common.[], Common.refl, KnownBytes.Appends-nil}
use Rattle.review_desk_work.{proofs.Replies.none_asked, specs.Told.branch_questions}
use Rattle.review_desk_work.proofs.showing.joined_lines.Goals as goal

pub returns-in_default : goal.returns-in_default
returns-in_default g c = record {
  replies = [];
  asked = none_asked (branch_questions c.args.project.now c.args.branch.now) _;
  text = [];
  written = Appends-nil _;
  is = refl;
}
