use Rattle.std.proofs.Common.{ap, sym}
use Rattle.{std.specs.Option.option_map, review_memory_rows.specs.Bases.commit_at}
use Rattle.review_memory_rows.proofs.bases.Branches.listed_at.Goals as goal

pub returns-then-base-last : goal.returns-then-base-last
returns-then-base-last c = ap (option_map (commit_at c.args.base.now.key)) (sym (c.requires.above c.args.base.now.key.place c.if-base-last.true))
