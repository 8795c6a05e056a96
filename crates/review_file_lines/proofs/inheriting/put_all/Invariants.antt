use Rattle.std.proofs.Common.{◌≡◌, drop}
use Rattle.{std.specs.Prelude.fold, review_file_rules.specs.Inherited.put_by}
use Rattle.review_file_lines.proofs.inheriting.put_all.Given as goal

abbrev pub invariant-loop-thing : goal.invariant-loop-thing
invariant-loop-thing g l = fold (put_by g.N.Named.name_of) l.things.items (drop l.thing-index l.more) ≡ fold (put_by g.N.Named.name_of) l.initial.things.items l.more
