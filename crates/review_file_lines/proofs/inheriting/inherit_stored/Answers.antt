use Rattle.std.proofs.Common.{subst, sym}
use Rattle.review_file_rules.{proofs.Known.inherited_sound, specs.Sound.IsSoundFile}
use Rattle.review_file_lines.proofs.inheriting.inherit_stored.Goals as goal

pub new-requires : goal.new-requires
new-requires c =
    let p = c.facts.ensures in
    let o = c.facts-2.ensures in
    subst IsSoundFile (sym c.in_ok-content.ensures) (inherited_sound c.args.parent.now c.args.own.now (p.labels, p.names, p.groups) (o.labels, o.names, o.groups))
