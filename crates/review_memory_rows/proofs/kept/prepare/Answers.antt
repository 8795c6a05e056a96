use Rattle.{std.proofs.Common.refl, std.proofs.Common.subst, review_memory_rows.specs.Kept.IsPrepared}
use Rattle.review_memory_rows.proofs.kept.prepare.Goals as goal

pub returns-in_ok-push-in-Some : goal.returns-in_ok-push-in-Some
returns-in_ok-push-in-Some c =
    subst (λ o. IsPrepared o c.args.edit c.args.begun.now.items c.args.begun.now.items c.args.renewed.now.items c.push.new.self.items) c.in-Some.ensures
    (record { tables = c.in_ok-tables-in-Some.tables; edited = c.in_ok-tables-in-Some.ensures; listed = c.in_ok-push-in-Some.ensures.items }, refl)

pub returns-in_ok-push-in-None : goal.returns-in_ok-push-in-None
returns-in_ok-push-in-None c =
    subst (λ o. IsPrepared o c.args.edit c.args.begun.now.items c.push-in-None.new.self.items c.args.renewed.now.items c.args.renewed.now.items) c.in-None.ensures
    (record { tables = c.in_ok-tables-in-None.tables; edited = c.in_ok-tables-in-None.ensures; listed = c.in_ok-push-in-None.ensures.items }, refl)
