use Rattle.std.proofs.Common.{◌+◌, inl, sym, subst, take}
use Rattle.review_machine_rows.proofs.Looked.{looked_asked, none_asked, one_agrees}
use Rattle.review_machine_rows.specs.Known.{AreAsked}
use Rattle.review_memory.specs.Desk.{desk_of, tables_of}
use Rattle.review_memory.proofs.tables.MemoryTables.load.Goals as goal

pub loop-want-init : goal.loop-want-init
loop-want-init c = record { asked = none_asked c.args.rows.now; found = λ w f is. inl is }

pub loop-want-preserved : goal.loop-want-preserved
loop-want-preserved c =
    let t = tables_of (desk_of c.args.self.now) in
    let wants = c.deref-want-items.result.now in
    let index = c.loop-want.want-index in
    let want = c.want-item.result in
    let first = c.args.rows.now in
    let old = c.loop-want.rows in
    let new = c.find.new.rows in
    let looks = c.in_ok-find.ensures.found in
    record {
      asked = subst (λ ws. AreAsked (take (index + 1) ws) first new) c.deref-want-items.ensures.value
          (looked_asked t wants index want first old new c.loop-want-test.true c.want-item.is (subst (λ ws. AreAsked (take index ws) first old) (sym c.deref-want-items.ensures.value) c.loop-want.invariant.asked) looks);
      found = one_agrees t want first old new looks c.loop-want.invariant.found;
    }
