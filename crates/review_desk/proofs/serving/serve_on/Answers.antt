use Rattle.std.proofs.Common.{◌∙◌, ◌∷◌, ◌+◌, ◌≤◌, ◌==◌, ◌<◌, [], true, false, if◌then◌else◌, refl, sym, ap, arith}
use Rattle.{sqlite.specs.Files.over_files, sqlite_wal.specs.Files.image_at}
use Rattle.review_desk_work.proofs.Turning.{fewer_left, ended, given_up, is_error, shut, too_many}
use Rattle.review_desk_work.specs.{Faults.ClosedAs, Faults.OpenedFrom, Worked.Turn, Worked.row_behind, Worked.known}
use Rattle.review_desk.proofs.serving.serve_on.Goals as goal

pub loop-rest-init : goal.loop-rest-init
loop-rest-init g c = ([], true, tt, (refl, refl, refl, refl), refl, omega arith, omega arith, c.requires.mode, c.requires.idle)

pub work-worked-requires : goal.work-worked-requires
work-worked-requires g c = record { mode = c.loop-rest.invariant.7; idle = c.loop-rest.invariant.8 }

pub returns-in_default : goal.returns-in_default
returns-in_default g c =
    let now = known g.R.Read.remaining g.W.Write.contents g.C.Connections.coming g.C.Connections.told g.N.Notices.is_warned in
    let was = c.loop-rest.invariant in
    let t : Turn _ = record { is_anew = was.1; count = c.loop-rest.left; before = now c.loop-rest.ends; after = now c.work-worked.new.ends; old = c.loop-rest.conn; new = c.work-worked.result.0; ended = c.work-worked.result.1 } in
    let few : row_behind was.0 was.1 c.loop-rest.left ≤ 8 = omega (arith, was.4, was.5) in
    ended over_files c.args.first (OpenedFrom (image_at g.F.Start)) ClosedAs c.args.count (now c.args.ends.now) was.0 t (was.3, c.work-worked.ensures.done, was.2) few c.close.result c.after_closing.result (sym c.left_by.ensures ∙ c.in_default.is) c.close.ensures c.after_closing.ensures

pub row_with-in_row-requires : goal.row_with-in_row-requires
row_with-in_row-requires g c =
    record {
      few = c.loop-rest.invariant.5;
      fewer = (
          let now = known g.R.Read.remaining g.W.Write.contents g.C.Connections.coming g.C.Connections.told g.N.Notices.is_warned in
          fewer_left over_files c.loop-rest.left c.in-Some.rest (now c.loop-rest.ends) (now c.work-worked.new.ends) c.work-worked.result.1 (sym c.left_by.ensures ∙ c.in-Some.is) c.loop-rest.conn c.work-worked.result.0 c.work-worked.ensures.done);
    }

pub returns-then-in_row-gt-MOST_IN_ROW : goal.returns-then-in_row-gt-MOST_IN_ROW
returns-then-in_row-gt-MOST_IN_ROW g c =
    let now = known g.R.Read.remaining g.W.Write.contents g.C.Connections.coming g.C.Connections.told g.N.Notices.is_warned in
    let was = c.loop-rest.invariant in
    let t : Turn _ = record { is_anew = was.1; count = c.loop-rest.left; before = now c.loop-rest.ends; after = now c.work-worked.new.ends; old = c.loop-rest.conn; new = c.work-worked.result.0; ended = c.work-worked.result.1 } in
    let few : row_behind was.0 was.1 c.loop-rest.left ≤ 8 = omega (arith, was.4, was.5) in
    let many = too_many c.in-Some.rest c.loop-rest.left c.loop-rest.in_row c.row_with-in_row.result c.row_with-in_row.ensures (omega (arith, c.if-in_row-gt-MOST_IN_ROW.true)) was.5 in
    given_up over_files c.args.first (OpenedFrom (image_at g.F.Start)) ClosedAs c.args.count (now c.args.ends.now) was.0 t (was.3, c.work-worked.ensures.done, was.2) few c.in-Some.rest (sym c.left_by.ensures ∙ c.in-Some.is) many.0 (was.4 ∙ many.1)

pub returns-in_err-conn : goal.returns-in_err-conn
returns-in_err-conn g c =
    let now = known g.R.Read.remaining g.W.Write.contents g.C.Connections.coming g.C.Connections.told g.N.Notices.is_warned in
    let was = c.loop-rest.invariant in
    let t : Turn _ = record { is_anew = was.1; count = c.loop-rest.left; before = now c.loop-rest.ends; after = now c.work-worked.new.ends; old = c.loop-rest.conn; new = c.work-worked.result.0; ended = c.work-worked.result.1 } in
    let few : row_behind was.0 was.1 c.loop-rest.left ≤ 8 = omega (arith, was.4, was.5) in
    shut over_files c.args.first (OpenedFrom (image_at g.F.Start)) ClosedAs c.args.count (now c.args.ends.now) was.0 t (was.3, c.work-worked.ensures.done, was.2) few c.in-Some.rest c.in_err-conn.field-0.0 c.from_residual.result (sym c.left_by.ensures ∙ c.in-Some.is) c.in_err-conn.ensures.cause
    (is_error c.from_residual.result c.in_err-conn.field-0.0 c.from_residual.ensures.1)

pub loop-rest-smaller-in_ok-conn : goal.loop-rest-smaller-in_ok-conn
loop-rest-smaller-in_ok-conn g c =
    let now = known g.R.Read.remaining g.W.Write.contents g.C.Connections.coming g.C.Connections.told g.N.Notices.is_warned in
    fewer_left over_files c.loop-rest.left c.in-Some.rest (now c.loop-rest.ends) (now c.work-worked.new.ends) c.work-worked.result.1 (sym c.left_by.ensures ∙ c.in-Some.is) c.loop-rest.conn c.work-worked.result.0 c.work-worked.ensures.done

pub loop-rest-preserved-in_ok-conn : goal.loop-rest-preserved-in_ok-conn
loop-rest-preserved-in_ok-conn g c =
    let now = known g.R.Read.remaining g.W.Write.contents g.C.Connections.coming g.C.Connections.told g.N.Notices.is_warned in
    let was = c.loop-rest.invariant in
    let t : Turn _ = record { is_anew = was.1; count = c.loop-rest.left; before = now c.loop-rest.ends; after = now c.work-worked.new.ends; old = c.loop-rest.conn; new = c.work-worked.result.0; ended = c.work-worked.result.1 } in
    let few : row_behind was.0 was.1 c.loop-rest.left ≤ 8 = omega (arith, was.4, was.5) in
    let fewer : c.in-Some.rest < c.loop-rest.left =
    let now = known g.R.Read.remaining g.W.Write.contents g.C.Connections.coming g.C.Connections.told g.N.Notices.is_warned in
    fewer_left over_files c.loop-rest.left c.in-Some.rest (now c.loop-rest.ends) (now c.work-worked.new.ends) c.work-worked.result.1 (sym c.left_by.ensures ∙ c.in-Some.is) c.loop-rest.conn c.work-worked.result.0 c.work-worked.ensures.done in (
      t ∷ was.0,
      true,
      (was.3, c.work-worked.ensures.done, was.2),
      (sym c.left_by.ensures ∙ c.in-Some.is, refl, c.in_ok-conn.ensures.from),
      ap (λ row. if c.in-Some.rest + 1 == c.loop-rest.left then row + 1 else 1) was.4 ∙ sym c.row_with-in_row.ensures,
      omega (arith, c.if-in_row-gt-MOST_IN_ROW.false),
      omega (arith, fewer, was.6),
      c.in_ok-conn.ensures.mode,
      c.work-worked.ensures.idle,
    )

pub loop-rest-smaller : goal.loop-rest-smaller
loop-rest-smaller g c =
    let now = known g.R.Read.remaining g.W.Write.contents g.C.Connections.coming g.C.Connections.told g.N.Notices.is_warned in
    fewer_left over_files c.loop-rest.left c.in-Some.rest (now c.loop-rest.ends) (now c.work-worked.new.ends) c.work-worked.result.1 (sym c.left_by.ensures ∙ c.in-Some.is) c.loop-rest.conn c.work-worked.result.0 c.work-worked.ensures.done

pub loop-rest-preserved : goal.loop-rest-preserved
loop-rest-preserved g c =
    let now = known g.R.Read.remaining g.W.Write.contents g.C.Connections.coming g.C.Connections.told g.N.Notices.is_warned in
    let was = c.loop-rest.invariant in
    let t : Turn _ = record { is_anew = was.1; count = c.loop-rest.left; before = now c.loop-rest.ends; after = now c.work-worked.new.ends; old = c.loop-rest.conn; new = c.work-worked.result.0; ended = c.work-worked.result.1 } in
    let few : row_behind was.0 was.1 c.loop-rest.left ≤ 8 = omega (arith, was.4, was.5) in
    let fewer : c.in-Some.rest < c.loop-rest.left =
    let now = known g.R.Read.remaining g.W.Write.contents g.C.Connections.coming g.C.Connections.told g.N.Notices.is_warned in
    fewer_left over_files c.loop-rest.left c.in-Some.rest (now c.loop-rest.ends) (now c.work-worked.new.ends) c.work-worked.result.1 (sym c.left_by.ensures ∙ c.in-Some.is) c.loop-rest.conn c.work-worked.result.0 c.work-worked.ensures.done in (
      t ∷ was.0,
      false,
      (was.3, c.work-worked.ensures.done, was.2),
      (sym c.left_by.ensures ∙ c.in-Some.is, refl, (c.is_shut.ensures.stays, c.is_shut.ensures.open c.if-is_shut.false)),
      refl,
      omega arith,
      omega (arith, fewer, was.6),
      c.is_shut.ensures.mode,
      c.work-worked.ensures.idle,
    )
