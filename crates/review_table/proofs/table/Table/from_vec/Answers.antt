use Rattle.std.proofs.Common.{◌∙◌, ap, sym, arith}
use Rattle.review_table.proofs.Places.{distinct_by_length, length_by_distinct, map_place, flat_some, never_empty}
use Rattle.review_table.specs.Rows.{flat}
use Rattle.review_table.proofs.table.Table.from_vec.Goals as goal

pub returns-then-len-count-clause-double : goal.returns-then-len-count-clause-double
returns-then-len-count-clause-double g c = λ _ distinct.
    let is = length_by_distinct g.met.K.Ord.total c.args.rows.items c.in-Ok.places c.in-Ok.ensures distinct in
    let less = c.if-len-count.true in
    let now = c.len.ensures.len in
    let was = c.len-count.ensures in
    search arith

pub returns-clause-ok : goal.returns-clause-ok
returns-clause-ok g c =
    let now = c.len.ensures.len in
    let was = c.len-count.ensures in
    let most = c.if-len-count.false in
    let distinct = distinct_by_length g.met.K.Ord.total c.args.rows.items c.in-Ok.places c.in-Ok.ensures (search arith) in (
      distinct,
      λ q. sym (c.once.ensures.rows q) ∙ (ap flat (map_place g.met.K.Ord.total c.args.rows.items c.in-Ok.places c.in-Ok.ensures distinct q) ∙ flat_some _),
    )

pub returns-clause-full : goal.returns-clause-full
returns-clause-full g c = λ q empty.
    let now = c.len.ensures.len in
    let was = c.len-count.ensures in
    let most = c.if-len-count.false in
    let distinct = distinct_by_length g.met.K.Ord.total c.args.rows.items c.in-Ok.places c.in-Ok.ensures (search arith) in
    never_empty _ (sym (map_place g.met.K.Ord.total c.args.rows.items c.in-Ok.places c.in-Ok.ensures distinct q) ∙ empty)
