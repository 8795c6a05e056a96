use Rattle.std.proofs.Common.{◌≡◌, ◌∙◌, ◌++◌, ap, sym, map, append-nil}
use Rattle.std.specs.{BTreeMap.is_at, List.list_any, Map.keys_of}
use Rattle.review_table.{proofs.Noted.among, specs.Rows.rows_of}
use Rattle.review_table.proofs.edited.Edited.keys.Goals as goal

pub returns : goal.returns
returns g c = λ q some.
    let keys = map (λ k. k.now) c.loop-key-2.keys.items in
    let R = g.K.Ord.cmp in
    let all : keys ≡ keys_of (rows_of c.args.self.now.rows.now) ++ keys_of c.args.self.now.edits.entries =
    sym (append-nil keys) ∙ (ap (λ t. keys ++ keys_of t) (sym c.in-None-2.ensures.steps.0) ∙ c.loop-key-2.invariant) in
    ap (list_any (is_at (R q))) all ∙ among R q (rows_of c.args.self.now.rows.now) c.args.self.now.edits.entries some
