use Rattle.std.proofs.Common.{◌≡◌, ◌∙◌, ap, sym, subst, ◌++◌, ◌∷◌, []}
use Rattle.std.specs.{List.Sorted.IsStrictlySortedBy, Map.keys_of, Option.IsSome}
use Rattle.review_table.proofs.Places.{rows_of_skipped, rows_of_ended, not_empty, last_there, past_last}
use Rattle.review_table.specs.Rows.{rows_of, row_in}
use Rattle.review_table.proofs.table.Table.last_key.Goals as goal

-- the row of the key that is returned is the last
ended : (g : _) (c : goal.Then-is_some g) → (v : g.row.V.Denot) × (rows_of c.args.self.now ≡ rows_of c.next_back.new.self ++ (c.in-Some.key.now, v) ∷ [])
ended g c = rows_of_ended c.in-Some.key.now c.in-Some.place.now (sym c.is_some.ensures ∙ c.if-is_some.true) c.next_back.new.self c.loop-key.left c.args.self.now c.in-Some.ensures.steps c.loop-key.invariant

pub returns-then-is_some-clause-none : goal.returns-then-is_some-clause-none
returns-then-is_some-clause-none g c = (λ h. absurd (cc), λ none. absurd (not_empty (rows_of c.next_back.new.self) (c.in-Some.key.now, (ended g c).0) (sym (ended g c).1 ∙ none)))

pub returns-then-is_some-clause-there : goal.returns-then-is_some-clause-there
returns-then-is_some-clause-there g c =
    let last = ended g c in
    let R = g.K.Ord.cmp in
    subst (λ rows. IsSome (row_in R rows c.in-Some.key.now)) (sym last.1) (last_there g.met.K.Ord.total (rows_of c.next_back.new.self) c.in-Some.key.now last.0)

pub returns-then-is_some-clause-above : goal.returns-then-is_some-clause-above
returns-then-is_some-clause-above g c = λ q less.
    let last = ended g c in
    let R = g.K.Ord.cmp in
    let sorted = subst (λ rows. IsStrictlySortedBy R (keys_of rows)) last.1 c.once.ensures.sorted in
    ap (λ rows. row_in R rows q) last.1 ∙ past_last g.met.K.Ord.total (rows_of c.next_back.new.self) c.in-Some.key.now last.0 sorted q less

pub loop-key-preserved : goal.loop-key-preserved
loop-key-preserved g c = rows_of_skipped c.in-Some.key.now c.in-Some.place.now (sym c.is_some.ensures ∙ c.if-is_some.false) c.next_back.new.self c.loop-key.left c.args.self.now c.in-Some.ensures.steps c.loop-key.invariant
