use Rattle.review_sql_tables.proofs.Common.{rules, ◌≡◌, ◌≤◌, ◌<◌, ◌∙◌, ◌-◌, ◌+◌, ◌++◌, ℕ, List, suc, drop, take, length, get_or, ◌∷◌, [], Ok, true, false, refl, subst, sym, ap, arith, drop-cons, take_more, State, state, Inside, Then}
use Rattle.review_sql_tables.proofs.Sequences.{still}
use Rattle.review_sql_records.proofs.Common.{next, ChangeEdit}
use Rattle.review_sql_writes.specs.inner.Words.{SetsEdits, SetsUnless, is_named}
use Rattle.review_sql_writes.proofs.writing.write_edits.Goals as goal

-- one edit more was made, unless one before it is of the same change
made : (xs : List ChangeEdit) (left : ℕ) (item : ChangeEdit) (a m b : State) → 0 < left → left ≤ length xs → get_or xs (left - 1) item ≡ item
    → Inside {X = Unit {0}} (SetsEdits (take left xs) (drop left xs)) a m (Ok (tt {0})) → Inside {X = Unit {0}} (SetsUnless (is_named (take (left - 1) xs) item.change) item) m b (Ok (tt {0}))
    → Inside {X = Unit {0}} (SetsEdits (take (left - 1) xs) (drop (left - 1) xs)) a b (Ok (tt {0}))
made xs left item a m b some within is before unless =
    let front = take (left - 1) xs in
    let up : suc (left - 1) ≡ left = omega (arith, some) in
    let more : left - 1 + 1 ≡ left = omega (arith, some) in
    let low : left - 1 < length xs = omega (arith, some, within) in
    let split : drop (left - 1) xs ≡ item ∷ drop left xs = drop-cons xs (left - 1) item low ∙ (λ i. is i ∷ drop (up i) xs) in
    let longer : take left xs ≡ front ++ item ∷ [] = ap (λ n. take n xs) (sym more) ∙ (take_more xs (left - 1) item low ∙ (λ i. front ++ is i ∷ [])) in
    let both = next (SetsEdits (take left xs) (drop left xs)) (SetsUnless (is_named front item.change) item) a m b (tt {0}) (Ok (tt {0})) before unless in
    let whole = subst (λ fs. Inside {X = Unit {0}} (Then (SetsEdits fs (drop left xs)) (SetsUnless (is_named front item.change) item)) a b (Ok (tt {0}))) longer both in
    subst (λ es. Inside {X = Unit {0}} (SetsEdits front es) a b (Ok (tt {0}))) (sym split) whole

pub loop-left-preserved-then-is_named : goal.loop-left-preserved-then-is_named
loop-left-preserved-then-is_named g c =
    let inv = c.loop-left.invariant in
    let xs = c.args.edits.now in
    let left = c.loop-left.left in
    let item = c.index-edits-left.result in
    let m = state g.S.Store c.loop-left.tx.conn.now in
    let is : get_or xs (left - 1) item ≡ item = search rules in
    let named : is_named (take (left - 1) xs) item.change ≡ true = search rules in
    let unless = subst (λ b. Inside {X = Unit {0}} (SetsUnless b item) m m (Ok (tt {0}))) (sym named) (still (SetsUnless true item) m (tt {0}) (λ db. refl)) in
    record { within = omega (arith, inv.within); reference = inv.reference; ran = made xs left item _ m m c.loop-left-test.true inv.within is inv.ran unless }

pub loop-left-preserved : goal.loop-left-preserved
loop-left-preserved g c =
    let inv = c.loop-left.invariant in
    let xs = c.args.edits.now in
    let left = c.loop-left.left in
    let item = c.index-edits-left.result in
    let m = state g.S.Store c.loop-left.tx.conn.now in
    let b = state g.S.Store c.write_edit.new.tx.conn.now in
    let is : get_or xs (left - 1) item ≡ item = search rules in
    let other : is_named (take (left - 1) xs) item.change ≡ false = search rules in
    let unless = subst (λ is. Inside {X = Unit {0}} (SetsUnless is item) m b (Ok (tt {0}))) (sym other) c.in_ok-write_edit.ensures.ran in
    record { within = omega (arith, inv.within); reference = c.write_edit.ensures.same_reference ∙ inv.reference; ran = made xs left item _ m b c.loop-left-test.true inv.within is inv.ran unless }
