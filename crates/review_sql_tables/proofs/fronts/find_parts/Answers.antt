use Rattle.std.proofs.lemmas.Grind.{common_steps}
use Rattle.review_sql_tables.proofs.Common.{rules, arith, ◌≡◌, Some, None, [], inr, is_some, true, subst, Ok, rows_of, row_in, WereSorted}
use Rattle.review_sql_tables.proofs.{Found.look_on, Owned.sorted_owned, Owned.step_apart, Owned.twins_found}
use Rattle.review_sql_tables.proofs.fronts.find_parts.Goals as goal

pub loop-row-init : goal.loop-row-init
loop-row-init g c = record { items = []; read_as = search rules; each = λ k. grind (arith, common_steps) }

pub loop-row-preserved : goal.loop-row-preserved
loop-row-preserved g c =
    let cmp = g.F.Part.Ord.cmp in
    let row = c.row-item.result in
    let item = c.in-Some.item in
    let is : g.F.Lookup.search.read row ≡ Some item = search rules in
    let free : row_in cmp (rows_of c.loop-row.table) item.0 ≡ None = search rules in
    step_apart cmp g.met.F.Front.lawful.exact g.F.Lookup.search.read _ c.loop-row.row-index row item (rows_of c.loop-row.table) (rows_of c.put.new.self) c.loop-row-test.true c.row-item.is c.loop-row.invariant is free c.in_ok-put.ensures.ok

pub returns-in_default-clause-looks : goal.returns-in_default-clause-looks
returns-in_default-clause-looks g c =
    let front = g.F.Lookup.search in
    let cmp = g.F.Part.Ord.cmp in
    let rows = c.in_ok-rows.rows in
    let same : c.deref-row-items.result.now ≡ rows.items = search rules in
    let odd : WereSorted cmp front.read c.deref-row-items.result.now None = grind (arith, common_steps) in
    look_on _ _ _ _ rows (Ok None) c.in_ok-rows.ensures.looks (λ db h. sorted_owned cmp front g.F.Front.whole g.met.F.Front.lawful c.args.owner.now db rows.items None (subst (λ l. WereSorted cmp front.read l None) same odd) h)

pub returns-then-is_some-clause-looks : goal.returns-then-is_some-clause-looks
returns-then-is_some-clause-looks g c =
    let front = g.F.Lookup.search in
    let cmp = g.F.Part.Ord.cmp in
    let rows = c.in_ok-rows.rows in
    let row = c.row-item.result in
    let item = c.in-Some.item in
    let same : c.deref-row-items.result.now ≡ rows.items = search rules in
    let is : front.read row ≡ Some item = search rules in
    let there : is_some (row_in cmp (rows_of c.loop-row.table) item.0) ≡ true = search rules in
    let twins = twins_found cmp g.met.F.Front.lawful.exact front.read _ c.loop-row.row-index row item (rows_of c.loop-row.table) c.loop-row-test.true c.row-item.is c.loop-row.invariant is there in
    look_on _ _ _ _ rows (Ok None) c.in_ok-rows.ensures.looks (λ db h. sorted_owned cmp front g.F.Front.whole g.met.F.Front.lawful c.args.owner.now db rows.items None (subst (λ l. WereSorted cmp front.read l None) same (inr twins)) h)

pub returns-clause-looks : goal.returns-clause-looks
returns-clause-looks g c =
    let front = g.F.Lookup.search in
    let cmp = g.F.Part.Ord.cmp in
    let rows = c.in_ok-rows.rows in
    let found = Some (rows_of c.loop-row.table) in
    let same : c.deref-row-items.result.now ≡ rows.items = search rules in
    let all : WereSorted cmp front.read c.deref-row-items.result.now found = grind (arith, common_steps) in
    look_on _ _ _ _ rows (Ok (Some c.loop-row.table)) c.in_ok-rows.ensures.looks (λ db h. sorted_owned cmp front g.F.Front.whole g.met.F.Front.lawful c.args.owner.now db rows.items found (subst (λ l. WereSorted cmp front.read l found) same all) h)
