use Rattle.review_sql_tables.proofs.Common.{◌≡◌, Ok, true, false, arith, nat_tests, nat_lt}
use Rattle.{review_sql_records.proofs.Common.look_on, review_sql.specs.Shelf.IsLookedUp}
use Rattle.review_sql.specs.declared.serving.LookedUp.TheVariants.{Closed, Open}
use Rattle.review_sql.proofs.serving.look_up.Goals as goal

pub returns-then-get-clause-looks : goal.returns-then-get-clause-looks
returns-then-get-clause-looks g c =
    let below : nat_lt c.args.key.now.epoch c.args.least ≡ true = let t = c.if-get.true in let x = c.get.ensures.value in let y = c.get-2.ensures.value in grind (arith, nat_tests, t, x, y) in
    look_on _ (IsLookedUp c.args.key.now c.args.least) _ _ c.in_ok-_least._least (Ok Closed) c.in_ok-_least.ensures.looks (λ db h. below)

pub returns-clause-looks : goal.returns-clause-looks
returns-clause-looks g c =
    let opened : nat_lt c.args.key.now.epoch c.args.least ≡ false = let t = c.if-get.false in let x = c.get.ensures.value in let y = c.get-2.ensures.value in grind (arith, nat_tests, t, x, y) in
    look_on _ (IsLookedUp c.args.key.now c.args.least) _ _ c.in_ok-found.found (Ok (Open c.in_ok-found.found)) c.in_ok-found.ensures.looks (λ db h. (opened, h))
