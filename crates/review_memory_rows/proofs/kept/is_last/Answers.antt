use Rattle.std.proofs.Common.{◌≡◌, ◌<◌, false, true, subst, sym, arith}
use Rattle.std.specs.{Cmp.nat_cmp_is, Option.IsSome, declared.cmp.Ordering.TheVariants.Less}
use Rattle.review_memory_rows.proofs.kept.is_last.Goals as goal

pub returns-then-get : goal.returns-then-get
returns-then-get c = λ last.
    let greater = c.if-get.true in
    let a = c.get.ensures.value in
    let b = c.get-2.ensures.value in
    let less : c.args.patch < c.in-Some.last.now = omega arith in
    let f : false ≡ true = subst IsSome (last c.in-Some.last.now less) c.in-Some.ensures.there in absurd (cc)

pub returns : goal.returns
returns c = λ m less.
    let other = c.if-get.false in
    let a = c.get.ensures.value in
    let b = c.get-2.ensures.value in
    let below : c.in-Some.last.now < m = omega arith in
    c.in-Some.ensures.above m (sym (nat_cmp_is c.in-Some.last.now m Less below))
