use Rattle.std.proofs.Common.{arith, ◌≤◌, ◌∷◌, ◌++◌, [], ◌∙◌, ap, sym, subst, map, length, refl}
use Rattle.std.proofs.lemmas.List.{length-map, map-append}
use Rattle.review_core_standing.proofs.InThreads.{put_past, put_set}
use Rattle.review_core_standing.specs.inner.Gathered.{thread_so_far}
use Rattle.review_core_standing.proofs.gathering.put_in.Goals as goal

pub returns-then-place-len : goal.returns-then-place-len
returns-then-place-len c =
    put_set c.args.gathered.now.items c.args.place c.index_mut-one.result.now c.index_mut-one.result.now
    (record { root = c.index_mut-one.result.now.root; comments = c.push.new.self; unresolved = c.args.comment.unresolved }) c.args.comment
    (omega arith) c.index_mut-one.ensures.value refl c.in_ok-push.ensures.items refl

pub returns : goal.returns
returns c =
    let all = c.args.gathered.now.items in
    let past : length (map thread_so_far all) ≤ c.args.place = subst (λ n. n ≤ c.args.place) (sym (length-map all thread_so_far)) (omega arith) in
    ap (map thread_so_far) c.in_ok-push-2.ensures.items
    ∙ (map-append thread_so_far all (c.in_ok-begun.field-0 ∷ [])
    ∙ (ap (λ t. map thread_so_far all ++ t ∷ []) c.in_ok-begun.ensures ∙ sym (put_past c.args.comment c.args.place (map thread_so_far all) past)))
