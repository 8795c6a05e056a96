use Rattle.std.proofs.Common.{◌≡◌, ◌+◌, ◌∷◌, ◌++◌, [], ◌∙◌, ap, sym, drop, length, map, arith}
use Rattle.std.proofs.lemmas.List.{at_drop_more, length-append, length-map}
use Rattle.review_core_rules.specs.Threads.{shown_comment}
use Rattle.review_core_standing.proofs.InThreads.{all_gathered, gathered}
use Rattle.review_core_standing.specs.inner.Gathered.{place_of, put_in, thread_so_far}
use Rattle.review_core_standing.proofs.gathering.gather.Goals as goal

pub loop-comment-init : goal.loop-comment-init
loop-comment-init c = record {
  rest = (λ i. gathered (c.new-places.ensures.items i) (map thread_so_far (c.new-gathered.ensures.items i)) c.args.comments.now) ∙ all_gathered c.args.comments.now;
  many = ap length c.new-places.ensures.items;
}

pub loop-comment-preserved : goal.loop-comment-preserved
loop-comment-preserved c =
    let x = c.comment-item.result in
    let comments = c.args.comments.now in
    let index = c.loop-comment.comment-index in
    let places = c.loop-comment.places.items in
    let ts = map thread_so_far c.loop-comment.gathered.items in
    let rest = drop (index + 1) comments in
    let many : c.len.result ≡ length c.loop-comment.gathered.items = omega arith in
    let count : c.len-in-loop-comment.result ≡ length places = omega arith in
    let place : c.place_of-place.result ≡ place_of places (length ts) x = c.place_of-place.ensures ∙ (λ i. place_of (c.deref.ensures.value i) ((many ∙ sym (length-map c.loop-comment.gathered.items thread_so_far)) i) x) in
    let shown = c.in_ok-shown.ensures ∙ ap (λ n. shown_comment n x) (c.number_after.ensures ∙ ap (λ n. n + 1) count) in
    record {
      rest = (λ i. gathered (c.in_ok-push.ensures.items i) (c.in_ok-put_in.ensures i) rest)
          ∙ ((λ i. gathered (places ++ place i ∷ []) (put_in (place i) (shown i) ts) rest)
          ∙ (sym (at_drop_more (λ l. gathered places ts l) comments index x c.loop-comment-test.true ∙ ap (λ y. gathered places ts (y ∷ rest)) (sym c.comment-item.is))
          ∙ c.loop-comment.invariant.rest));
      many = ap length c.in_ok-push.ensures.items ∙ (length-append places (c.place_of-place.result ∷ []) ∙ ap (λ n. n + 1) c.loop-comment.invariant.many);
    }
