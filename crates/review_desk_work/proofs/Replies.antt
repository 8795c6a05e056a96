-- Questions and their replies.
use Rattle.std.proofs.Common.{◌≡◌, List, [], length, take, sym, subst, arith, take_all}
use Rattle.review_words.specs.declared.{command.Delivery.Delivery, reply.Reply.Reply}
use Rattle.{review_machine_rows.specs.Shelf.Shown, review_machine_deliveries.proofs.Ran.ran_none}
use Rattle.{review_machine_deliveries.specs.Delivered.WasRun, review_desk_work.specs.Told.WereAsked}

-- all questions were asked
pub all_asked : (ds : List Delivery) (rs : List Reply) (old new : Shown) → WasRun ds rs old new → WereAsked ds rs old new
all_asked ds rs old new ran =
    let same : take (length rs) ds ≡ ds = take_all (length rs) ds (omega (arith, ran.each)) in
    subst (λ (l : List Delivery). WasRun l rs old new) (sym same) ran

-- none was asked
pub none_asked : (ds : List Delivery) (s : Shown) → WereAsked ds [] s s
none_asked ds s = ran_none s
