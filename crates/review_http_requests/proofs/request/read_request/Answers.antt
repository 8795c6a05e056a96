use Rattle.std.proofs.Common.{◌∙◌, arith}
use Rattle.review_http_requests.proofs.Telling.{called, faulted, unfinished, stopped, waits_still, gave_read, gave_some, gave_all, counted, read_once, read_once_more, one_read, told_whole, judged_at}
use Rattle.review_http_requests.proofs.request.read_request.Goals as goal

pub loop-delivery-preserved : goal.loop-delivery-preserved
loop-delivery-preserved g c =
    let more = c.in-Ok.ensures.gave in
    record {
      few = omega (arith, c.loop-delivery.invariant.few, c.if-reads-eq4096.false);
      gave = gave_read _ _ _ _ _ _ _ _ c.in-Ok.came c.loop-delivery.invariant.gave more.2 more.3;
      some = λ last. gave_some _ _ _ _ c.in-Ok.came c.loop-delivery.reads (c.loop-delivery.invariant.some (judged_at _ _ _ _ c.in-Ok-Wants.field-0-is c.in-Ok-Wants.ensures).0) more.3 last;
      all = gave_all _ _ _ _ c.in-Ok.came c.loop-delivery.reads (c.loop-delivery.invariant.some (judged_at _ _ _ _ c.in-Ok-Wants.field-0-is c.in-Ok-Wants.ensures).0) more.3;
      none = λ no. absurd (omega arith);
      reads = λ _. one_read _ _ _ c.loop-delivery.reads c.loop-delivery.invariant.none c.loop-delivery.invariant.reads c.read_more.ensures.reads;
      waits = waits_still _ _ _ _ _ c.in-Ok.came c.loop-delivery.ended c.in-Ok-Wants.count c.as_slice.ensures.value (judged_at _ _ _ _ c.in-Ok-Wants.field-0-is c.in-Ok-Wants.ensures) more.3;
      faults = c.in-Ok.ensures.kept ∙ c.loop-delivery.invariant.faults;
    }

pub returns-in-Ok-Whole-clause-whole : goal.returns-in-Ok-Whole-clause-whole
returns-in-Ok-Whole-clause-whole g c =
    told_whole _ _ _ (called _ _ _ _ c.loop-delivery.ended c.in-Ok-Whole.delivery c.loop-delivery.invariant.gave c.as_slice.ensures.value (judged_at _ _ _ _ c.in-Ok-Whole.field-0-is c.in-Ok-Whole.ensures))

pub returns-in-Err-clause-told : goal.returns-in-Err-clause-told
returns-in-Err-clause-told g c = faulted _ _ _ _ c.loop-delivery.ended c.in-Err.fault c.loop-delivery.invariant.gave c.as_slice.ensures.value c.in-Err.ensures

pub returns-in-Err-clause-whole : goal.returns-in-Err-clause-whole
returns-in-Err-clause-whole g c =
    told_whole _ _ _ (faulted _ _ _ _ c.loop-delivery.ended c.in-Err.fault c.loop-delivery.invariant.gave c.as_slice.ensures.value c.in-Err.ensures)

pub returns-in-Err-Memory-clause-told : goal.returns-in-Err-Memory-clause-told
returns-in-Err-Memory-clause-told g c =
    let gone = c.read_more.ensures.gave in
    stopped _ _ _ _ _ _ _ c.loop-delivery.invariant.gave gone.2

pub returns-in-Ok-Whole-clause-once : goal.returns-in-Ok-Whole-clause-once
returns-in-Ok-Whole-clause-once g c =
    read_once _ _ _ c.loop-delivery.ended _ _ c.loop-delivery.reads c.loop-delivery.invariant.gave c.loop-delivery.invariant.all (counted _ _ c.loop-delivery.reads c.loop-delivery.invariant.none c.loop-delivery.invariant.reads)

pub returns-in-Err-clause-once : goal.returns-in-Err-clause-once
returns-in-Err-clause-once g c =
    read_once _ _ _ c.loop-delivery.ended _ _ c.loop-delivery.reads c.loop-delivery.invariant.gave c.loop-delivery.invariant.all (counted _ _ c.loop-delivery.reads c.loop-delivery.invariant.none c.loop-delivery.invariant.reads)

pub returns-in-Err-Read-clause-once : goal.returns-in-Err-Read-clause-once
returns-in-Err-Read-clause-once g c =
    read_once_more _ _ _ c.loop-delivery.ended _ _ _ c.loop-delivery.reads c.loop-delivery.invariant.gave (c.loop-delivery.invariant.some (judged_at _ _ _ _ c.in-Ok-Wants.field-0-is c.in-Ok-Wants.ensures).0)
    (counted _ _ c.loop-delivery.reads c.loop-delivery.invariant.none c.loop-delivery.invariant.reads) c.read_more.ensures.reads

pub returns-in-Err-Memory-clause-once : goal.returns-in-Err-Memory-clause-once
returns-in-Err-Memory-clause-once g c =
    read_once_more _ _ _ c.loop-delivery.ended _ _ _ c.loop-delivery.reads c.loop-delivery.invariant.gave (c.loop-delivery.invariant.some (judged_at _ _ _ _ c.in-Ok-Wants.field-0-is c.in-Ok-Wants.ensures).0)
    (counted _ _ c.loop-delivery.reads c.loop-delivery.invariant.none c.loop-delivery.invariant.reads) c.read_more.ensures.reads

pub returns-in-Ok-Whole-clause-few : goal.returns-in-Ok-Whole-clause-few
returns-in-Ok-Whole-clause-few g c =
    let now = counted _ _ c.loop-delivery.reads c.loop-delivery.invariant.none c.loop-delivery.invariant.reads in
    omega (arith, now, c.loop-delivery.invariant.few)

pub returns-in-Err-clause-few : goal.returns-in-Err-clause-few
returns-in-Err-clause-few g c =
    let now = counted _ _ c.loop-delivery.reads c.loop-delivery.invariant.none c.loop-delivery.invariant.reads in
    omega (arith, now, c.loop-delivery.invariant.few)

pub returns-then-reads-eq4096-clause-told : goal.returns-then-reads-eq4096-clause-told
returns-then-reads-eq4096-clause-told g c =
    unfinished _ _ _ _ c.loop-delivery.ended c.loop-delivery.reads _ c.loop-delivery.invariant.gave c.as_slice.ensures.value c.loop-delivery.invariant.some (omega arith) (judged_at _ _ _ _ c.in-Ok-Wants.field-0-is c.in-Ok-Wants.ensures)

pub returns-then-reads-eq4096-clause-whole : goal.returns-then-reads-eq4096-clause-whole
returns-then-reads-eq4096-clause-whole g c =
    told_whole _ _ _ (unfinished _ _ _ _ c.loop-delivery.ended c.loop-delivery.reads _ c.loop-delivery.invariant.gave c.as_slice.ensures.value c.loop-delivery.invariant.some (omega arith) (judged_at _ _ _ _ c.in-Ok-Wants.field-0-is c.in-Ok-Wants.ensures))

pub returns-then-reads-eq4096-clause-once : goal.returns-then-reads-eq4096-clause-once
returns-then-reads-eq4096-clause-once g c =
    read_once _ _ _ c.loop-delivery.ended _ _ c.loop-delivery.reads c.loop-delivery.invariant.gave c.loop-delivery.invariant.all (counted _ _ c.loop-delivery.reads c.loop-delivery.invariant.none c.loop-delivery.invariant.reads)
