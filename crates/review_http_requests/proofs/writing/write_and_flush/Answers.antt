use Rattle.std.proofs.Common.{◌≤◌, ◌+◌, ◌∙◌, arith, ℕ, List, subst, take, drop, length, length-drop}
use Rattle.std.{proofs.KnownBytes.Appends-kept, specs.Io.KnownBytes.Appends}
use Rattle.review_http_requests.proofs.Given.{wrote_more, took_some, first_part}
use Rattle.review_http_requests.proofs.writing.write_and_flush.Goals as goal

pub loop-start-preserved : goal.loop-start-preserved
loop-start-preserved g c =
    let rest = c.bytes_from.ensures in
    let P : List ℕ → Type 0 = λ l. Appends (g.W.Write.contents c.loop-start.writer.inner) (g.W.Write.contents c.write.new.self.inner) (take c.in-Ok.count l) in
    let bound : c.in-Ok.count ≤ length (drop c.loop-start.start c.args.bytes.now) = subst (λ (l : List ℕ). c.in-Ok.count ≤ length l) rest c.in-Ok.ensures.bound in
    record {
      within = omega (arith, length-drop c.loop-start.start c.args.bytes.now);
      written = wrote_more _ _ _ _ _ _ c.loop-start.invariant.within c.loop-start.invariant.written (subst P rest c.in-Ok.ensures.bytes);
      faults = c.in-Ok.ensures.faults ∙ (took_some c.in-Ok.count c.loop-start.writer.faults c.in-Ok.count-test.1 ∙ c.loop-start.invariant.faults);
    }

pub returns-in-Ok-eq0-clause-part : goal.returns-in-Ok-eq0-clause-part
returns-in-Ok-eq0-clause-part g c =
    let rest = c.bytes_from.ensures in
    let P : List ℕ → Type 0 = λ l. Appends (g.W.Write.contents c.loop-start.writer.inner) (g.W.Write.contents c.write.new.self.inner) (take c.in-Ok-eq0.field-0 l) in (
      take (c.loop-start.start + c.in-Ok-eq0.field-0) c.args.bytes.now,
      first_part _ _,
      wrote_more _ _ _ _ _ _ c.loop-start.invariant.within c.loop-start.invariant.written (subst P rest c.in-Ok-eq0.ensures.bytes),
    )

pub returns-in-Err-clause-part : goal.returns-in-Err-clause-part
returns-in-Err-clause-part g c =
    (take c.loop-start.start c.args.bytes.now, first_part _ _, Appends-kept _ _ _ _ c.loop-start.invariant.written c.in-Err.ensures.bytes)
