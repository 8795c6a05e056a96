use Rattle.std.proofs.Common.{rules, ◌++◌, ◌∷◌, ◌∙◌, [], refl, ap, length, sym, subst, Some, None, Option}
use Rattle.std.proofs.KnownBytes.{Appends-nil, Appends-trans}
use Rattle.{std.specs.Io.KnownBytes.prepend_known, review_machine_deliveries.proofs.Ran.ran_none}
use Rattle.review_json_lines.proofs.Answering.{counted, started, kept, one_more, ran_more, all_left, any_left, if_err, memory_left, output_left, gave_more, gave_all, gave_first, nothing_first}
use Rattle.review_json_lines.specs.{Answers.with_asked, declared.apply.Asked.Asked, inner.Words.IsNextAsked}
use Rattle.review_json_lines.specs.declared.fault.Fault.TheVariants as fault
use Rattle.review_json_lines.proofs.apply.answer_lines.Goals as goal

pub returns-in_err-lines : goal.returns-in_err-lines
returns-in_err-lines g c = ([], [], nothing_first _, refl, ran_none _, [], Appends-nil _, search rules, any_left _ [] [] _ c.requires)

pub loop-init : goal.loop-init
loop-init g c = record {
  so_far = ([], [], started _ _ _ _ _ c.in_ok-lines.ensures c.requires);
}

pub returns-in_err-send_unless : goal.returns-in_err-send_unless
returns-in_err-send_unless g c =
    let was = c.loop.invariant.so_far in
    let failed = c.in_err-send_unless.ensures in (
      was.0,
      was.1,
      gave_first _ _ _ was.2.read,
      was.2.count,
      was.2.ran,
      was.2.sent ++ failed.part.0,
      Appends-trans _ _ _ _ _ was.2.written failed.part.2,
      search rules,
      if_err _ _ _ c.from_residual-in_err-send_unless.ensures.1
          (λ f is. output_left f was.0 was.1 _ _ _ _ (is ∙ failed.cause) failed.part.1 was.2.whole failed.none),
    )

pub returns-in_err-asked : goal.returns-in_err-asked
returns-in_err-asked g c =
    let was = c.loop.invariant.so_far in
    let now = kept _ _ _ _ _ _ _ _ _ _ _ _ _ was.2 c.in_ok-send_unless.ensures.sent.1 c.in_ok-send_unless.ensures.sent.2 in
    (was.0, was.1, gave_first _ _ _ was.2.read, was.2.count, was.2.ran, now.sent, now.written, search rules, any_left _ was.0 was.1 _ now.whole)

pub returns : goal.returns
returns g c =
    let was = c.loop.invariant.so_far in
    (was.0, was.1, gave_first _ _ _ was.2.read, was.2.count, was.2.ran, was.2.sent, was.2.written, tt, all_left fault.Input was.0 was.1 _ was.2.whole)

pub returns-in_default : goal.returns-in_default
returns-in_default g c =
    let was = c.loop.invariant.so_far in
    let now = kept _ _ _ _ _ _ _ _ _ _ _ _ _ was.2 c.in_ok-send_unless.ensures.sent.1 c.in_ok-send_unless.ensures.sent.2 in
    let left = prepend_known c.loop.lines.piece (g.R.Read.remaining c.loop.lines.reader) in
    let rest = prepend_known c.next_asked.new.lines.piece (g.R.Read.remaining c.next_asked.new.lines.reader) in
    let end : IsNextAsked left rest None = subst (λ (o : Option Asked). IsNextAsked left rest o) c.in_default.is c.in_ok-asked.ensures in
    (was.0, was.1, gave_first _ _ _ was.2.read, was.2.count, was.2.ran, now.sent, now.written, (gave_all _ _ _ was.2.read end.0, now.whole, sym was.2.done), tt)

pub returns-in_err-answer_owned : goal.returns-in_err-answer_owned
returns-in_err-answer_owned g c =
    let was = c.loop.invariant.so_far in
    let now = kept _ _ _ _ _ _ _ _ _ _ _ _ _ was.2 c.in_ok-send_unless.ensures.sent.1 c.in_ok-send_unless.ensures.sent.2 in
    let left = prepend_known c.loop.lines.piece (g.R.Read.remaining c.loop.lines.reader) in
    let rest = prepend_known c.next_asked.new.lines.piece (g.R.Read.remaining c.next_asked.new.lines.reader) in
    let next : IsNextAsked left rest (Some c.in-Some.asked) = subst (λ (o : Option Asked). IsNextAsked left rest o) c.in-Some.is c.in_ok-asked.ensures in
    let did = c.answer_owned.ensures.answered in (
      was.0 ++ next.0 ∷ [],
      was.1 ++ did.0,
      gave_first _ _ _ (gave_more _ _ _ _ _ was.2.read next.2 next.3),
      counted was.0 (next.0 ∷ []) was.1 did.0 was.2.count (did.1 ∙ ap (λ x. length (with_asked x [])) next.1),
      ran_more was.0 was.1 did.0 next.0 c.in-Some.asked _ _ _ was.2.ran next.1 did.2,
      now.sent,
      now.written,
      search rules,
      if_err _ _ _ c.from_residual-in_err-answer_owned.ensures.1
          (λ f is. memory_left f was.0 next.0 was.1 did.0 _ is was.2.count (ap (λ l. now.sent ++ l) c.in_err-answer_owned.ensures.kept ∙ now.whole)),
    )

pub loop-preserved : goal.loop-preserved
loop-preserved g c =
    let was = c.loop.invariant.so_far in
    let now = kept _ _ _ _ _ _ _ _ _ _ _ _ _ was.2 c.in_ok-send_unless.ensures.sent.1 c.in_ok-send_unless.ensures.sent.2 in
    let left = prepend_known c.loop.lines.piece (g.R.Read.remaining c.loop.lines.reader) in
    let rest = prepend_known c.next_asked.new.lines.piece (g.R.Read.remaining c.next_asked.new.lines.reader) in
    let next : IsNextAsked left rest (Some c.in-Some.asked) = subst (λ (o : Option Asked). IsNextAsked left rest o) c.in-Some.is c.in_ok-asked.ensures in
    let did = c.in_ok-answer_owned.ensures.answered in
    record {
      so_far = (
        was.0 ++ next.0 ∷ [],
        was.1 ++ did.0,
        one_more _ _ _ next.0 c.in-Some.asked _ _ _ _ _ _ _ _ _ _ _ _ _ now next.1 next.2 next.3 did.1 did.2 did.3 c.and-outcome.ensures,
      );
    }
