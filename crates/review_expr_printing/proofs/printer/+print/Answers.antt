use Rattle.std.proofs.Common.{◌++◌, ap, sym, ◌∙◌, arith, string_bytes}
use Rattle.review_expr_terms.specs.Views.{view}
use Rattle.review_expr_printing.proofs.Levels.{first_written, next_written}
use Rattle.review_expr_printing.proofs.printer.+print.Goals.{push_members-then-index-gt0+in_ok-push_str, push_members-else-index-gt0}
use Rattle.review_expr_printing.specs.Printed.{member_text}
use Rattle.review_expr_printing.proofs.printer.+print.Goals as goal

pub push_members-loop-index-preserved : goal.push_members-loop-index-preserved
push_members-loop-index-preserved g t c =
    let word = g.T.Written.spelling in
    let m = member_text word (view c.index-members-index.result) in
    elim c.if-index-gt0.branch [
      | push_members-then-index-gt0+in_ok-push_str w ↦ next_written word c.args.sign.now c.args.members.now c.loop-index.index _ c.index-members-index.result (string_bytes c.loop-index.text) _
          c.loop-index-test.true (sym c.index-members-index.is) w.if-index-gt0.true
          (c.in_ok-push_member.ensures ∙ ap (λ s. string_bytes s ++ m) w.text-is ∙ ap (λ xs. xs ++ m) w.in_ok-push_str.ensures.bytes)
          ∙ c.loop-index.invariant
      | push_members-else-index-gt0 w ↦ first_written word c.args.sign.now c.args.members.now c.loop-index.index _ c.index-members-index.result (string_bytes c.loop-index.text) _
          c.loop-index-test.true (sym c.index-members-index.is) (omega (arith, w.if-index-gt0.false))
          (c.in_ok-push_member.ensures ∙ ap (λ s. string_bytes s ++ m) w.text-is)
          ∙ c.loop-index.invariant
    ]
