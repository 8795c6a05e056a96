use Rattle.std.proofs.Common.{◌≡◌, ◌+◌, ◌∙◌, ◌++◌, Some, None, cond, length, true, ap, sym, arith}
use Rattle.review_names.specs.Forms.{is_within, most_comments}
use Rattle.review_core_rules.proofs.Stays.{within_from}
use Rattle.review_machine_change_rows.{proofs.Edited.has_number, specs.Edits.puts_after}
use Rattle.review_machine_change_rows.proofs.edits.more_comments.Goals as goal

pub unreachable-requires : goal.unreachable-requires
unreachable-requires c =
    let put = c.loop-comment.edits.items in
    let left = ap (λ rest. put ++ puts_after (c.args.before + length put) rest) (sym c.in-Some.ensures.steps.0) ∙ c.loop-comment.invariant in
    let n = c.args.before + c.len-in-loop-comment.result + 1 in
    let size : c.len-in-loop-comment.result ≡ length put = c.len-in-loop-comment.ensures ∙ c.loop-comment.edits.ok.0 in
    let most = has_number most_comments c.args.before put c.in-Some.comment c.next.new.self.rest.items c.args.comments.items c.requires left in
    let within : is_within most_comments n ≡ true = within_from most_comments n (omega arith) (omega (arith, most, size)) in
    let bad : None ≡ Some n = sym c.in_default.is ∙ (c.from_number.ensures ∙ ap (λ b. cond b (Some n) None) within) in
    absurd (cc)
