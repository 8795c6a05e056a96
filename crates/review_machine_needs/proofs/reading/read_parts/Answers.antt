use Rattle.std.proofs.Common.{map, subst, sym, take, drop, length, ◌-◌}
use Rattle.{review_file_lines.proofs.Effective.rest_texts, review_machine_rows.specs.Decisions.IsUnread}
use Rattle.review_machine_needs.{proofs.Going.unread_is, specs.inner.Files.unread_cause}
use Rattle.review_machine_needs.proofs.reading.read_parts.Goals as goal

pub returns-in-Err-clause-cause : goal.returns-in-Err-clause-cause
returns-in-Err-clause-cause c =
    let parts = c.args.parts.now in
    subst (IsUnread (map (λ p. p.text.now) parts)) (sym c.unread_cause.ensures)
    (subst (λ ts. IsUnread ts (unread_cause c.in-Err.fault)) (sym (rest_texts parts c.own-item.result c.in-len1-up.len_at_least c.own-item.is))
    (unread_is c.own-item.result.text.now (map (λ p. p.text.now) (take (length parts - 1) (drop 1 parts))) c.in-Err.fault c.in-Err.ensures.fault))
