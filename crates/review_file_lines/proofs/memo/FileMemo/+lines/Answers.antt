use Rattle.std.proofs.Common.{rules, ◌∷◌, ◌∙◌, ap, map}
use Rattle.std.specs.{Cmp.Lexicographic.slice_cmp, Ordering.nat_cmp}
use Rattle.review_table.specs.Rows.{row_in, rows_of}
use Rattle.review_file_lines.proofs.{Effective.above_failed, Effective.own_failed, Keeping.keeps}
use Rattle.review_file_lines.proofs.memo.FileMemo.+lines.Goals as goal

pub read-returns-in_err-read-clause-fault : goal.read-returns-in_err-read-clause-fault
read-returns-in_err-read-clause-fault t c =
    own_failed c.from_residual.result c.args.own.now.text.now (map (λ p. p.text.now) c.args.above.now) c.in_err-read.field-0.0 c.from_residual.ensures.1 c.in_err-read.ensures.fault c.in_err-read.ensures.pattern

pub after-returns-in_err-get-in-len1-up-clause-fault : goal.after-returns-in_err-get-in-len1-up-clause-fault
after-returns-in_err-get-in-len1-up-clause-fault t c =
    above_failed c.from_residual-in_err-get-in-len1-up.result c.args.own.text c.args.above.now c.parent-item.result c.in_err-get-in-len1-up.field-0.0 c.from_residual-in_err-get-in-len1-up.ensures.1
    c.in-len1-up.len_at_least c.parent-item.is c.in_err-get-in-len1-up.ensures.fault

pub read-returns-clause-each : goal.read-returns-clause-each
read-returns-clause-each t c = λ q.
    let at = row_in (slice_cmp nat_cmp) in
    let texts = c.in_ok-line.ensures.texts ∙ ap (λ text. text ∷ map (λ p. p.text.now) c.args.above.now) c.in_ok-read.ensures.text in
    keeps c.args.own.now c.args.above.now q (at (rows_of c.args.self.now.lines) q) (at (rows_of c.after.new.self.lines) q) (c.in_ok-line.ensures.each q) c.in_ok-kept.kept (search rules) c.keep.result (at (rows_of c.keep.new.self.lines) q)
    (search rules) (search rules)
