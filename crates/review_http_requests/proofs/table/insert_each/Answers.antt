use Rattle.std.proofs.Common.{◌∙◌, ◌+◌, drop, sym, ap, Ok}
use Rattle.review_http_requests.proofs.Insert.{on_inserted, one_more}
use Rattle.review_http_requests.specs.{Table.with_paths, inner.Words.entries}
use Rattle.review_http_requests.proofs.table.insert_each.Goals as goal

pub loop-text-preserved : goal.loop-text-preserved
loop-text-preserved c =
    let xs = c.args.paths.now in
    let i = c.loop-text.text-index in
    let added = on_inserted _ _ _ _ (Ok c.in_ok-insert.field-0) c.in_ok-insert.ensures in
    ap (λ rows. with_paths (entries (drop (i + 1) xs)) rows) added ∙ (sym (one_more xs i _ c.loop-text.router c.loop-text-test.true) ∙ c.loop-text.invariant)
