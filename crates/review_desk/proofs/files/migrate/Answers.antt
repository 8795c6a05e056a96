use Rattle.{std.proofs.Common.subst, sqlite.specs.Files.over_files, review_desk_work.specs.Worked.WasMigrated}
use Rattle.review_desk.proofs.files.migrate.Goals as goal

pub returns : goal.returns
returns g c =
    let warned = c.migrate-last.new.notices.is_warned in
    let done = subst (λ b. WasMigrated over_files b warned c.migrate-last.result.1 c.args.conn c.migrate-last.result.0) c.new-notices.ensures c.migrate-last.ensures.migrated in
    (warned, c.after_closing.result, (c.migrate-last.result.0, c.migrate-last.result.1, done, c.close.result, c.close.ensures, c.after_closing.ensures), c.tell.ensures)
