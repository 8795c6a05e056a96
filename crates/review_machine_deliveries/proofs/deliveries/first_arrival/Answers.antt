use Rattle.std.proofs.Common.{◌≡◌, ◌∙◌, ◌+◌, ◌<◌, subst, sym, arith, length, inl, inr, ⊎_elim, string_bytes}
use Rattle.review_machine_rows.proofs.Common.{AnswerRow, Identity, IsCommitted, IsCounted, NotTaken, Reading, Reads, Shows, Write, answer_row, cause_of, entry_of, most_requests, reply_text}
use Rattle.review_machine_deliveries.proofs.Deciding.{next_number, undecided_keeps, undecided_served}
use Rattle.review_machine_deliveries.proofs.Filed.{left_before}
use Rattle.review_machine_deliveries.proofs.Histories.{stores_once, stored_shown, decided_keeps, fault_keeps, fault_counts, stored_counts}
use Rattle.review_machine_deliveries.proofs.Served.{after_read, effect, err_reply, fault_served, first_served, views_stay}
use Rattle.review_machine_deliveries.specs.Replies.{IsServed, KeepsUntaken, CountsReply, StoresOnce}
use Rattle.review_machine_deliveries.specs.inner.Kept.{row_for}
use Rattle.review_machine_deliveries.proofs.deliveries.first_arrival.Goals as goal

pub returns-clause-served : goal.returns-clause-served
returns-clause-served g c = λ honest h hist v fresh.
    let x = c.in_ok-decided.ensures in
    let y = c.in_ok-reply.ensures in
    let a = c.args in
    let decided = c.in_ok-decided.decided in
    let old = g.S.Shelf.state a.shelf.now in
    let mid = g.S.Shelf.state c.gather_and_decide.new.shelf in
    let new = g.S.Shelf.state c.store.new.shelf in
    let between = y.honest honest in
    let by = x.decided between in
    let number : decided.request ≡ length h + 1 = next_number h a.caller a.epoch a.command.now old.tables decided hist v by in
    let room : length h < most_requests = let p = by.request.1 in let q = number in omega arith in
    let d = (λ (reading : Reading) (reads : Reads reading h). by.right reading h hist reads v) in
    let row : AnswerRow = row_for a.caller a.epoch a.id.now decided (string_bytes a.content) in
    let is : row ≡ answer_row (entry_of a.caller a.epoch a.id.now a.command.now decided.reply) (length h + 1) =
    λ i. record { identity = record { caller = a.caller; epoch = a.epoch; id = a.id.now }; request = number i; content = c.requires.content i; reply = reply_text decided.reply } in
    let view = views_stay h old.tables mid.tables (x.gathers.tables between) v in
    subst (λ r. IsServed h (Write a.caller a.epoch a.id.now a.command.now) r old new) (sym y.reply)
    (after_read h (Write a.caller a.epoch a.id.now a.command.now) decided.reply old mid new x.gathers.counted (x.gathers.stops between)
    (first_served h decided.delta row a.caller a.epoch a.id.now a.command.now decided.reply mid new hist view fresh room d is (y.done honest) (y.alone honest) y.counted
    (λ t s. ⊎_elim (λ (k : mid.stops t). inl k)
    (λ (k : Shows mid.tables (λ was. IsCommitted was decided.delta row t)). inr (effect h mid.tables t decided.delta row a.caller a.epoch a.id.now a.command.now decided.reply hist view fresh room d is k))
    (y.stops honest t s))))

pub returns-clause-counted : goal.returns-clause-counted
returns-clause-counted g c =
    let before = (g.S.Shelf.state c.args.shelf.now).faults in
    let after = (g.S.Shelf.state c.store.new.shelf).faults in
    let y = c.in_ok-reply.ensures in
    subst (λ r. CountsReply r before after) (sym y.reply) (stored_counts c.in_ok-decided.decided.reply before after c.in_ok-decided.ensures.stored (y.counted ∙ c.in_ok-decided.ensures.gathers.counted))

pub returns-clause-unchanged : goal.returns-clause-unchanged
returns-clause-unchanged g c = λ honest none.
    let a = c.args in
    let old = (g.S.Shelf.state a.shelf.now).tables in
    let new = (g.S.Shelf.state c.store.new.shelf).tables in
    subst (λ r. KeepsUntaken (Write a.caller a.epoch a.id.now a.command.now) r old new) (sym c.in_ok-reply.ensures.reply) (decided_keeps a.caller a.epoch a.id.now a.command.now c.in_ok-decided.decided.reply old new c.in_ok-decided.ensures.stored)

pub returns-clause-once : goal.returns-clause-once
returns-clause-once g c = λ honest none.
    let x = c.in_ok-decided.ensures in
    let y = c.in_ok-reply.ensures in
    let a = c.args in
    let decided = c.in_ok-decided.decided in
    let i : Identity = record { caller = a.caller; epoch = a.epoch; id = a.id.now } in
    let between = y.honest honest in
    let old = (g.S.Shelf.state a.shelf.now).tables in
    let new = (g.S.Shelf.state c.store.new.shelf).tables in
    subst (λ r. StoresOnce (Write a.caller a.epoch a.id.now a.command.now) r old new) (sym y.reply)
    (stores_once a.caller a.epoch a.id.now a.command.now decided.reply old new
    (stored_shown i a.command.now decided _ old (g.S.Shelf.state c.gather_and_decide.new.shelf).tables new
    (x.gathers.tables between) none (x.decided between) (y.done honest) (λ k. record { identity = i; request = decided.request; content = c.requires.content k; reply = reply_text decided.reply })))

pub returns-in_err-decided-clause-served : goal.returns-in_err-decided-clause-served
returns-in_err-decided-clause-served g c = λ honest h hist v fresh.
    let x = c.in_err-decided.ensures in
    let a = c.args in
    let cause = c.in_err-decided.field-0.0 in
    let old = g.S.Shelf.state a.shelf.now in
    let new = g.S.Shelf.state c.gather_and_decide.new.shelf in
    subst (λ r. IsServed h (Write a.caller a.epoch a.id.now a.command.now) r old new) (err_reply c.from_residual.result cause c.from_residual.ensures)
    (undecided_served h a.caller a.epoch a.id.now a.command.now cause old new hist v fresh (x.cause honest) (x.gathers.tables honest) x.gathers.counted (x.gathers.stops honest))

pub returns-in_err-decided-clause-unchanged : goal.returns-in_err-decided-clause-unchanged
returns-in_err-decided-clause-unchanged g c = λ honest none.
    let x = c.in_err-decided.ensures in
    let a = c.args in
    let cause = c.in_err-decided.field-0.0 in
    let old = (g.S.Shelf.state a.shelf.now).tables in
    let new = (g.S.Shelf.state c.gather_and_decide.new.shelf).tables in
    subst (λ r. KeepsUntaken (Write a.caller a.epoch a.id.now a.command.now) r old new) (err_reply c.from_residual.result cause c.from_residual.ensures)
    (undecided_keeps a.caller a.epoch a.id.now a.command.now cause old new none (x.cause honest) (x.gathers.tables honest))

pub returns-in_err-decided-clause-counted : goal.returns-in_err-decided-clause-counted
returns-in_err-decided-clause-counted g c =
    let after = (g.S.Shelf.state c.gather_and_decide.new.shelf).faults in
    subst (λ r. CountsReply r ((g.S.Shelf.state c.args.shelf.now).faults) after) (err_reply c.from_residual.result c.in_err-decided.field-0.0 c.from_residual.ensures)
    c.in_err-decided.ensures.gathers.counted

pub returns-in_err-reply-clause-served : goal.returns-in_err-reply-clause-served
returns-in_err-reply-clause-served g c = λ honest h hist v fresh.
    let x = c.in_ok-decided.ensures in
    let y = c.in_err-reply.ensures in
    let a = c.args in
    let decided = c.in_ok-decided.decided in
    let fault = c.in_err-reply.field-0.0 in
    let old = g.S.Shelf.state a.shelf.now in
    let mid = g.S.Shelf.state c.gather_and_decide.new.shelf in
    let new = g.S.Shelf.state c.store.new.shelf in
    let between = y.honest honest in
    let by = x.decided between in
    let number : decided.request ≡ length h + 1 = next_number h a.caller a.epoch a.command.now old.tables decided hist v by in
    let room : length h < most_requests = let p = by.request.1 in let q = number in omega arith in
    let d = (λ (reading : Reading) (reads : Reads reading h). by.right reading h hist reads v) in
    let row : AnswerRow = row_for a.caller a.epoch a.id.now decided (string_bytes a.content) in
    let is : row ≡ answer_row (entry_of a.caller a.epoch a.id.now a.command.now decided.reply) (length h + 1) =
    λ i. record { identity = record { caller = a.caller; epoch = a.epoch; id = a.id.now }; request = number i; content = c.requires.content i; reply = reply_text decided.reply } in
    let view = views_stay h old.tables mid.tables (x.gathers.tables between) v in
    subst (λ r. IsServed h (Write a.caller a.epoch a.id.now a.command.now) r old new) (err_reply c.from_residual-in_err-reply.result (cause_of fault) c.from_residual-in_err-reply.ensures)
    (after_read h (Write a.caller a.epoch a.id.now a.command.now) (NotTaken (cause_of fault)) old mid new x.gathers.counted (x.gathers.stops between)
    (fault_served h (Write a.caller a.epoch a.id.now a.command.now) fault mid new hist view (y.undone honest) (y.damaged honest) y.counted
    (λ t s. ⊎_elim (λ (k : mid.stops t). inl k)
    (λ (k : Shows mid.tables (λ was. IsCommitted was decided.delta row t)). inr (effect h mid.tables t decided.delta row a.caller a.epoch a.id.now a.command.now decided.reply hist view fresh room d is k))
    (y.stops honest t s))))

pub returns-in_err-reply-clause-unchanged : goal.returns-in_err-reply-clause-unchanged
returns-in_err-reply-clause-unchanged g c = λ honest none.
    let a = c.args in
    let y = c.in_err-reply.ensures in
    let fault = c.in_err-reply.field-0.0 in
    let old = (g.S.Shelf.state a.shelf.now).tables in
    let mid = (g.S.Shelf.state c.gather_and_decide.new.shelf).tables in
    let new = (g.S.Shelf.state c.store.new.shelf).tables in
    subst (λ r. KeepsUntaken (Write a.caller a.epoch a.id.now a.command.now) r old new) (err_reply c.from_residual-in_err-reply.result (cause_of fault) c.from_residual-in_err-reply.ensures)
    (fault_keeps a.caller a.epoch a.id.now a.command.now fault old new (left_before fault old mid new (c.in_ok-decided.ensures.gathers.tables (y.honest honest)) (y.undone honest)))

pub returns-in_err-reply-clause-counted : goal.returns-in_err-reply-clause-counted
returns-in_err-reply-clause-counted g c =
    let fault = c.in_err-reply.field-0.0 in
    let before = (g.S.Shelf.state c.args.shelf.now).faults in
    let after = (g.S.Shelf.state c.store.new.shelf).faults in
    subst (λ r. CountsReply r before after) (err_reply c.from_residual-in_err-reply.result (cause_of fault) c.from_residual-in_err-reply.ensures)
    (fault_counts fault before after (subst (λ n. IsCounted fault n after) c.in_ok-decided.ensures.gathers.counted c.in_err-reply.ensures.counted))
