use Rattle.std.proofs.Common.{◌∷◌, [], subst, sym}
use Rattle.review_words.specs.declared.command.Delivery.{Delivery, TheVariants.Read, TheVariants.Write}
use Rattle.{review_words.specs.declared.reply.Reply.Reply, review_machine_rows.specs.Shelf.Shown}
use Rattle.review_machine_deliveries.proofs.{Histories.history_formed, Served.stopped}
use Rattle.review_machine_deliveries.specs.{Delivered.IsDelivered, Formed.IsFormed, Replies.IsReplied}
use Rattle.review_machine_deliveries.proofs.deliveries.deliver.Goals as goal

delivered : (d : Delivery) (reply : Reply) (old new : Shown) → IsFormed d → IsReplied d reply old new → IsDelivered d reply old new
delivered d reply old new formed e = record {
  formed = formed;
  goes_on = λ h before. history_formed (d ∷ []) (reply ∷ []) h (formed, tt) before;
  honest = e.honest;
  served = e.served;
  unchanged = e.unchanged;
  once = e.once;
  counted = e.counted;
  stopped = λ honest h hist v. stopped h d reply old new formed hist (e.served honest h hist v);
}

pub returns-in-Write : goal.returns-in-Write
returns-in-Write g c =
    let d = c.args.delivery.now in
    let old = g.S.Shelf.state c.args.shelf.now in
    let new = g.S.Shelf.state c.write.new.shelf in
    delivered d c.reply_of.result old new c.are_forms.ensures
    (subst (λ x. IsReplied x c.reply_of.result old new) (sym c.in-Write.is)
    (subst (λ r. IsReplied (Write c.in-Write.caller c.in-Write.epoch c.in-Write.id c.in-Write.command) r old new) (sym c.reply_of.ensures) c.write.ensures))

pub returns-in-Read : goal.returns-in-Read
returns-in-Read g c =
    let d = c.args.delivery.now in
    let old = g.S.Shelf.state c.args.shelf.now in
    let new = g.S.Shelf.state c.read.new.shelf in
    delivered d c.reply_of-in-Read.result old new c.are_forms.ensures
    (subst (λ x. IsReplied x c.reply_of-in-Read.result old new) (sym c.in-Read.is)
    (subst (λ r. IsReplied (Read c.in-Read.caller c.in-Read.query) r old new) (sym c.reply_of-in-Read.ensures) c.read.ensures))
