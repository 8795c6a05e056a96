use Rattle.std.proofs.Common.{List, IfOk, subst, sym}
use Rattle.review_machine_rows.proofs.Common.{AreEnough, Entry, IfOk-weaker, IsQueryAnswerBy, OfQuery, Reading, RestsOn, option_copied}
use Rattle.review_machine_submits.proofs.questions.show.Goals as goal

pub returns-in-Branch-clause-shown : goal.returns-in-Branch-clause-shown
returns-in-Branch-clause-shown c =
    let a = c.args in
    subst (λ q. IfOk c.show_branch.result (λ r. (reading : Reading) (h : List Entry) → RestsOn (OfQuery q) h → AreEnough reading h a.caller (OfQuery q) (option_copied a.effective) a.rows.now → IsQueryAnswerBy reading h a.caller q r)) (sym c.in-Branch.is)
    (IfOk-weaker c.show_branch.result _ _ (λ r all reading h history l. all reading (option_copied a.effective) h history l) c.show_branch.ensures.shown)

pub returns-in-OnChange-clause-shown : goal.returns-in-OnChange-clause-shown
returns-in-OnChange-clause-shown c =
    let a = c.args in
    subst (λ q. IfOk c.show_on.result (λ r. (reading : Reading) (h : List Entry) → RestsOn (OfQuery q) h → AreEnough reading h a.caller (OfQuery q) (option_copied a.effective) a.rows.now → IsQueryAnswerBy reading h a.caller q r)) (sym c.in-OnChange.is)
    (IfOk-weaker c.show_on.result _ _ (λ r all reading h rests l. all reading h l) c.show_on.ensures.shown)
