use Rattle.std.{proofs.Common.subst, specs.Prelude.OnOk}
use Rattle.{review_machine_rows.specs.Known.AgreesBeside, review_memory.specs.Desk.tables_of}
use Rattle.review_memory.proofs.memory.MemoryShelfShelf.load.Goals as goal

pub returns-clause-found : goal.returns-clause-found
returns-clause-found c = λ _. subst (λ d. OnOk c.load.result (AgreesBeside (tables_of d) c.args.rows.now c.load.new.rows)) c.self.view_is c.load.ensures.found
