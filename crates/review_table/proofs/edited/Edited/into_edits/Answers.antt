use Rattle.std.proofs.Common.{◌≡◌, ◌∙◌, ◌++◌, ap, sym, subst, map, append-nil}
use Rattle.review_table.proofs.Noted.{edits_at, edits_keys, edits_once}
use Rattle.review_table.specs.{Rows.NamesOnce, Rows.row_edit_of, inner.Words.as_edit}
use Rattle.review_table.proofs.edited.Edited.into_edits.Goals as goal

-- at the end all are taken over
all : (g : _) (c : goal.After-drop-key-iterator-2 g) → c.loop-key.edits.items ≡ map as_edit c.args.self.edits.entries
all g c = sym (append-nil c.loop-key.edits.items) ∙ (ap (λ t. c.loop-key.edits.items ++ map as_edit t) (sym c.in-None.ensures.steps.0) ∙ c.loop-key.invariant)

pub returns-clause-edits : goal.returns-clause-edits
returns-clause-edits g c = λ q. ap (λ xs. row_edit_of g.K.Ord.cmp xs q) (all g c) ∙ edits_at g.met.K.Ord.total c.args.self.edits.entries q

pub returns-clause-once : goal.returns-clause-once
returns-clause-once g c = subst (NamesOnce g.K.Ord.cmp) (sym (all g c)) (edits_once g.met.K.Ord.total c.args.self.edits.entries c.len.ensures.ordered)

pub returns-clause-order : goal.returns-clause-order
returns-clause-order g c = ap (map (λ c. c.key)) (all g c) ∙ edits_keys c.args.self.edits.entries
