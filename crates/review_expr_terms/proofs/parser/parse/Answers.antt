use Rattle.std.proofs.{Common.◌∙◌, Common.arith, lemmas.List.length-map}
use Rattle.review_expr_terms.proofs.Verdicts.{none_fails, none_left, found}
use Rattle.review_expr_terms.specs.{Views.toks, Views.tok, inner.Views.run_view}
use Rattle.review_expr_terms.proofs.parser.parse.Goals as goal

pub returns-in-Err-Grammar-clause-fault : goal.returns-in-Err-Grammar-clause-fault
returns-in-Err-Grammar-clause-fault g c =
    none_fails (toks c.args.tokens.items) _ (run_view c.new.result) (rw c.in-Err-Grammar.field-0-is at c.in-Err-Grammar.ensures)
    (omega (arith, length-map c.args.tokens.items tok, c.args.tokens.ok))

pub returns-then-len-gt0-clause-fault : goal.returns-then-len-gt0-clause-fault
returns-then-len-gt0-clause-fault g c =
    none_left (toks c.args.tokens.items) _ (run_view c.new.result) _ _ (c.in-Ok.ensures)
    (omega (arith, length-map c.args.tokens.items tok, c.args.tokens.ok)) (λ none. omega (arith, none, length-map c.members.new.tokens.items tok, c.members.new.tokens.ok))

pub returns-then-part-gt32-clause-fault : goal.returns-then-part-gt32-clause-fault
returns-then-part-gt32-clause-fault g c =
    let f = found (toks c.args.tokens.items) _ _ _ _ (rw c.new.ensures at c.in-Ok.ensures) (omega (arith, length-map c.members.new.tokens.items tok, c.members.new.tokens.ok)) (rw c.in-Ok.run-is at c.whole-part.ensures) in
    (f.all, f.spelling, omega (arith, f.depth_is, c.if-part-gt32.true))

pub returns-then-part-clause-fault : goal.returns-then-part-clause-fault
returns-then-part-clause-fault g c =
    let f = found (toks c.args.tokens.items) _ _ _ _ (rw c.new.ensures at c.in-Ok.ensures) (omega (arith, length-map c.members.new.tokens.items tok, c.members.new.tokens.ok)) (rw c.in-Ok.run-is at c.whole-part.ensures) in
    (f.all, f.spelling, omega (arith, f.depth_is, c.if-part-gt32.false), f.mixed_is ∙ c.if-part.true)

pub returns-clause-tree : goal.returns-clause-tree
returns-clause-tree g c =
    let f = found (toks c.args.tokens.items) _ _ _ _ (rw c.new.ensures at c.in-Ok.ensures) (omega (arith, length-map c.members.new.tokens.items tok, c.members.new.tokens.ok)) (rw c.in-Ok.run-is at c.whole-part.ensures) in
    (f.all, f.spelling, omega (arith, f.depth_is, c.if-part-gt32.false), f.mixed_is ∙ c.if-part.false, f.tree_is)
