use Rattle.std.proofs.Common.{sym, ◌∙◌}
use Rattle.review_expr_terms.{proofs.Moves.in_quote, proofs.Moves.in_word, specs.Scanned.lexemes}
use Rattle.review_expr_terms.proofs.lexemes.Scanner.step.Goals as goal

pub returns-then-self-clause-moved : goal.returns-then-self-clause-moved
returns-then-self-clause-moved c =
    in_quote c.args.text.now (lexemes c.args.text.now c.args.self.pieces.items) c.args.at c.in-Some.start c.args.self.start c.args.self.quoted c.requires.within c.in-Some.is c.if-self.true c.requires.behind

pub returns-clause-moved : goal.returns-clause-moved
returns-clause-moved c =
    in_word c.args.text.now (lexemes c.args.text.now c.args.self.pieces.items) c.args.at c.in-Some.start c.args.self.start c.args.self.quoted c.requires.within c.in-Some.is c.if-self.false c.requires.behind
    (sym c.is_blank.ensures ∙ c.if-is_blank.false) c.if-byte-eq40.false c.if-byte-eq41.false
