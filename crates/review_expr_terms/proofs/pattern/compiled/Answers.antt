use Rattle.std.proofs.Common.{rules}
use Rattle.review_expr_terms.proofs.Refused.{read_from, read_within, refused_text}
use Rattle.review_expr_terms.proofs.pattern.compiled.Goals as goal

pub returns-in-Err-Syntax-clause-refused : goal.returns-in-Err-Syntax-clause-refused
returns-in-Err-Syntax-clause-refused c =
    refused_text c.args.text.now c.in-Err-Syntax.field-0-0.kind (c.in-Err-Syntax.ensures.by_grammar c.in-Err-Syntax.field-0-0 c.in-Err-Syntax.field-0-is) (rw c.in-Err-Syntax.field-0-is at c.in-Err-Syntax.ensures.kind)

pub returns-in-Ok-clause-pattern : goal.returns-in-Ok-clause-pattern
returns-in-Ok-clause-pattern c = read_from c.args.text.now c.in-Ok.regex (c.in-Ok.ensures.source, c.in-Ok.ensures.config, c.in-Ok.ensures.read)

pub returns-in-Err-clause-refused : goal.returns-in-Err-clause-refused
returns-in-Err-clause-refused c = read_within c.args.text.now (search rules)
