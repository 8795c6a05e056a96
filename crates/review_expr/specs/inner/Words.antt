-- Words that only proofs and private clauses use.
use Rattle.std.specs.Prelude.{ℕ}
use Rattle.review_expr_terms.specs.Grammar.{BadTerm, TooDeep, Mixed}
use Rattle.review_expr_terms.specs.{Words.Zero, declared.lexemes.CutFault.CutFault}
use Rattle.review_expr_terms.specs.declared.{parser.ShapeFault.ShapeFault, word.WordFault.WordFault}
use Rattle.review_words.specs.declared.faults.ExprCode.{ExprCode}
use Rattle.review_expr.specs.declared.fault.ParseFault.{ParseFault}
use Rattle.review_expr_terms.specs.declared.word.WordFault.TheVariants as word
use Rattle.review_words.specs.declared.faults.ExprCode.TheVariants as code
use Rattle.review_expr.specs.declared.fault.ParseFault.TheVariants as fault
use Rattle.review_expr_terms.specs.declared.lexemes.CutFault.TheVariants as cut
use Rattle.review_expr_terms.specs.declared.parser.ShapeFault.TheVariants as shape

-- a word's fault, with the word's place
abbrev pub placed : ℕ → WordFault → ParseFault
placed place word.BadTerm = fault.Text (record { place = place; code = code.BadTerm })
placed place word.BadValue = fault.Text (record { place = place; code = code.BadValue })
placed place word.Zero = fault.Text (record { place = place; code = code.Zero })
placed place word.Engine = fault.Pattern
placed place word.Memory = fault.Memory

-- a fault of the text that is no word's
abbrev pub whole_text : ExprCode → ParseFault
whole_text c = fault.Text (record { place = 0; code = c })

-- why a text is not cut into words and parentheses, as its fault
abbrev pub cut_fault : CutFault → ParseFault
cut_fault cut.TooLong = whole_text code.TooLong
cut_fault cut.Empty = whole_text code.Empty
cut_fault cut.Unbalanced = whole_text code.Unbalanced
cut_fault cut.Memory = fault.Memory

-- why tokens have no tree, as the fault of the text
abbrev pub shape_fault : ShapeFault → ParseFault
shape_fault shape.BadTerm = whole_text code.BadTerm
shape_fault shape.TooDeep = whole_text code.TooDeep
shape_fault shape.Mixed = whole_text code.Mixed
shape_fault shape.Memory = fault.Memory
