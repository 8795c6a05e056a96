-- The fault of a file in which an expression is faulty.
use Rattle.review_words.specs.declared.faults.FileFault.TheVariants.{Expr}
use Rattle.review_expr.specs.declared.fault.ParseFault.{ParseFault}
use Rattle.review_file_rules.specs.declared.fault.ReadFault.{ReadFault}
use Rattle.review_file_rules.specs.declared.fault.ReadFault.TheVariants.{File, Memory, Pattern}
use Rattle.review_expr.specs.declared.fault.ParseFault.TheVariants as parse

-- why an expression is not read, as the fault of the file
abbrev pub read_fault : ParseFault → ReadFault
read_fault (parse.Text fault) = File (Expr fault)
read_fault parse.Memory = Memory
read_fault parse.Pattern = Pattern
