-- Project files, by what answers ask of them.
use Rattle.{review_expr.specs.declared.expr.Expr.Expr, review_file_rules.specs.View.FileView}
-- the text spells the file; the text is no file, for this fault
pub use Rattle.review_file_rules.specs.Reading.{IsRead, IsFileFault}
-- each label of the old file stands in the new one with at least its values
pub use Rattle.review_file_rules.specs.Rights.{covers}
-- some expression of a requirement in the document that the text is has a word with a pattern, whether or not the engine takes it, all words before it being good; one that nests deeper than the engine reads
pub use Rattle.review_file_rules.specs.Patterns.{HasPattern, HasDeepPattern}

-- a project file
abbrev pub File : Type 0
File = FileView Expr
