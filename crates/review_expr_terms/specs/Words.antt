-- What a word of an expression is read as.
use Rattle.{std.specs.Prelude.◌≡◌, std.specs.Prelude.◌⊎◌, review_expr_terms.specs.declared.word.WordFault.WordFault}
use Rattle.review_expr_terms.specs.declared.word.WordFault.TheVariants as fault

-- Why a word is no term: it is written as none, or its value is none of its key's, or 0 meets its comparison.
pub data Flaw : Type 0 where
  NoTerm : Flaw
  NoValue : Flaw
  Zero : Flaw

-- a word is a term, or has a flaw
pub data Reading (A : Type 0) : Type 0 where
  Good : A → Reading A
  Bad : Flaw → Reading A

-- The fault may be given for a word with this reading. Where a pattern nests deeper than the engine reads (IsDeep), the word may be refused as a bad value whatever its reading; and the engine refuses patterns alone.
abbrev pub IsWordFault : {A : Type 0} → Reading A → Type 0 → Type 0 → WordFault → Type 0
IsWordFault reading IsDeep IsPattern fault.BadTerm = reading ≡ Bad NoTerm
IsWordFault reading IsDeep IsPattern fault.BadValue = (reading ≡ Bad NoValue) ⊎ IsDeep
IsWordFault reading IsDeep IsPattern fault.Zero = reading ≡ Bad Zero
IsWordFault reading IsDeep IsPattern fault.Engine = IsPattern
IsWordFault reading IsDeep IsPattern fault.Memory = Unit {0}
