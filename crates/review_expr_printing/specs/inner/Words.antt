-- Words that only proofs and private clauses use.
use Rattle.std.specs.Prelude.{ℕ, zero, suc, List}
use Rattle.review_expr_terms.specs.Grammar.{Trees}
use Rattle.review_expr_printing.specs.Printed.{joined_text, led_text}

-- what is left to write of members of which so many are written
abbrev pub left_text : {A : Type 0} → (A → List ℕ) → List ℕ → ℕ → Trees A → List ℕ
left_text word sign zero ts = joined_text word sign ts
left_text word sign (suc written) ts = led_text word sign ts
