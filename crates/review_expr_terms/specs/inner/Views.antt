-- How the values of the parser stand to those of the grammar: words that only proofs and private clauses use.
use Rattle.std.specs.Prelude.{[], None, ℕ, min, false, max, ◌||◌, ◌∷◌, ◌++◌, ◌+◌, map, ◌≡◌, Option, Some, Result, Ok, Err, List}
use Rattle.review_expr_terms.specs.Grammar.{Join, Blank, And, Or, Minus, Unary, tree_of, depth, is_mixed, trees, has_and, has_or, is_and, is_or, Members, trees_of, all_depth, any_mixed, Neg, Term, Tok}
use Rattle.review_expr_terms.specs.Reading.{Sign, NoSign, NotSign, MinusSign}
use Rattle.review_expr_terms.specs.Views.{Summary, Sums, node, view}
use Rattle.review_expr_terms.specs.declared.parser.{Joint.Joint, Part.Part, Prefix.Prefix, Refusal.Refusal, Run.Run}
use Rattle.review_expr_terms.specs.declared.parser.Joint.TheVariants as joint
use Rattle.review_expr_terms.specs.declared.parser.Prefix.TheVariants as prefix
use Rattle.review_expr_terms.specs.declared.parser.Refusal.TheVariants as refusal

-- what joins two members, as the definitions see it
abbrev pub join : Joint → Join
join joint.Blank = Blank
join joint.And = And
join joint.Or = Or

-- what stands in front of a member, as the definitions see it
abbrev pub sign_of : Prefix → Sign
sign_of prefix.None = NoSign
sign_of prefix.Not = NotSign
sign_of prefix.Minus = MinusSign

-- a depth, counted no further than one beyond the greatest
abbrev pub capped : ℕ → ℕ
capped n = min n 33

-- what the parser keeps of a member: its tree, its depth and whether it is mixed
abbrev pub summary : {A : Type 0} → Unary A → Summary A
summary u = record { tree = tree_of u; depth = capped (depth u); mixed = is_mixed u }

-- what the parser keeps of no members
abbrev pub no_sums : {A : Type 0} → Sums A
no_sums = record { trees = []; has_and = false; has_or = false; depth = 0; mixed = false }

-- the same with one member more
abbrev pub with_part : {A : Type 0} → Sums A → Summary A → Sums A
with_part s p = record s { trees = s.trees ++ p.tree ∷ []; depth = max s.depth p.depth; mixed = s.mixed || p.mixed }

-- the same with one more thing that joins two
abbrev pub with_join : {A : Type 0} → Sums A → Join → Sums A
with_join s j = record s { has_and = s.has_and || is_and j; has_or = s.has_or || is_or j }

-- the members so far and these
abbrev pub with_members : {A : Type 0} → Sums A → Members A → Sums A
with_members s ms = record {
  trees = s.trees ++ trees_of ms;
  has_and = s.has_and || has_and ms;
  has_or = s.has_or || has_or ms;
  depth = max s.depth (capped (all_depth ms));
  mixed = s.mixed || any_mixed ms;
}

-- parentheses round a part
abbrev pub deeper : {A : Type 0} → Summary A → Summary A
deeper p = record p { depth = capped (p.depth + 1) }

-- NOT or a minus before a part
abbrev pub negated_part : {A : Type 0} → Summary A → Summary A
negated_part p = record p { tree = Neg p.tree; depth = capped (p.depth + 1) }

-- a term alone
abbrev pub term_part : {A : Type 0} → A → Summary A
term_part a = record { tree = Term a; depth = 1; mixed = false }

-- a member that the parser keeps, as the definitions see it
abbrev pub part_view : {A : Type 0} → Part A → Summary A
part_view p = record { tree = view p.node; depth = p.depth; mixed = p.mixed }

-- members that the parser keeps, as the definitions see them
abbrev pub run_view : {A : Type 0} → Run A → Sums A
run_view r = record { trees = map view r.members.items; has_and = r.has_and; has_or = r.has_or; depth = r.depth; mixed = r.mixed }

-- nothing was read, unless memory ran out
abbrev pub Fails : {Y : Type 0} → Refusal → Option Y → Type 0
Fails refusal.Memory read = Unit {0}
Fails refusal.Grammar read = read ≡ None

-- what the code returned, as it is seen, is what reading gives, unless memory ran out
abbrev pub Gives : {X Y : Type 0} → (X → Y) → Result X Refusal → Option Y → Type 0
Gives see (Ok x) read = read ≡ Some (see x)
Gives see (Err e) read = Fails e read

-- what is seen of a unary that was read, and of members behind others
abbrev pub seen : {A : Type 0} → Unary A × List (Tok A) → Summary A × List (Tok A)
seen x = (summary x.0, x.1)

-- what the parser keeps after all members, and the tokens behind them
abbrev pub seen_all : {A : Type 0} → Sums A → Members A × List (Tok A) → Sums A × List (Tok A)
seen_all s x = (with_members s x.0, x.1)
