-- What submit requirements judge a change by, and how they stand for it.
use Rattle.std.specs.Ordering.{nat_cmp}
use Rattle.std.specs.Prelude.{ℕ, ℤ, ◌≡◌, Bool, true, false, List, [], ◌∷◌, Option, Some, None, map, option_map, if◌then◌else◌, MatchOption}
use Rattle.review_words.specs.declared.shown.ShownRequirement.{ShownRequirement}
use Rattle.review_words.specs.declared.shown.Status.{Status, TheVariants.Unsatisfied}
use Rattle.{review_expr_judging.specs.declared.facts.ChangeFacts.ChangeFacts, review_expr.specs.declared.expr.Expr.Expr}
use Rattle.review_file_rules.specs.View.{RequirementView}
use Rattle.review_core_rules.specs.Change.{Change, Setting, current, has_unresolved, label_in, paths, posts, range_of, uploader}
use Rattle.review_core_rules.specs.{Listed.AreListed, Status.status_of, Votes.voted}
use Rattle.review_expr_judging.specs.Holds as judging
use Rattle.review_expr.specs.declared.expr.Facts.TheVariants as facts

-- a value, where it isn't 0
abbrev pub unless_zero : ℤ → Option ℤ
unless_zero v = if voted v then Some v else None

-- the vote of an account on a label of the current patch set
abbrev pub vote_on : Change → List ℕ → ℕ → Option ℤ
vote_on c l a = unless_zero (c.vote (current c) l a)

-- The facts of a change: the votes on its current patch set, each account once for a label, the ranges of its project's labels, its paths, owner, uploader and branch, whether a thread is unresolved, and the groups.
pub record AreFacts (s : Setting) (c : Change) (f : ChangeFacts) : Type 0 where
  pub votes : (l : List ℕ) → AreListed nat_cmp (vote_on c l) (judging.votes_of f l)
  pub ranges : (l : List ℕ) → judging.range_of f l ≡ option_map range_of (label_in s.file l)
  pub paths : f.paths ≡ paths c
  pub owner : f.owner ≡ c.owner
  pub uploader : f.uploader ≡ uploader c
  pub branch : f.branch ≡ c.branch
  pub unresolved : f.unresolved ≡ has_unresolved (posts c.comments)
  pub groups : f.groups ≡ s.groups

-- how a requirement stands by these facts
abbrev pub stands : ChangeFacts → RequirementView Expr → ShownRequirement
stands f q = record { name = q.name; status = status_of q (facts.Change f) }

-- how each requirement of the project's file stands for a change, by name
pub record AreStanding (s : Setting) (c : Change) (shown : List ShownRequirement) : Type 0 where
  pub facts : ChangeFacts
  pub are_facts : AreFacts s c facts
  pub each : shown ≡ map (stands facts) s.file.requirements

-- whether a requirement is unsatisfied
abbrev pub is_unsatisfied : Status → Bool
is_unsatisfied Unsatisfied = true
is_unsatisfied _ = false

-- the first requirement that is unsatisfied, of some by name
abbrev pub unsatisfied_in : List ShownRequirement → Option (List ℕ)
unsatisfied_in [] = None
unsatisfied_in (q ∷ qs) = if is_unsatisfied q.status then Some q.name else unsatisfied_in qs

-- The first of some changes, in their order, with its first requirement that is unsatisfied, by name; each change is there and is judged in its setting.
abbrev pub IsFirstUnsatisfied : (ℕ → Option (Setting × Change)) → List ℕ → Option (ℕ × List ℕ) → Type 0
IsFirstUnsatisfied at [] found = found ≡ None
IsFirstUnsatisfied at (n ∷ ns) found =
    MatchOption (at n) ⊥
    (λ c. (shown : List ShownRequirement) × AreStanding c.0 c.1 shown × MatchOption (unsatisfied_in shown) (IsFirstUnsatisfied at ns found) (λ requirement. found ≡ Some (n, requirement)))
