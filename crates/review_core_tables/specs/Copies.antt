-- The votes of a patch set that are copied to the next one, and the others.
use Rattle.std.specs.{Map.keys_of, Option.option_map_or}
use Rattle.std.specs.Prelude.{◌≡◌, ℕ, ℤ, List, [], ◌∷◌, map, find, Option, option_map, Bool, false, not, ◌==◌, ◌&&◌, if◌then◌else◌}
use Rattle.{review_names.specs.Groups.GroupList, review_table.specs.Rows.rows_of}
use Rattle.{review_expr_judging.specs.declared.facts.VoteFacts.VoteFacts, review_expr.specs.declared.expr.Expr.Expr}
use Rattle.review_file_rules.specs.View.{FileView, LabelView}
use Rattle.review_core_rules.specs.{Change.condition_holds, Change.label_in, Change.range_of, Votes.voted}
use Rattle.review_core_rules.specs.declared.rows.{VoteKey.VoteKey, Why.Why, Why.TheVariants.NotCopied}
use Rattle.review_core_tables.specs.declared.copying.Parted.{Parted}
pub use Rattle.review_core_rules.specs.Counts.{has_vote, AreApart, AreMany}

-- a table of groups, each with the table of the accounts that are in it
abbrev pub GroupTable : Type 0
GroupTable = List (List ℕ × Option (List (ℕ × Option (Unit {0}))))

-- the groups of a table, each with its members
abbrev pub group_list : GroupTable → GroupList
group_list t = map (λ e. (e.0, keys_of (rows_of e.1))) (rows_of t)

-- the facts of a vote, where the groups are those of a table
abbrev pub with_groups : VoteFacts → GroupTable → VoteFacts
with_groups f t = record f { groups = group_list t }

-- whether a vote is copied: by its label, its account and its value
abbrev pub Copies : Type 0
Copies = List ℕ → ℕ → ℤ → Bool

-- whether a file's copy conditions hold for a vote, where the rest of its facts are these
abbrev pub copies_by : FileView Expr → VoteFacts → Copies
copies_by file f l a v = option_map_or (λ label. condition_holds label.copy_condition (record f { value = v; voter = a; range = range_of label })) (label_in file l) false

-- the votes on a patch set that are copied, on the next one
abbrev pub copied_rows : Copies → ℕ → ℕ → List (VoteKey × ℤ) → List (VoteKey × ℤ)
copied_rows f n next [] = []
copied_rows f n next (e ∷ es) =
    if ((e.0.patch == n) && voted e.1) && f e.0.label e.0.account e.1
    then (record { patch = next; label = e.0.label; account = e.0.account }, e.1) ∷ copied_rows f n next es
    else copied_rows f n next es

-- the votes on a patch set that aren't copied
abbrev pub lost_rows : Copies → ℕ → List (VoteKey × ℤ) → List VoteKey
lost_rows f n [] = []
lost_rows f n (e ∷ es) = if ((e.0.patch == n) && voted e.1) && not (f e.0.label e.0.account e.1) then e.0 ∷ lost_rows f n es else lost_rows f n es

-- the votes of a patch set that are copied, and those that aren't
pub record IsSplit (f : Copies) (n next : ℕ) (rows : List (VoteKey × ℤ)) (s : Parted) : Type 0 where
  pub copied : s.copied.items ≡ copied_rows f n next rows
  pub lost : s.lost.items ≡ lost_rows f n rows

-- whether an account lost its vote on a label
abbrev pub has_lost : List VoteKey → ℕ → List ℕ → Bool
has_lost lost u l = has_vote lost u l

-- why an account is called that lost its vote on one of these labels: the first
abbrev pub lost_label : List (LabelView Expr) → List VoteKey → ℕ → Option Why
lost_label labels lost u = option_map NotCopied (find (has_lost lost u) (map (λ x. x.name) labels))
