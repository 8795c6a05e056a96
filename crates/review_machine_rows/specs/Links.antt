-- A branch as rows know it.
use Rattle.std.specs.Prelude.{ℕ, List, ◌&&◌, Bool, Option, Some, None, if◌then◌else◌, option_map}
use Rattle.{std.specs.Str.bytes_eq, review_chain.specs.Branches.Branch, review_chain.specs.declared.links.Link.Link}
use Rattle.review_core_rules.specs.Change.{Change, current, current_patch}
use Rattle.review_machine_rows.specs.{Known.known, Known.change_in, Known.standing_of, declared.rows.Rows.Rows}
use Rattle.review_machine_rows.specs.declared.rows.Want.TheVariants as want

-- a change is for the branch
abbrev pub is_for : List ℕ → List ℕ → Change → Bool
is_for project branch c = bytes_eq c.project project && bytes_eq c.branch branch

-- a change as a link, by its current patch set
abbrev pub link_of : Change → Option Link
link_of c = option_map (λ p. record { patch = current c; parent = p.parent; state = c.state; wip = c.wip }) (current_patch c)

-- a change for the branch as a link
abbrev pub link_for : List ℕ → List ℕ → Option Change → Option Link
link_for project branch None = None
link_for project branch (Some c) = if is_for project branch c then link_of c else None

-- What rows know of a branch: the changes for it, and what commits are to it.
abbrev pub links_in : Rows → List ℕ → List ℕ → Branch
links_in rows project branch = record {
  link = λ n. link_for project branch (change_in (known rows (want.Change n)));
  standing = λ x. standing_of (known rows (want.Standing (record { project = project; branch = branch; commit = x })));
}
