-- A change for a branch, as a link in it.
use Rattle.std.proofs.Common.{◌≡◌, ℕ, List, Option, Some, None, Bool, true, false, cond, refl, option_map, bytes_eq}
use Rattle.review_machine_rows.proofs.Common.{Change, Link, PatchRow, and_from, and_parts, bytes_eq-Decides, current, current_patch}
use Rattle.review_machine_rows.specs.Links.{is_for, link_for, link_of}

-- a change is for the branch that its project and branch name
pub for_branch : (project branch : List ℕ) (c : Change) → is_for project branch c ≡ true → (c.project ≡ project) × (c.branch ≡ branch)
for_branch project branch c is =
    let p = and_parts (bytes_eq c.project project) (bytes_eq c.branch branch) is in ((bytes_eq-Decides c.project project).0 p.0, (bytes_eq-Decides c.branch branch).0 p.1)

pub is_for_branch : (project branch : List ℕ) (c : Change) → c.project ≡ project → c.branch ≡ branch → is_for project branch c ≡ true
is_for_branch project branch c one two = and_from (bytes_eq c.project project) (bytes_eq c.branch branch) ((bytes_eq-Decides c.project project).1 one) ((bytes_eq-Decides c.branch branch).1 two)

-- a link is that of a change for the branch: with its current patch set, and in its state
pub record IsLinked (project branch : List ℕ) (o : Option Change) (link : Link) : Type 0 where
  pub of : Change
  pub there : o ≡ Some of
  pub for_project : of.project ≡ project
  pub for_branch : of.branch ≡ branch
  pub patch : PatchRow
  pub is_current : current_patch of ≡ Some patch
  pub link_is : record { patch = current of; parent = patch.parent; state = of.state; wip = of.wip } ≡ link

pub linked : (project branch : List ℕ) (o : Option Change) (link : Link) → link_for project branch o ≡ Some link → IsLinked project branch o link
linked project branch None link is = absurd (cc)
linked project branch (Some c) link is = by_branch (is_for project branch c) refl is
  where
    by_patch : is_for project branch c ≡ true → (p : Option PatchRow) → current_patch c ≡ p → option_map (λ p. record { patch = current c; parent = p.parent; state = c.state; wip = c.wip }) p ≡ Some link →
        IsLinked project branch (Some c) link
    by_patch same None none e = absurd (cc)
    by_patch same (Some p) some e =
        let to = for_branch project branch c same in
        let one : record { patch = current c; parent = p.parent; state = c.state; wip = c.wip } ≡ link = cc in
        record { of = c; there = refl; for_project = to.0; for_branch = to.1; patch = p; is_current = some; link_is = one }

    by_branch : (b : Bool) → is_for project branch c ≡ b → cond b (link_of c) None ≡ Some link → IsLinked project branch (Some c) link
    by_branch false other e = absurd (cc)
    by_branch true same e = by_patch same (current_patch c) refl e
