use Rattle.std.proofs.Common.{◌≡◌, ◌+◌, ◌∙◌, List, ℕ, ap, refl, sym, subst, arith, is_some}
use Rattle.review_table.specs.Rows.{rows_of}
use Rattle.review_machine_rows.specs.declared.rows.{BranchKey.BranchKey, PlaceKey.PlaceKey}
use Rattle.review_machine_change_rows.specs.declared.loading.ChangeFault.{ChangeFault}
use Rattle.review_machine_change_rows.specs.declared.loading.ChangeFault.TheVariants.{Memory, Gap}
use Rattle.review_memory_rows.proofs.Based.{seen_at, none_of, AreUpTo, up_to_more, all_listed, gap, zero_taken}
use Rattle.review_memory_rows.proofs.Dropped.{copied_some}
use Rattle.review_memory_rows.specs.Bases.{BranchesView, IsUnlisted, base_at}
use Rattle.review_memory_rows.proofs.bases.Branches.bases_of.Goals as goal

pub returns-then-is_some-clause-gap : goal.returns-then-is_some-clause-gap
returns-then-is_some-clause-gap c =
    let rows = c.args.self.now.bases in
    let key = c.args.branch.now in
    let there =
    seen_at (rows_of c.self.inside.bases) rows c.in_ok-copy.field-0 c.in_ok-copy-2.field-0 key.project key.branch 0 (ap (λ (v : BranchesView). v.bases) c.self.view_is) c.in_ok-copy.ensures c.in_ok-copy-2.ensures in
    zero_taken rows key (ap is_some (there ∙ sym c.get.ensures) ∙ copied_some c.get.result ∙ sym c.is_some.ensures ∙ c.if-is_some.true)

-- why bases are not given, where a gap would have them not given
unlisted : (rows : List (PlaceKey × List ℕ)) (key : BranchKey) (fault : ChangeFault) → (fault ≡ Gap → IsUnlisted rows key Gap) → IsUnlisted rows key fault
unlisted rows key Memory f = tt
unlisted rows key Gap f = f refl

pub returns-in-Err-clause-gap : goal.returns-in-Err-clause-gap
returns-in-Err-clause-gap c =
    let rows = c.args.self.now.bases in
    let key = c.args.branch.now in
    let before = c.loop-before.before in
    let there =
    seen_at (rows_of c.self.inside.bases) rows c.loop-before.key.project c.loop-before.key.branch key.project key.branch (before + 1) (ap (λ (v : BranchesView). v.bases) c.self.view_is) c.loop-before.invariant.project c.loop-before.invariant.branch in
    unlisted rows key c.in-Err.fault (λ is.
    gap rows key c.last_place-before-end.result (before + 1) c.last_place-before-end.ensures (omega arith) (let t = c.loop-before-test.true in omega arith) (there ∙ c.in-Err.ensures.gap is))

pub loop-before-preserved : goal.loop-before-preserved
loop-before-preserved c =
    let rows = c.args.self.now.bases in
    let key = c.args.branch.now in
    let before = c.loop-before.before in
    let bases = c.loop-before.bases in
    let added = c.in-Ok.ensures.added in
    let there =
    seen_at (rows_of c.self.inside.bases) rows c.loop-before.key.project c.loop-before.key.branch key.project key.branch (before + 1) (ap (λ (v : BranchesView). v.bases) c.self.view_is) c.loop-before.invariant.project c.loop-before.invariant.branch in
    record {
      project = c.loop-before.invariant.project;
      branch = c.loop-before.invariant.branch;
      up = subst (AreUpTo rows key (before + 1)) (sym added.2) (up_to_more rows key before bases added.0 c.loop-before.invariant.up (there ∙ added.1));
    }

pub returns-clause-bases : goal.returns-clause-bases
returns-clause-bases c =
    let rows = c.args.self.now.bases in
    let key = c.args.branch.now in
    let last = c.last_place-before-end.result in
    let there =
    seen_at (rows_of c.self.inside.bases) rows c.in_ok-copy.field-0 c.in_ok-copy-2.field-0 key.project key.branch 0 (ap (λ (v : BranchesView). v.bases) c.self.view_is) c.in_ok-copy.ensures c.in_ok-copy-2.ensures in
    let zero = none_of (base_at rows key.project key.branch 0) (ap is_some (there ∙ sym c.get.ensures) ∙ copied_some c.get.result ∙ sym c.is_some.ensures ∙ c.if-is_some.false) in
    let whole : c.loop-before.before ≡ last = let t = c.loop-before-test.false in let e = c.loop-before.auto.before-end in omega arith in
    all_listed rows key last c.loop-before.bases c.last_place-before-end.ensures zero (subst (λ n. AreUpTo rows key n c.loop-before.bases) whole c.loop-before.invariant.up)
