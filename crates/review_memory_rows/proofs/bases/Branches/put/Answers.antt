use Rattle.std.proofs.Common.{◌≡◌, ◌≤◌, ◌+◌, ◌∙◌, ◌∷◌, [], List, ℕ, Some, None, cond, ap, ◌<◌, sym, subst, arith, All, is_some, option_map, IsSome, nat_cmp}
use Rattle.review_machine_rows.proofs.Common.{RowEdit, branch_cmp, changed, place_cmp, row_in, rows_of, slice_cmp, some_mapped}
use Rattle.review_machine_rows.specs.declared.rows.{BranchKey.BranchKey, PlaceKey.PlaceKey, Put.Put}
use Rattle.review_memory_rows.proofs.Based.{WithRow, IsGreater, with_row, last_more, last_unique, greater_of, still_last, total_more, total_is, one_has, listed_alike, listed_more, stood_before}
use Rattle.review_memory_rows.specs.Bases.{BranchesView, IsPut, IsLastPlace, commit_cmp, commit_at, has_commit, last_in, total_in, greatest_place}
use Rattle.review_memory_rows.specs.declared.keys.CommitKey.{CommitKey}
use Rattle.review_memory_rows.proofs.bases.Branches.put.Goals as goal

pub listed_at-requires : goal.listed_at-requires
listed_at-requires c = subst (λ (k : BranchKey). IsLastPlace c.args.self.now.bases k.project k.branch c.last_place-ended.result) c.in_ok-branch.ensures c.last_place-ended.ensures

pub begin-begun-requires : goal.begin-begun-requires
begin-begun-requires c =
    let base = c.args.base.now in
    let was = c.in_ok-before.ensures ∙ ap (λ (v : BranchesView). option_map (commit_at base.key) (row_in place_cmp v.bases base.key)) (sym c.self.view_is) in
    let stands = stood_before base c.in_ok-before.before (rows_of c.self.inside.commits) (rows_of c.self.inside.bases) c.self.invariant.0 was in
    let known : c.in_ok-changes.changes.is_listed ≡ has_commit c.in_ok-before.before base.row = c.in_ok-changes.ensures.stood ∙ c.has_commit-is_listed.ensures in
    ap (row_in commit_cmp (rows_of c.self.inside.commits)) c.in_ok-changes.ensures.listed ∙ (stands ∙ ap (λ b. cond b (Some tt) None) (sym known))

pub invariant_of-self : goal.invariant_of-self
invariant_of-self c =
    let base = c.args.base.now in
    let last = c.max-last.result in
    let ended_at = c.last_place-ended.result in
    let same : last_in (rows_of c.self.inside.lasts) base.key.project base.key.branch ≡ ended_at =
    last_unique (rows_of c.self.inside.bases) base.key.project base.key.branch (last_in (rows_of c.self.inside.lasts) base.key.project base.key.branch) ended_at (c.self.invariant.1 base.key.project base.key.branch)
    (subst (λ (v : BranchesView). IsLastPlace v.bases base.key.project base.key.branch ended_at) (sym c.self.view_is)
    (subst (λ (k : BranchKey). IsLastPlace c.args.self.now.bases k.project k.branch ended_at) c.in_ok-branch.ensures c.last_place-ended.ensures)) in
    let greater : IsGreater (last_in (rows_of c.self.inside.lasts) base.key.project base.key.branch) base.key.place last =
    subst (λ n. IsGreater n base.key.place last) (sym same) (greater_of ended_at base.key.place last c.max-last.ensures) in
    let listed : WithRow commit_cmp (rows_of c.self.inside.commits) (commit_at base.key base.row) tt (rows_of c.begin-begun.new.commits) =
    subst (λ (k : CommitKey). WithRow commit_cmp (rows_of c.self.inside.commits) k tt (rows_of c.begin-begun.new.commits)) c.in_ok-changes.ensures.listed c.in-Ok.ensures.listed in
    let ended : WithRow branch_cmp (rows_of c.self.inside.lasts) (record { project = base.key.project; branch = base.key.branch }) last (rows_of c.apply.new.self) =
    with_row branch_cmp (rows_of c.self.inside.lasts) (rows_of c.apply.new.self) (record { project = base.key.project; branch = base.key.branch }) last
    (λ q. c.apply.ensures.all c.in-Ok.ensures.ended q
    ∙ (λ i. changed branch_cmp (c.in_ok-changes.ensures.ended i) q (row_in branch_cmp (c.begin-begun.ensures.lasts i) q))
    ∙ (λ i. changed branch_cmp (record { key = c.in_ok-branch.ensures i; row = Some last } ∷ []) q (row_in branch_cmp (rows_of c.self.inside.lasts) q))) in
    let fits : last ≤ greatest_place = let t : last < 18446744073709551616 = c.max-last.type_inv in omega (arith, t) in
    let spare = c.begin-begun.ensures.spare c.self.invariant.2 in (
      listed_more base c.in_ok-before.before (rows_of c.self.inside.commits) (rows_of c.begin-begun.new.commits) (rows_of c.drop_stale.new.commits) (rows_of c.self.inside.bases) (rows_of c.begin-begun.new.bases)
          (record {
            fits = let h = greater.1 in omega arith;
            all = c.self.invariant.0;
            was = c.in_ok-before.ensures ∙ ap (λ (v : BranchesView). option_map (commit_at base.key) (row_in place_cmp v.bases base.key)) (sym c.self.view_is);
            listed = listed;
            dropped = c.drop_stale.ensures.rows;
            put = c.in-Ok.ensures.placed;
          }),
      last_more base last (rows_of c.self.inside.lasts) (rows_of c.apply.new.self) (rows_of c.self.inside.bases) (rows_of c.begin-begun.new.bases) c.self.invariant.1 greater ended c.in-Ok.ensures.placed,
      record {
        bases_full = spare.bases_full;
        commits_full = c.drop_stale.ensures.full spare.commits_full;
        lasts_full = c.apply.ensures.mended (subst (All (λ (x : RowEdit BranchKey ℕ). IsSome x.row)) (sym c.in_ok-changes.ensures.ended) (one_has c.in_ok-branch.branch last)) spare.lasts_spare;
        totals_full = c.apply-in-Ok.ensures.mended (subst (All (λ (x : RowEdit (List ℕ) ℕ). IsSome x.row)) (sym c.in_ok-changes.ensures.counted) (one_has base.key.project (c.total.result + c.from.result))) spare.totals_spare;
      },
    )

pub invariant_of-self-in-Err : goal.invariant_of-self-in-Err
invariant_of-self-in-Err c =
    let same = sym c.in-Err.ensures.bases in (
      listed_alike (rows_of c.self.inside.commits) (rows_of c.begin-begun.new.commits) (rows_of c.self.inside.bases) (rows_of c.begin-begun.new.bases) c.in-Err.ensures.unlisted same c.self.invariant.0,
      still_last (rows_of c.self.inside.bases) (rows_of c.begin-begun.new.bases) (rows_of c.self.inside.lasts) (rows_of c.release.new.lasts) same (sym (c.release.ensures.lasts ∙ c.begin-begun.ensures.lasts)) c.self.invariant.1,
      c.release.ensures.full c.begin-begun.new.bases c.begin-begun.new.commits (c.begin-begun.ensures.spare c.self.invariant.2),
    )

pub returns-in-Ok-clause-put : goal.returns-in-Ok-clause-put
returns-in-Ok-clause-put c =
    let base = c.args.base.now in
    let known = is_some (row_in place_cmp (rows_of c.self.inside.bases) base.key) in
    let total = c.total.result + c.from.result in
    let totals = rows_of c.self.inside.totals in
    let after = rows_of c.apply-in-Ok.new.self in
    let counted : WithRow (slice_cmp nat_cmp) totals base.key.project total after = with_row (slice_cmp nat_cmp) totals after base.key.project total
    (λ q. c.apply-in-Ok.ensures.all c.in-Ok.ensures.counted q ∙ (λ i. changed (slice_cmp nat_cmp) (c.in_ok-changes.ensures.counted i) q (row_in (slice_cmp nat_cmp) (c.begin-begun.ensures.totals i) q))) in
    subst (λ (v : BranchesView). IsPut base v (record { bases = rows_of c.begin-begun.new.bases; totals = after })) c.self.view_is
    (record {
      bases = c.in-Ok.ensures.placed;
      totals = total_more base known total totals after
          (total_is known c.is_some-known.result c.total.result c.from.result (total_in totals base.key.project)
          (c.is_some-known.ensures ∙ ap is_some c.in_ok-before.ensures ∙ some_mapped (commit_at base.key) (row_in place_cmp c.args.self.now.bases base.key)
          ∙ ap (λ (v : BranchesView). is_some (row_in place_cmp v.bases base.key)) (sym c.self.view_is))
          c.from.ensures
          (c.total.ensures ∙ ap (λ (v : BranchesView). total_in v.totals base.key.project) (sym c.self.view_is)))
          counted;
    })
