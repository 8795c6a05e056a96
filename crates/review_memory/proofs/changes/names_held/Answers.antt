use Rattle.std.proofs.Common.{◌≡◌, ◌+◌, ◌∙◌, ap, sym, subst, ◌++◌, ◌∷◌, [], List, take, Option, ℕ, All, Contains, IfSome, nat_cmp}
use Rattle.{review_table.specs.Rows.row_in, review_table.specs.Rows.rows_of, review_machine_rows.proofs.Looked.All-step}
use Rattle.review_memory.proofs.{Applied.held_more, Applied.listed_here, Lower.All-whole}
use Rattle.review_memory.proofs.changes.names_held.Goals.{in-Some+in_ok-copy+in_ok-push, in_default}
use Rattle.review_memory.specs.{Desk.IsHeld, declared.keys.NameKey.NameKey}
use Rattle.review_memory.proofs.changes.names_held.Goals as goal

pub loop-change-preserved : goal.loop-change-preserved
loop-change-preserved c =
    let rows = rows_of c.args.accounts.now in
    let changes = c.args.changes.now in
    let index = c.loop-change.change-index in
    let change = c.change-item.result in
    let names = c.loop-change.names.items in
    let Goal : List NameKey → Type 0 = λ ns. All (IsHeld rows ns) (take (index + 1) changes) in
    elim c.match-get.branch [
      | in-Some+in_ok-copy+in_ok-push w ↦
          let key : NameKey = record { name = w.in-Some.name.now; account = change.key } in
          let is : c.match-get.names.items ≡ names ++ key ∷ [] =
          ap (λ v. v.items) w.names-is ∙ w.in_ok-push.ensures.items ∙ ap (λ (n : List ℕ). names ++ record { name = n; account = change.key } ∷ []) w.in_ok-copy.ensures in
          subst Goal (sym is) (All-step (IsHeld rows names) (IsHeld rows (names ++ key ∷ [])) changes index change c.loop-change-test.true c.change-item.is (held_more rows names key) c.loop-change.invariant
          (listed_here names change.key w.in-Some.name.now (row_in nat_cmp rows change.key) (sym w.in-Some.ensures)))
      | in_default w ↦
          subst Goal (sym (ap (λ v. v.items) w.names-is)) (All-step (IsHeld rows names) (IsHeld rows names) changes index change c.loop-change-test.true c.change-item.is (λ x h. h) c.loop-change.invariant
          (subst (λ (o : Option (List ℕ)). IfSome o (λ n. Contains names (record { name = n; account = change.key }))) w.in_default.ensures tt))
    ]

pub returns : goal.returns
returns c = All-whole (IsHeld (rows_of c.args.accounts.now) c.loop-change.names.items) c.args.changes.now c.loop-change.change-index c.loop-change-test.false c.loop-change.invariant
