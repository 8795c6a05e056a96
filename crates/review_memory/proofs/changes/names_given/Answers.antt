use Rattle.std.proofs.Common.{◌≡◌, ◌+◌, ◌∙◌, ap, sym, subst, ◌++◌, ◌∷◌, [], List, take, Option, Some, ℕ, ◌<◌, length, get_or, All, Contains, IfSome}
use Rattle.std.proofs.lemmas.List.Elements.{All-push, Contains-get_or}
use Rattle.{review_table.specs.declared.table.RowEdit.RowEdit, review_machine_rows.proofs.Looked.All-step}
use Rattle.review_memory.proofs.{Applied.given_more, Applied.listed_here, Lower.All-whole}
use Rattle.review_memory.proofs.changes.names_given.Goals.{in-Some+in_ok-copy+in_ok-push, in_default}
use Rattle.review_memory.specs.{Desk.IsGiven, Desk.IsNameOf, Desk.IsNumber, declared.keys.NameKey.NameKey}
use Rattle.review_memory.proofs.changes.names_given.Goals as goal

-- the name that a change gives is one of the changes'
name_of : (changes : List (RowEdit ℕ (List ℕ))) (index : ℕ) (change : RowEdit ℕ (List ℕ)) (name : List ℕ) → index < length changes → change ≡ get_or changes index change → change.row ≡ Some name →
    IsNameOf changes (record { name = name; account = change.key })
name_of changes index change name below is row =
    subst (Contains changes) (sym is ∙ ap (λ (r : Option (List ℕ)). record { key = change.key; row = r }) row) (Contains-get_or changes index change below)

pub loop-change-preserved : goal.loop-change-preserved
loop-change-preserved c =
    let changes = c.args.changes.now in
    let index = c.loop-change.change-index in
    let change = c.change-item.result in
    let names = c.loop-change.names.items in
    let number : IsNumber change.key = (c.get.ensures.least, c.get.ensures.most) in
    let Listed : List NameKey → Type 0 = λ ns. All (IsGiven ns) (take (index + 1) changes) in
    let Named : List NameKey → Type 0 = All (IsNameOf changes) in
    let before = c.loop-change.invariant in
    elim c.match-change.branch [
      | in-Some+in_ok-copy+in_ok-push w ↦
          let key : NameKey = record { name = w.in-Some.name; account = change.key } in
          let is : c.match-change.names.items ≡ names ++ key ∷ [] =
          ap (λ v. v.items) w.names-is ∙ w.in_ok-push.ensures.items ∙ ap (λ (n : List ℕ). names ++ record { name = n; account = change.key } ∷ []) w.in_ok-copy.ensures in
          record {
            all = subst Listed (sym is) (All-step (IsGiven names) (IsGiven (names ++ key ∷ [])) changes index change c.loop-change-test.true c.change-item.is (given_more names key) before.all
                (number, listed_here names change.key w.in-Some.name change.row w.in-Some.is));
            only = subst Named (sym is) (All-push (IsNameOf changes) names key before.only (name_of changes index change w.in-Some.name c.loop-change-test.true c.change-item.is w.in-Some.is));
          }
      | in_default w ↦
          record {
            all = subst Listed (sym (ap (λ v. v.items) w.names-is)) (All-step (IsGiven names) (IsGiven names) changes index change c.loop-change-test.true c.change-item.is (λ x h. h) before.all
                (number, subst (λ (o : Option (List ℕ)). IfSome o (λ n. Contains names (record { name = n; account = change.key }))) (sym w.in_default.is) tt));
            only = subst Named (sym (ap (λ v. v.items) w.names-is)) before.only;
          }
    ]

pub returns-clause-all : goal.returns-clause-all
returns-clause-all c = All-whole (IsGiven c.loop-change.names.items) c.args.changes.now c.loop-change.change-index c.loop-change-test.false c.loop-change.invariant.all
