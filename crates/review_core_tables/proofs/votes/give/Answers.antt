use Rattle.std.proofs.Common.{rules, ◌≡◌, ◌∙◌, ◌+◌, ◌<◌, ◌∷◌, ℕ, ℤ, List, ap, drop, get_or, int_eq, length, sym, of_z, to_z, w8}
use Rattle.std.proofs.lemmas.{Bool.Decides.Decides-int_eq, Int.to_z-of_z, List.at_drop_more}
use Rattle.{std.specs.Prelude.if◌then◌else◌, review_table.specs.Edited.edited_row}
use Rattle.review_words.specs.declared.changes.Given.{Given}
use Rattle.review_core_rules.specs.{EditedRows.edited_vote, Seen.value_of, Seen.vote_cmp}
use Rattle.review_core_tables.proofs.Copied.{given_more, value_voted, vote_key, vote_set, vote_stays}
use Rattle.review_core_tables.specs.inner.Words.{given_at, is_vote}
use Rattle.review_core_tables.proofs.votes.give.Goals as goal

-- the loop gave one value more
one_given : (patch account : ℕ) (labels : List Given) (i : ℕ) (given : Given) (label : List ℕ) (new old : ℕ → List ℕ → ℕ → ℤ) → i < length labels → given ≡ get_or labels i given → label ≡ given.label →
    ((n : ℕ) (l : List ℕ) (a : ℕ) → new n l a ≡ (if is_vote (vote_key patch label account) n l a then given.value else old n l a)) →
    (n : ℕ) (l : List ℕ) (a : ℕ) → given_at patch account (drop (i + 1) labels) n l a (new n l a) ≡ given_at patch account (drop i labels) n l a (old n l a)
one_given patch account labels i given label new old below item same is n l a =
    let rest = drop (i + 1) labels in
    ap (given_at patch account rest n l a) (is n l a ∙ ap (λ x. if is_vote (vote_key patch x account) n l a then given.value else old n l a) same)
    ∙ (given_more patch account given rest n l a (old n l a)
    ∙ (ap (λ g. given_at patch account (g ∷ rest) n l a (old n l a)) item ∙ sym (at_drop_more (λ gs. given_at patch account gs n l a (old n l a)) labels i given below)))

pub loop-given-preserved-then-has_value : goal.loop-given-preserved-then-has_value
loop-given-preserved-then-has_value c =
    let old = c.loop-given.votes in
    let given = c.given-item.result in
    let key = vote_key c.args.patch c.in_ok-label.label c.args.account in
    let v = to_z w8 (of_z w8 given.value) in
    let is = (Decides-int_eq (value_of (edited_row vote_cmp old key)) v).0 (ap (λ o. int_eq (value_of o) v) (sym c.get.ensures) ∙ (sym c.has_value.ensures ∙ c.if-has_value.true)) in
    record {
      table = c.loop-given.invariant.table;
      votes = λ n l a. one_given c.args.patch c.args.account c.args.labels.now c.loop-given.given-index given c.in_ok-label.label (edited_vote old) (edited_vote old) c.loop-given-test.true c.given-item.is c.in_ok-label.ensures
          (vote_stays key given.value (edited_row vote_cmp old) (is ∙ to_z-of_z w8 given.value (search rules))) n l a ∙ c.loop-given.invariant.votes n l a;
    }

pub loop-given-preserved : goal.loop-given-preserved
loop-given-preserved c =
    let old = c.loop-given.votes in
    let new = c.set.new.self in
    let given = c.given-item.result in
    let key = vote_key c.args.patch c.in_ok-label.label c.args.account in
    let v = to_z w8 (of_z w8 given.value) in
    record {
      table = c.in_ok-set.ensures.table ∙ c.loop-given.invariant.table;
      votes = λ n l a. one_given c.args.patch c.args.account c.args.labels.now c.loop-given.given-index given c.in_ok-label.label (edited_vote new) (edited_vote old) c.loop-given-test.true c.given-item.is c.in_ok-label.ensures
          (λ m k b. vote_set key c.from_value.result (edited_row vote_cmp new) (edited_row vote_cmp old) c.in_ok-set.ensures.rows m k b
          ∙ ap (λ w. if is_vote key m k b then w else edited_vote old m k b) (ap value_of c.from_value.ensures ∙ (value_voted v ∙ to_z-of_z w8 given.value (search rules)))) n l a ∙ c.loop-given.invariant.votes n l a;
    }
