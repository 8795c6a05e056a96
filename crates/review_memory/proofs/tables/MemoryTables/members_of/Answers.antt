use Rattle.std.proofs.Common.{◌≡◌, ◌∙◌, ap, sym, cond, Option, Some, None, Bool, true, false, map, not, ◌&&◌, refl, nat_cmp, is_eq, is_le, is_lt}
use Rattle.std.proofs.lemmas.Cmp.{nat_cmp_total, nat_list_cmp_total, nat_list_eq_equiv, tied_itself}
use Rattle.{std.specs.Cmp.eq_by_cmp_equiv, review_table.proofs.Plain.or_none}
use Rattle.review_machine_rows.proofs.Common.{bytes_eq-Decides, deref_pair, is_at, member_cmp, option_or, ordering_then, row_in, rows_of, slice_cmp}
use Rattle.review_machine_rows.specs.declared.rows.MemberKey.{MemberKey}
use Rattle.review_memory.proofs.Applied.{member_total, row_between_numbers, taken_over}
use Rattle.review_memory.proofs.tables.MemoryTables.members_of.Goals as goal

if_row : {X : Type 0} (b : Bool) (o : Option X) (x : X) → cond b o None ≡ Some x → b ≡ true
if_row true o x is = refl
if_row false o x is = absurd (cc)

both_there : (b : Bool) → cond {A = Option (Unit {0})} b (Some tt) (Some tt) ≡ Some tt
both_there true = refl
both_there false = refl

pub loop-key-init : goal.loop-key-init
loop-key-init c = record {
  left = λ n.
      let q : MemberKey = record { group = c.args.group.now; account = n } in
      let all = row_in member_cmp (rows_of c.args.self.now.members) q in
      ap (λ xs. option_or (row_in member_cmp (map deref_pair xs) q) (row_in nat_cmp (rows_of c.new-members.result) n)) c.into_iter-key-iterator.ensures.into_iter_gives.0
      ∙ ap (λ o. option_or o (row_in nat_cmp (rows_of c.new-members.result) n))
      (c.in_ok-items.ensures.found q
      ∙ (λ i. cond (is_le (ordering_then (slice_cmp nat_cmp (c.in_ok-copy.ensures i) q.group) (nat_cmp (c.first.ensures i) q.account))
      && not (is_lt (ordering_then (slice_cmp nat_cmp (c.in_ok-copy-2.ensures i) q.group) (nat_cmp (c.last.ensures i) q.account)))) all None)
      ∙ row_between_numbers c.args.group.now q.group q.account all (λ _ is. c.requires q is)
      ∙ ap (λ b. cond b all None) (nat_list_eq_equiv.refl q.group))
      ∙ ap (λ t. option_or all (row_in nat_cmp (rows_of t) n)) c.new-members.ensures
      ∙ or_none all;
  own = λ q is.
      let all = row_in member_cmp (rows_of c.args.self.now.members) q in
      let there = sym (row_between_numbers c.args.group.now q.group q.account all (λ _ there. c.requires q there))
      ∙ (λ i. cond (is_le (ordering_then (slice_cmp nat_cmp (sym c.in_ok-copy.ensures i) q.group) (nat_cmp (sym c.first.ensures i) q.account))
      && not (is_lt (ordering_then (slice_cmp nat_cmp (sym c.in_ok-copy-2.ensures i) q.group) (nat_cmp (sym c.last.ensures i) q.account)))) all None)
      ∙ sym (c.in_ok-items.ensures.found q)
      ∙ ap (λ xs. row_in member_cmp (map deref_pair xs) q) (sym c.into_iter-key-iterator.ensures.into_iter_gives.0)
      ∙ is in
      sym ((bytes_eq-Decides c.args.group.now q.group).0 (if_row _ all tt there));
}

pub loop-key-preserved : goal.loop-key-preserved
loop-key-preserved c =
    let group = c.args.group.now in
    let key = c.in-Some.key.now in
    let steps = c.in-Some.ensures.steps.0 in
    let own : key.group ≡ group = c.loop-key.invariant.own key
    (ap (λ xs. row_in member_cmp (map deref_pair xs) key) steps
    ∙ ap (λ b. cond b (Some tt) (row_in member_cmp (map deref_pair c.next.new.self.rest.items) key)) (ap is_eq (tied_itself member_total key))) in
    record {
      left = λ n.
          let q : MemberKey = record { group = group; account = n } in
          let left = row_in member_cmp (map deref_pair c.next.new.self.rest.items) q in
          let old = row_in nat_cmp (rows_of c.loop-key.members) n in
          let at = is_at (member_cmp q) key in
          let same : is_at (nat_cmp key.account) n ≡ at = (eq_by_cmp_equiv nat_cmp_total).symm key.account n
          ∙ sym (ap (λ x. is_eq (ordering_then (slice_cmp nat_cmp group x) (nat_cmp n key.account))) own
          ∙ ap (λ o. is_eq (ordering_then o (nat_cmp n key.account))) (tied_itself nat_list_cmp_total group)) in
          ap (option_or left) (c.in_ok-put.ensures.ok n ∙ ap (λ b. cond b (Some tt) old) same)
          ∙ taken_over at left old
          ∙ ap (λ xs. option_or (row_in member_cmp (map deref_pair xs) q) old) (sym steps)
          ∙ c.loop-key.invariant.left n;
      own = λ q is.
          let at = is_at (member_cmp q) key in
          c.loop-key.invariant.own q (ap (λ xs. row_in member_cmp (map deref_pair xs) q) steps ∙ ap (cond at (Some tt)) is ∙ both_there at);
    }
