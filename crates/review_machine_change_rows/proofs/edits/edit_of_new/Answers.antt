use Rattle.std.proofs.Common.{refl, subst, sym}
use Rattle.{std.specs.Ordering.nat_cmp, review_table.specs.Rows.NamesOnce, review_core_rules.specs.Seen.vote_cmp}
use Rattle.review_machine_change_rows.proofs.Edited.{begun, numbers_once}
use Rattle.review_machine_change_rows.proofs.edits.edit_of_new.Goals as goal

pub returns-clause-becomes : goal.returns-clause-becomes
returns-clause-becomes c =
    begun (record { change = c.args.change; header = c.args.new.header; patches = c.in_ok-patches.patches; votes = c.new.result; roles = c.new-2.result; comments = c.new-3.result; attention = c.new-4.result }) c.args.new (record {
      header = refl;
      patches = c.in_ok-patches.ensures;
      votes = c.new.ensures.items;
      roles = c.new-2.ensures.items;
      comments = c.new-3.ensures.items;
      attention = c.new-4.ensures.items;
    }) c.requires.bare

pub returns-clause-once : goal.returns-clause-once
returns-clause-once c = record {
  patches = subst (NamesOnce nat_cmp) (sym c.in_ok-patches.ensures) (numbers_once 0 c.args.new.patches.items);
  votes = subst (NamesOnce vote_cmp) (sym c.new.ensures.items) tt;
  roles = subst (NamesOnce nat_cmp) (sym c.new-2.ensures.items) tt;
  comments = subst (NamesOnce nat_cmp) (sym c.new-3.ensures.items) tt;
  attention = subst (NamesOnce nat_cmp) (sym c.new-4.ensures.items) tt;
}
