use Rattle.std.{proofs.Common.◌≡◌, proofs.Common.◌∙◌, proofs.Common.ap, proofs.Common.Some, specs.Ordering.nat_cmp}
use Rattle.{review_table.specs.Rows.row_in, review_table.specs.Rows.rows_of, review_machine_rows.proofs.Looked.All-step}
use Rattle.review_memory.specs.{Desk.Desk, Desk.name_cmp, declared.keys.NameKey.NameKey}
use Rattle.review_memory.proofs.tables.MemoryTables.drop_names.Goals as goal

pub loop-key-preserved : goal.loop-key-preserved
loop-key-preserved c =
    let old = c.loop-key.self in
    let new = c.drop_name.new.self in
    let accounts : rows_of new.accounts ≡ rows_of old.accounts = ap (λ (d : Desk). d.accounts) c.drop_name.ensures.same in
    record {
      same = c.drop_name.ensures.same ∙ c.loop-key.invariant.same;
      indexed = c.drop_name.ensures.indexed c.loop-key.invariant.indexed;
      no_more = λ k there. c.loop-key.invariant.no_more k (c.drop_name.ensures.no_more k there);
      filled = λ full. c.drop_name.ensures.filled (c.loop-key.invariant.filled full);
      dropped = All-step (λ (k : NameKey). row_in name_cmp (rows_of old.names) k ≡ Some tt → row_in nat_cmp (rows_of old.accounts) k.account ≡ Some k.name)
          (λ (k : NameKey). row_in name_cmp (rows_of new.names) k ≡ Some tt → row_in nat_cmp (rows_of new.accounts) k.account ≡ Some k.name)
          c.args.names.now c.loop-key.key-index c.key-item.result c.loop-key-test.true c.key-item.is
          (λ k was there. ap (λ rows. row_in nat_cmp rows k.account) accounts ∙ was (c.drop_name.ensures.no_more k there))
          c.loop-key.invariant.dropped c.drop_name.ensures.dropped;
    }
