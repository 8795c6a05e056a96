use Rattle.review_sql_tables.proofs.Common.{rules, ◌≡◌, nat_eq, length, subst₂, sym, Decides, IsDistinct, int_eq}
use Rattle.review_sql_tables.proofs.Ids.{differ}
use Rattle.review_sql_tables.proofs.rowids.are_distinct.Goals as goal

pub returns : goal.returns
returns c =
    let old = c.args.ids.items in
    let new = c.dedup.new.self.items in
    let after : c.len.result ≡ length new = search rules in
    let before : c.len-count.result ≡ length old = search rules in
    subst₂ (λ m n. Decides (nat_eq m n) (IsDistinct int_eq old)) (sym after) (sym before) (differ old c.sort_unstable.new.self.items new c.sort_unstable.ensures.permutation c.sort_unstable.ensures.sorted c.dedup.ensures.filtered)
