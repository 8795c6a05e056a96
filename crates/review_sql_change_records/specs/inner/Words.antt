-- Words that only proofs and private clauses use.
use Rattle.std.proofs.Common.{◌≡◌, ℕ, List, Option, Some, None, ap, true, refl}
use Rattle.std.proofs.lemmas.{Bool.and_from, Bool.and_parts, Option.same_Some}
use Rattle.sqlite_value.specs.Order.{Row as Raw, column}
use Rattle.review_names.specs.Forms.{is_commit, is_within, most_changes, most_patches}
use Rattle.{review_names.specs.declared.kinds.ChangeKind.ChangeKind, review_sql_tables.specs.Content.has_key}
use Rattle.{review_sql_tables.specs.Search.reads, review_core_rules.specs.declared.rows.PatchRow.PatchRow}
use Rattle.review_sql_records.specs.Laws.{passed, both_are, one_number}
use Rattle.review_sql_change_records.specs.{Forms.patched, Forms.patches, Forms.sent, Laws.at_text}

patched_commit : (a b : Option (List ℕ)) (k : Option ChangeKind) (u : Option ℕ) (p : Option (List (List ℕ))) (x : PatchRow) → patched a b k u p ≡ Some x → a ≡ Some x.commit
patched_commit None b k u p x is = absurd (cc)
patched_commit (Some a) None k u p x is = absurd (cc)
patched_commit (Some a) (Some b) None u p x is = absurd (cc)
patched_commit (Some a) (Some b) (Some k) None p x is = absurd (cc)
patched_commit (Some a) (Some b) (Some k) (Some u) None x is = absurd (cc)
patched_commit (Some a) (Some b) (Some k) (Some u) (Some p) x is = ap (λ (x : PatchRow). Some x.commit) (same_Some _ _ is)

-- a patch set is among those that have its commit
pub sent_by_key : (p : ℕ × ℕ) (x : PatchRow) (r : Raw) → has_key (patches.at p) r ≡ true → reads patches r ≡ Some x → has_key (sent.at x.commit) r ≡ true
sent_by_key p x r h is = and_from _ _ (at_text (column r 3) x.commit (passed is_commit _ x.commit (patched_commit _ _ _ _ _ x is))) refl

-- with its own key
pub sent_is : (p e : ℕ × ℕ) (r : Raw) → has_key (patches.at p) r ≡ true → reads sent r ≡ Some e → e ≡ p
sent_is p e r h is =
    let it = both_are _ _ e.0 e.1 is in
    let first : e.0 ≡ p.0 = one_number (column r 1) e.0 p.0 (passed (is_within most_changes) _ e.0 it.0) (and_parts _ _ h).0 in
    let second : e.1 ≡ p.1 = one_number (column r 2) e.1 p.1 (passed (is_within most_patches) _ e.1 it.1) (and_parts _ _ (and_parts _ _ h).1).0 in
    (λ i. (first i, second i))
