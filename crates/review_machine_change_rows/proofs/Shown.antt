-- The change that tables show.
use Rattle.std.proofs.Common.{◌≡◌, ℕ, Option, Some, None, Result, Ok, Err, refl, sym, ap, subst, ◌∙◌, nat_cmp, IfErr, option_map, IsErr, IsErrAnd}
use Rattle.review_core_rules.specs.Parts.{TheHeader, PatchOf, VoteOf, RoleOf, CommentOf, AttentionOf, AHeader, APatch, ARole, AComment, AnAttentionEntry}
use Rattle.review_machine_rows.proofs.Common.{ChangeRows, CommentRow, PatchRow, VoteKey, of_number, row_in, rows_of, seen, vote_cmp, vote_row}
use Rattle.review_machine_change_rows.proofs.Edited.{vote_is}
use Rattle.review_machine_change_rows.specs.{Tables.HaveFault, Tables.Show, declared.loading.ChangeFault.ChangeFault}
use Rattle.review_machine_change_rows.specs.declared.loading.ChangeFault.TheVariants.{Memory, Gap}
use Rattle.review_machine_change_rows.specs.declared.tables.ChangeTables.{ChangeTables}
use Rattle.review_machine_change_rows.specs.inner.Words.{AreInOrder, IsGap}

-- the rows of a change are those of tables
pub record Reads (t : ChangeTables) (r : ChangeRows) : Type 0 where
  pub header : r.header ≡ t.header
  pub patches : AreInOrder (rows_of t.patches) r.patches.items
  pub votes : (q : VoteKey) → row_in vote_cmp (rows_of r.votes) q ≡ row_in vote_cmp (rows_of t.votes) q
  pub roles : (u : ℕ) → row_in nat_cmp (rows_of r.roles) u ≡ row_in nat_cmp (rows_of t.roles) u
  pub comments : AreInOrder (rows_of t.comments) r.comments.items
  pub attention : (u : ℕ) → row_in nat_cmp (rows_of r.attention) u ≡ row_in nat_cmp (rows_of t.attention) u

pub shown : (t : ChangeTables) (r : ChangeRows) → Reads t r → Show t (seen r)
shown t r is TheHeader = ap (λ h. Some (AHeader h)) (sym is.header)
shown t r is (PatchOf n) = ap (option_map APatch) (is.patches n)
shown t r is (VoteOf n l a) = let q : VoteKey = record { patch = n; label = l; account = a } in ap vote_row (sym (is.votes q)) ∙ sym (vote_is (row_in vote_cmp (rows_of r.votes) q))
shown t r is (RoleOf u) = ap (option_map ARole) (sym (is.roles u))
shown t r is (CommentOf n) = ap (option_map AComment) (is.comments n)
shown t r is (AttentionOf u) = ap (option_map AnAttentionEntry) (sym (is.attention u))

patch_from : (o p : Option PatchRow) → option_map APatch o ≡ option_map APatch p → o ≡ p
patch_from None None e = refl
patch_from None (Some y) e = absurd (cc)
patch_from (Some x) None e = absurd (cc)
patch_from (Some x) (Some y) e = let same : x ≡ y = cc in ap Some same

comment_from : (o p : Option CommentRow) → option_map AComment o ≡ option_map AComment p → o ≡ p
comment_from None None e = refl
comment_from None (Some y) e = absurd (cc)
comment_from (Some x) None e = absurd (cc)
comment_from (Some x) (Some y) e = let same : x ≡ y = cc in ap Some same

pub patches_fault : (t : ChangeTables) (f : ChangeFault) → IsGap (rows_of t.patches) f → HaveFault t f
patches_fault t Memory none = tt
patches_fault t Gap none = λ c show. none c.patches (λ n. patch_from (row_in nat_cmp (rows_of t.patches) n) (of_number c.patches n) (show (PatchOf n)))

pub comments_fault : (t : ChangeTables) (f : ChangeFault) → IsGap (rows_of t.comments) f → HaveFault t f
comments_fault t Memory none = tt
comments_fault t Gap none = λ c show. none c.comments (λ n. comment_from (row_in nat_cmp (rows_of t.comments) n) (of_number c.comments n) (show (CommentOf n)))

-- an error that is passed on
pub passed : {X : Type 0} (Holds : ChangeFault → Type 0) (f : ChangeFault) (r : Result X ChangeFault) → IsErr r × IsErrAnd r (λ e. e ≡ f) → Holds f → IfErr r Holds
passed Holds f (Ok x) e h = tt
passed Holds f (Err x) e h = subst Holds (sym e.1) h
