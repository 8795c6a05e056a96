use Rattle.std.proofs.Common.{◌≡◌, ◌&&◌, ◌∙◌, ap, sym, length, true}
use Rattle.{std.proofs.lemmas.Bool.and_parts, std.specs.List.list_all, review_table.specs.Rows.rows_of}
use Rattle.review_core_rules.specs.{Change.last_uploader, Seen.of_account, Seen.seen, Sound.IsSound, Sound.are_in_order}
use Rattle.review_core.proofs.Fitting.{call_test, fitting, passing, place_test}
use Rattle.review_core.specs.Tests.{are_counted, is_called_in_place, is_in_place}
use Rattle.review_core.proofs.file.fit_together.Goals as goal

pub returns : goal.returns
returns c =
    let rows = c.args.rows.now in
    let owner = rows.header.owner in
    let current : c.len-current.result ≡ length rows.patches.items = c.len-current.ensures ∙ rows.patches.ok.0 in
    let counted : c.are_counted-counted.result ≡ are_counted (length rows.patches.items) (length rows.comments.items) =
    c.are_counted-counted.ensures ∙ (λ i. are_counted (length (c.deref-2.ensures.value i)) (length (c.deref-3.ensures.value i))) in
    let ordered : c.are_in_order-ordered.result ≡ are_in_order (length rows.patches.items) 0 rows.comments.items =
    c.are_in_order-ordered.ensures ∙ (λ i. are_in_order (current i) 0 (c.deref-4.ensures.value i)) in
    let votes : c.in_ok-votes.votes ≡ list_all (place_test rows) (rows_of rows.votes) =
    c.in_ok-votes.ensures ∙ (λ i. list_all (is_in_place (current i) (of_account rows.roles)) (rows_of rows.votes)) in
    let uploader : c.last_uploader-uploader.result ≡ last_uploader owner rows.patches.items = c.last_uploader-uploader.ensures ∙ ap (last_uploader owner) c.deref.ensures.value in
    let called : c.in_ok-called.called ≡ list_all (call_test rows) (rows_of rows.attention) =
    c.in_ok-called.ensures ∙ (λ i. list_all (is_called_in_place owner (uploader i) (of_account rows.roles)) (rows_of rows.attention)) in
    let whole = c.are_all.ensures ∙ (λ i. counted i && (ordered i && (votes i && called i))) in
    let fits : c.are_all.result ≡ true → IsSound (seen rows) = λ is.
    let p = and_parts (are_counted (length rows.patches.items) (length rows.comments.items)) (are_in_order (length rows.patches.items) 0 rows.comments.items && (list_all (place_test rows) (rows_of rows.votes) && list_all (call_test rows) (rows_of rows.attention)))
    (sym whole ∙ is) in
    let q = and_parts (are_in_order (length rows.patches.items) 0 rows.comments.items) (list_all (place_test rows) (rows_of rows.votes) && list_all (call_test rows) (rows_of rows.attention)) p.1 in
    let r = and_parts (list_all (place_test rows) (rows_of rows.votes)) (list_all (call_test rows) (rows_of rows.attention)) q.1 in
    fitting rows p.0 q.0 r.0 r.1 in
    (fits, λ s. whole ∙ passing rows c.once.ensures.sorted c.once-2.ensures.sorted s)
