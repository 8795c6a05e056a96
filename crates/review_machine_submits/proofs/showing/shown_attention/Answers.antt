use Rattle.std.{proofs.Common.◌∙◌, proofs.Common.ap, proofs.Common.map, proofs.Common.refl, specs.Map.Iter.deref_pair}
use Rattle.{review_table.specs.Rows.rows_of, review_core_rules.specs.Shown.shown_attention_entry}
use Rattle.review_machine_submits.proofs.showing.shown_attention.Goals as goal

pub returns : goal.returns
returns c =
    let rows = ap (map deref_pair) c.deref.ensures.value ∙ c.in_ok-attention.ensures.rows in
    (rows_of c.args.rows.now.attention, record { ordered = c.rows.ensures.sorted; each = λ u. refl }, c.from_vec.ensures ∙ (c.in_ok-shown.ensures ∙ ap (map shown_attention_entry) rows))
