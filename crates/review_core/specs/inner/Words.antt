-- Words that only proofs and private clauses use.
use Rattle.std.specs.{Option.option_map_or, Prelude.ℕ, Prelude.Bool, Prelude.true, Prelude.◌&&◌}
use Rattle.{review_names.specs.Forms.is_within, review_core_rules.specs.declared.rows.CommentRow.CommentRow}

-- a comment is on a patch set that is there and answers none but an earlier one
abbrev pub is_earlier : ℕ → ℕ → CommentRow → Bool
is_earlier current before x = is_within current x.patch && option_map_or (λ k. is_within before k) x.answers true
