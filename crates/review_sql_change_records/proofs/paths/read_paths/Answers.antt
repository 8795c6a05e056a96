use Rattle.std.proofs.Common.{◌≡◌, ◌∙◌, ◌==◌, length, true, false, sym, rules, arith, IfOk, subst}
use Rattle.review_names.specs.Forms.{is_path}
use Rattle.review_sql_change_records.proofs.Lines.{all_read, last_refused, nonempty, one_more, refused}
use Rattle.review_sql_change_records.specs.Forms.{set_in}
use Rattle.review_sql_change_records.proofs.paths.read_paths.Goals as goal

pub returns-then-not-branch : goal.returns-then-not-branch
returns-then-not-branch c =
    let empty : c.is_empty.result ≡ (length c.args.text.now == 0) = search rules in
    let bad : is_path c.in-Some.line.now ≡ false = search rules in
    refused c.args.text.now c.loop-line.rest.now c.in-Some.line.now c.in-Some.more.now c.loop-line.paths.items c.loop-line.invariant.so_far
    (c.in-Some.ensures.byte (omega arith) (λ w o h. h)) bad (nonempty c.args.text.now c.is_empty.result empty c.if-is_empty.false)

pub loop-line-preserved : goal.loop-line-preserved
loop-line-preserved c =
    let added : c.in_ok-add_line.field-0 ≡ true = search rules in
    let good : is_path c.in-Some.line.now ≡ true = sym c.in_ok-add_line.ensures.is ∙ added in
    record {
      so_far = one_more c.args.text.now c.loop-line.rest.now c.in-Some.line.now c.in-Some.more.now c.loop-line.paths.items c.add_line.new.paths.items c.loop-line.invariant.so_far
          (c.in-Some.ensures.byte (omega arith) (λ w o h. h)) good (c.in_ok-add_line.ensures.added added);
      utf8 = search rules;
    }

pub returns-then-not-branch-2 : goal.returns-then-not-branch-2
returns-then-not-branch-2 c =
    let empty : c.is_empty.result ≡ (length c.args.text.now == 0) = search rules in
    let bad : is_path c.loop-line.rest.now ≡ false = search rules in
    last_refused c.args.text.now c.loop-line.rest.now c.loop-line.paths.items c.loop-line.invariant.so_far
    (c.in_default.ensures.byte (omega arith) (λ w o h. h)) bad (nonempty c.args.text.now c.is_empty.result empty c.if-is_empty.false)

pub returns : goal.returns
returns c =
    let empty : c.is_empty.result ≡ (length c.args.text.now == 0) = search rules in
    let added : c.in_ok-add_line-2.field-0 ≡ true = search rules in
    let good : is_path c.loop-line.rest.now ≡ true = sym c.in_ok-add_line-2.ensures.is ∙ added in
    let same : set_in c.add_line-2.new.paths.items ≡ _ = all_read c.args.text.now c.loop-line.rest.now c.loop-line.paths.items c.add_line-2.new.paths.items c.loop-line.invariant.so_far
    (c.in_default.ensures.byte (omega arith) (λ w o h. h)) good (c.in_ok-add_line-2.ensures.added added) (nonempty c.args.text.now c.is_empty.result empty c.if-is_empty.false) in
    subst (λ p. IfOk c.set_of-2.result (λ paths. paths ≡ p)) same c.set_of-2.ensures
