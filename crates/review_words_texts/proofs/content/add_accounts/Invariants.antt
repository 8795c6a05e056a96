use Rattle.std.proofs.Common.{◌≡◌, ◌++◌, drop, map}
use Rattle.{review_names.specs.Numerals.numeral, review_words_texts.specs.Shown.shown}
use Rattle.review_words_texts.proofs.content.add_accounts.Given as goal

abbrev pub invariant-loop-account : goal.invariant-loop-account
invariant-loop-account l = map shown l.out.items ++ map numeral (drop l.account-index l.accounts) ≡ map shown l.fn.out.items ++ map numeral l.accounts
