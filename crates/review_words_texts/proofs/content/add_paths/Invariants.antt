use Rattle.std.proofs.Common.{◌≡◌, ◌++◌, drop, map}
use Rattle.review_words_texts.specs.Shown.{shown}
use Rattle.review_words_texts.proofs.content.add_paths.Given as goal

abbrev pub invariant-loop-path : goal.invariant-loop-path
invariant-loop-path l = map shown l.out.items ++ drop l.path-index l.paths ≡ map shown l.fn.out.items ++ l.paths
