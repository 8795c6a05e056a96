use Rattle.std.proofs.Common.{◌≡◌, drop, []}
use Rattle.review_core_rules.specs.Change.{last_paths}
use Rattle.review_core.proofs.uploading.last_paths.Given as goal

abbrev pub invariant-loop-patch : goal.invariant-loop-patch
invariant-loop-patch l = last_paths l.last (drop l.patch-index l.patches) ≡ last_paths [] l.patches
