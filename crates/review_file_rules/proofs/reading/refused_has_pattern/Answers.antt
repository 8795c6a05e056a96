use Rattle.std.proofs.Common.{refl}
use Rattle.review_file_rules.{proofs.Together.pattern_spelled, specs.declared.fault.ReadFault.TheVariants.Pattern}
use Rattle.review_file_rules.proofs.reading.refused_has_pattern.Goals as goal

pub returns : goal.returns
returns c text refused = pattern_spelled text Pattern refused refl
