-- What a reader of texts answers.
use Rattle.std.specs.Prelude.{◌≡◌, Option, Some, None, Result, Ok, Err}
use Rattle.review_names.specs.declared.names.Bad.{Bad, TheVariants.Form, TheVariants.Memory}

-- what is spelled was given, and Form exactly where nothing is spelled; Memory may be answered whatever is spelled
abbrev pub Gives : {X : Type 0} → Result X Bad → Option X → Type 0
Gives (Ok x) spelled = spelled ≡ Some x
Gives (Err Form) spelled = spelled ≡ None
Gives (Err Memory) spelled = Unit {0}
