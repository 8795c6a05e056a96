-- The forms that a request's identity has, and the histories in which each has them.
use Rattle.std.specs.Prelude.{ℕ, ◌≤◌, ◌<◌, ◌≡◌, List, [], ◌∷◌, true}
use Rattle.review_names.specs.Names.{is_word}
use Rattle.review_words.specs.{History.Entry, History.Identity, declared.command.Command.TheVariants.CloseEpoch}
use Rattle.review_words.specs.declared.command.Delivery.{Delivery, TheVariants.Write, TheVariants.Read}

-- the caller is the number of an account that a desk may have, the epoch is one, and the id has the form of one
pub record HasForm (i : Identity) : Type 0 where
  pub caller : (1 ≤ i.caller) × (i.caller ≤ 1000000)
  pub epoch : i.epoch ≤ 1000000000
  pub id : is_word i.id ≡ true

-- version 1 of the rules knew the first epoch alone, which no request closed
pub record IsOfVersion (e : Entry) : Type 0 where
  pub epoch : e.version < 2 → e.identity.epoch ≡ 0
  pub closes_none : e.version < 2 → (least : ℕ) → e.command ≡ CloseEpoch least → ⊥

-- each entry is of an identity that a request may have, and of what its version knew
abbrev pub AreFormed : List Entry → Type 0
AreFormed [] = Unit {0}
AreFormed (e ∷ h) = HasForm e.identity × IsOfVersion e × AreFormed h

-- a request has an identity of that form; a question has none
abbrev pub IsFormed : Delivery → Type 0
IsFormed (Write caller epoch id command) = HasForm (record { caller = caller; epoch = epoch; id = id })
IsFormed (Read caller query) = Unit {0}

-- so has each request of these
abbrev pub AllFormed : List Delivery → Type 0
AllFormed [] = Unit {0}
AllFormed (d ∷ ds) = IsFormed d × AllFormed ds
