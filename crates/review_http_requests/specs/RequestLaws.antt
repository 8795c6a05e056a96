-- What the reading of a request says of the bytes that it took, and laws of what these call for.
use Rattle.std.specs.Prelude.{◌≡◌, ◌≤◌, ℕ, List, [], length, Bool, true, false, Option, Result, Ok, Err, ◌⊎◌, Some}
use Rattle.{httparse.specs.Grammar.EndsInTarget, review_words.specs.declared.command.Delivery.Delivery}
use Rattle.review_http_requests.specs.Bytes.{Gave}
use Rattle.review_http_requests.specs.Wire.{CallsFor, IsNotWhole, IsBadHead, IsHeadTooLarge, HasManyFields}
use Rattle.review_http_requests.specs.declared.fault.RequestFault.{RequestFault}
use Rattle.review_http_requests.specs.declared.fault.RequestFault.TheVariants.{Empty, Http, Read, Reads, Memory}
use Rattle.review_http_requests.specs.declared.http_fault.HttpFault.{HttpFault}
use Rattle.review_http_requests.specs.declared.http_fault.HttpFault.TheVariants.{BadHead, HeadTooLarge}

-- What was told of these bytes, where the reader ended after them or not. A read that doesn't tell the end gives a byte or more, so 4,096 of them gave 4,096 bytes or more.
abbrev pub IsTold : List ℕ → Bool → Result Delivery RequestFault → Type 0
IsTold bytes ended (Ok delivery) = CallsFor bytes ended (Ok delivery)
IsTold bytes ended (Err Empty) = (ended ≡ true) × (bytes ≡ [])
IsTold bytes ended (Err (Http fault)) = CallsFor bytes ended (Err fault)
IsTold bytes ended (Err Read) = (ended ≡ false) × IsNotWhole bytes
IsTold bytes ended (Err Reads) = (ended ≡ false) × (4096 ≤ length bytes) × IsNotWhole bytes
IsTold bytes ended (Err Memory) = Unit {0}

-- from before to after the reader gave bytes of which this is told
pub record WasTold (before after : Option (List ℕ)) (result : Result Delivery RequestFault) : Type 0 where
  pub bytes : List ℕ
  pub ended : Bool
  pub gave : Gave before after bytes ended
  pub told : IsTold bytes ended result

-- What was told of all the bytes of an input, however they were cut, and wherever the reading stopped.
abbrev pub IsToldOfInput : List ℕ → Result Delivery RequestFault → Type 0
IsToldOfInput input (Ok delivery) = CallsFor input true (Ok delivery)
IsToldOfInput input (Err Empty) = input ≡ []
IsToldOfInput input (Err (Http fault)) = CallsFor input true (Err fault)
IsToldOfInput input (Err Read) = Unit {0}
IsToldOfInput input (Err Reads) = 4096 ≤ length input
IsToldOfInput input (Err Memory) = Unit {0}

-- what the bytes call for that a reader gave, all its bytes call for
abbrev pub CutsDoNotMatter : Type 0
CutsDoNotMatter = (input bytes : List ℕ) (left : Option (List ℕ)) (ended : Bool) (outcome : Result Delivery HttpFault)
    → Gave (Some input) left bytes ended → CallsFor bytes ended outcome → CallsFor input true outcome

-- the fault of a head that is malformed or too large
abbrev pub IsHeadFault : Result Delivery HttpFault → Type 0
IsHeadFault outcome = (outcome ≡ Err BadHead) ⊎ (outcome ≡ Err HeadTooLarge)

-- bytes call for one thing; only where a head is malformed and also too large is it open which of these two faults it is
abbrev pub CallForOneThing : Type 0
CallForOneThing = (bytes : List ℕ) (ended : Bool) (outcome other : Result Delivery HttpFault)
    → CallsFor bytes ended outcome → CallsFor bytes ended other
    → (outcome ≡ other) ⊎ (IsHeadFault outcome × IsHeadFault other × IsBadHead bytes ended × IsHeadTooLarge bytes)

-- where no whole request is there yet, nor a fault of its head, bytes call for nothing, but in two places: a target whose end hasn't come, and that no bytes make UTF-8; and a head whose end hasn't come, with more than 64 fields already
abbrev pub WaitingCallsForNothing : Type 0
WaitingCallsForNothing = (bytes : List ℕ) (outcome : Result Delivery HttpFault) → IsNotWhole bytes → CallsFor bytes false outcome
    → ((outcome ≡ Err BadHead) × EndsInTarget bytes) ⊎ ((outcome ≡ Err HeadTooLarge) × HasManyFields bytes)

-- no bytes, and the end of the input behind them, call for nothing: neither for a delivery nor for a fault
abbrev pub NothingCallsForNothing : Type 0
NothingCallsForNothing = (outcome : Result Delivery HttpFault) → CallsFor [] true outcome → ⊥

-- an input without a byte is told as empty, unless the reader failed or memory ran out
abbrev pub NothingIsEmpty : Type 0
NothingIsEmpty = (result : Result Delivery RequestFault) → IsToldOfInput [] result → (result ≡ Err Empty) ⊎ (result ≡ Err Read) ⊎ (result ≡ Err Memory)
