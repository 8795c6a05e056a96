-- What serving one request does, for the bytes that were read and those that were written.
use Rattle.std.specs.Io.KnownBytes.{Appends}
use Rattle.std.specs.Prelude.{◌≡◌, ◌⊎◌, ℕ, List, [], Bool, true, false, Option, Result, Ok, Err}
use Rattle.review_words.specs.declared.{command.Delivery.Delivery, reply.Reply.Reply}
use Rattle.review_http_requests.specs.Bytes.{Gave, IsFirstPart}
use Rattle.review_http_requests.specs.{Wire.CallsFor, Wire.IsNotWhole, declared.http_fault.HttpFault.HttpFault}
use Rattle.{review_machine_rows.specs.Shelf.Shown, review_machine_deliveries.specs.Delivered.IsDelivered}
use Rattle.review_http.specs.{Responses.response, Responses.status_of, declared.serve.ServeFault.ServeFault}
use Rattle.review_http.specs.declared.serve.ServeFault.TheVariants.{Read, Reads, Write, Memory}
use Rattle.review_http.specs.declared.serve.Served.{Served, TheVariants.Answered, TheVariants.Empty}

-- the response that was written, or what there is of it
abbrev pub IsWritten : Result Reply HttpFault → List ℕ → Result Served ServeFault → Type 0
IsWritten told text (Ok (Answered status)) = (status ≡ status_of told) × (text ≡ response told)
IsWritten told text (Ok Empty) = ⊥
IsWritten told text (Err Read) = ⊥
IsWritten told text (Err Reads) = ⊥
IsWritten told text (Err Write) = IsFirstPart text (response told)
IsWritten told text (Err Memory) = text ≡ []

-- of a shelf, and what it shows
module _ {S : Type 0} (state : S → Shown) where
  -- this is the reply to the delivery, whether it was taken or not; or there was none, so the fault is told and the shelf is as it was
  abbrev pub IsToldOf : Result Delivery HttpFault → Result Reply HttpFault → S → S → Type 0
  IsToldOf (Ok d) (Ok reply) old new = IsDelivered d reply (state old) (state new)
  IsToldOf (Ok d) (Err g) old new = ⊥
  IsToldOf (Err f) (Ok reply) old new = ⊥
  IsToldOf (Err f) (Err g) old new = (g ≡ f) × (new ≡ old)

  -- what the bytes call for was told, and the response written
  pub record IsAnswered (bytes : List ℕ) (ended : Bool) (text : List ℕ) (ending : Result Served ServeFault) (old new : S) : Type 0 where
    pub called : Result Delivery HttpFault
    pub calls : CallsFor bytes ended called
    pub told : Result Reply HttpFault
    pub tells : IsToldOf called told old new
    pub written : IsWritten told text ending

  -- nothing was taken and nothing written
  abbrev pub IsUntouched : List ℕ → S → S → Type 0
  IsUntouched text old new = (text ≡ []) × (new ≡ old)

  -- how a request was served
  abbrev pub IsServedOnWire : List ℕ → Bool → List ℕ → Result Served ServeFault → S → S → Type 0
  IsServedOnWire bytes ended text (Ok (Answered status)) old new = IsAnswered bytes ended text (Ok (Answered status)) old new
  IsServedOnWire bytes ended text (Ok Empty) old new = (ended ≡ true) × (bytes ≡ []) × IsUntouched text old new
  IsServedOnWire bytes ended text (Err Read) old new = (text ≡ []) × (new ≡ old) × (ended ≡ false) × IsNotWhole bytes
  IsServedOnWire bytes ended text (Err Reads) old new = (ended ≡ false) × IsNotWhole bytes × IsUntouched text old new
  IsServedOnWire bytes ended text (Err Write) old new = IsAnswered bytes ended text (Err Write) old new
  IsServedOnWire bytes ended text (Err Memory) old new = IsUntouched text old new ⊎ IsAnswered bytes ended text (Err Memory) old new

  -- What serving a request did: bytes were read from the reader, a text was put behind what the writer held, and the shelf went from old to new
  pub record WasServed (before after held holds : Option (List ℕ)) (ending : Result Served ServeFault) (old new : S) : Type 0 where
    pub bytes : List ℕ
    pub ended : Bool
    pub text : List ℕ
    pub gave : Gave before after bytes ended
    pub wrote : Appends held holds text
    pub how : IsServedOnWire bytes ended text ending old new
