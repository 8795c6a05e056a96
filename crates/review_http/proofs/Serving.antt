-- From what was told of a request, and what was written, to how a connection was served.
use Rattle.std.proofs.Common.{ℕ, List, [], Bool, Option, Result, Ok, Err, inr}
use Rattle.std.{proofs.KnownBytes.Appends-nil, specs.Io.KnownBytes.Appends}
use Rattle.review_words.specs.declared.{command.Delivery.Delivery, reply.Reply.Reply}
use Rattle.review_http_requests.specs.{RequestLaws.IsTold, RequestLaws.WasTold, Wire.CallsFor}
use Rattle.review_http_requests.specs.declared.{fault.RequestFault.RequestFault, http_fault.HttpFault.HttpFault}
use Rattle.review_machine_rows.specs.Shelf.{Shown}
use Rattle.review_http.specs.Served.{IsWritten, IsToldOf, IsServedOnWire, WasServed}
use Rattle.review_http.specs.declared.serve.ServeFault.{ServeFault}
use Rattle.review_http.specs.declared.serve.ServeFault.TheVariants.{Read, Reads, Write, Memory}
use Rattle.review_http.specs.declared.serve.Served.{Served, TheVariants.Answered, TheVariants.Empty}
use Rattle.review_http_requests.specs.declared.fault.RequestFault.TheVariants as request

-- what reading a request answers, from what its bytes call for
abbrev pub asks : Result Delivery HttpFault → Result Delivery RequestFault
asks (Ok d) = Ok d
asks (Err f) = Err (request.Http f)

calls : (bytes : List ℕ) (ended : Bool) (called : Result Delivery HttpFault) → IsTold bytes ended (asks called) → CallsFor bytes ended called
calls bytes ended (Ok d) told = told
calls bytes ended (Err f) told = told

module _ {S : Type 0} (state : S → Shown) where
  abbrev pub Wrote : Option (List ℕ) → Option (List ℕ) → Result Reply HttpFault → Result Served ServeFault → Type 0
  Wrote v w told ending = (text : List ℕ) × Appends v w text × IsWritten told text ending

  answered : (bytes : List ℕ) (ended : Bool) (text : List ℕ) (called : Result Delivery HttpFault) (told : Result Reply HttpFault) (ending : Result Served ServeFault) (old new : S)
      → CallsFor bytes ended called → IsToldOf state called told old new → IsWritten told text ending → IsServedOnWire state bytes ended text ending old new
  answered bytes ended text called told (Ok (Answered status)) old new c t w = record { called = called; calls = c; told = told; tells = t; written = w }
  answered bytes ended text called told (Ok Empty) old new c t w = absurd w
  answered bytes ended text called told (Err Read) old new c t w = absurd w
  answered bytes ended text called told (Err Reads) old new c t w = absurd w
  answered bytes ended text called told (Err Write) old new c t w = record { called = called; calls = c; told = told; tells = t; written = w }
  answered bytes ended text called told (Err Memory) old new c t w = inr (record { called = called; calls = c; told = told; tells = t; written = w })

  -- what the bytes called for was told
  pub serves : (r s v w : Option (List ℕ)) (called : Result Delivery HttpFault) (told : Result Reply HttpFault) (ending : Result Served ServeFault) (old new : S)
      → WasTold r s (asks called) → IsToldOf state called told old new → Wrote v w told ending
      → WasServed state r s v w ending old new
  serves r s v w called told ending old new read t wrote =
      record { bytes = read.bytes; ended = read.ended; text = wrote.0; gave = read.gave; wrote = wrote.1; how = answered read.bytes read.ended wrote.0 called told ending old new (calls read.bytes read.ended called read.told) t wrote.2 }

  -- nothing was done
  pub untouched : (r s v : Option (List ℕ)) (result : Result Delivery RequestFault) (ending : Result Served ServeFault) (old : S) → (read : WasTold r s result)
      → IsServedOnWire state read.bytes read.ended [] ending old old → WasServed state r s v v ending old old
  untouched r s v result ending old read how = record { bytes = read.bytes; ended = read.ended; text = []; gave = read.gave; wrote = Appends-nil v; how = how }
