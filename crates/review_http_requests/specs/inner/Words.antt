-- Words that only proofs and private clauses use.
use Rattle.std.specs.Borrow.{Bor}
use Rattle.std.specs.Prelude.{map, [], ◌<◌, ◌++◌, ℕ, List, length, ◌+◌, ◌≡◌, Bool, true, false, Result, Ok, Err, ◌≤◌, drop, ◌⊎◌}
use Rattle.httparse.specs.Grammar.{RequestHead, ReadsRequest, print_request, NeverHasRequest}
use Rattle.review_http_requests.specs.Heads.{Occurs, absent, once, again, envelope}
use Rattle.review_http_requests.specs.Wire.{IsNotWhole, CallsFor, most_fields, HasManyFields, Follows}
use Rattle.review_http_requests.specs.declared.{envelope.Envelope.Envelope, fault.RequestFault.RequestFault}
use Rattle.review_http_requests.specs.declared.fields.Field.{Field}
use Rattle.review_http_requests.specs.declared.fields.Field.TheVariants.{Absent, Once, Again}
use Rattle.review_http_requests.specs.declared.{http_fault.HttpFault.HttpFault, judge.Look.Look}
use Rattle.review_http_requests.specs.declared.judge.Look.TheVariants.{Whole, Wants}
use Rattle.review_http_requests.specs.declared.table.Resource.{Resource}
use Rattle.review_http_requests.specs.declared.fault.RequestFault.TheVariants as request
use Rattle.review_http_requests.specs.declared.http_fault.HttpFault.TheVariants as faults

-- how a field that was found stands in its head
abbrev pub seen : Field → Occurs
seen Absent = absent
seen (Once value) = once value.now
seen Again = again

-- with more bytes behind these no whole request is there, as long as there are fewer than n
abbrev pub WaitsFor : ℕ → List ℕ → Type 0
WaitsFor n bytes = (more : List ℕ) → length (bytes ++ more) < n → IsNotWhole (bytes ++ more)

-- the delivery or the fault of the bytes, where they are enough for one, or how many are to come first
abbrev pub Judges : List ℕ → Bool → Result Look RequestFault → Type 0
Judges bytes ended (Ok (Whole d)) = CallsFor bytes ended (Ok d)
Judges bytes ended (Ok (Wants n)) = (ended ≡ false) × IsNotWhole bytes × WaitsFor n bytes
Judges bytes ended (Err request.Empty) = (ended ≡ true) × (bytes ≡ [])
Judges bytes ended (Err (request.Http f)) = CallsFor bytes ended (Err f)
Judges bytes ended (Err request.Memory) = Unit {0}
Judges bytes ended (Err _) = ⊥

-- a head of few fields stands at the front
abbrev pub Stands : List ℕ → RequestHead → Type 0
Stands buf h = ReadsRequest buf h (drop (length (print_request h)) buf) × (length h.fields ≤ most_fields)

-- a fault of a head that stands there, or of one that can't
abbrev pub IsFaultOf : List ℕ → HttpFault → Type 0
IsFaultOf buf f =
    ((h : RequestHead) × Stands buf h × (envelope h ≡ Err f)) ⊎ ((f ≡ faults.BadHead) × NeverHasRequest buf)
    ⊎ ((f ≡ faults.HeadTooLarge) × HasManyFields buf)

-- what the bytes after a head that ends there, and the end of the input, say of what it asked for
abbrev pub Finishes : Envelope → ℕ → List ℕ → Bool → Result Look RequestFault → Type 0
Finishes a end rest ended (Ok (Whole d)) = Follows (Ok a) rest ended (Ok d)
Finishes a end rest ended (Ok (Wants n)) = (ended ≡ false) × (length rest < a.length) × (n ≤ end + a.length)
Finishes a end rest ended (Err (request.Http f)) = Follows (Ok a) rest ended (Err f)
Finishes a end rest ended (Err request.Memory) = Unit {0}
Finishes a end rest ended (Err _) = ⊥

-- the paths of the code, as the definition of the table has them
abbrev pub entries : List (Bor (List ℕ) × Resource) → List (List ℕ × Resource)
entries xs = map (λ x. (x.0.now, x.1)) xs
