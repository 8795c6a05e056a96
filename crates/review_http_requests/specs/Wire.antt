-- The delivery or the fault that the bytes of a request call for.
use Rattle.std.specs.Prelude.{◌≡◌, ◌<◌, ◌≤◌, ◌⊎◌, ℕ, List, length, take, drop, Bool, true, Option, Some, None, option_map, Result, Ok, Err}
use Rattle.httparse.specs.Grammar.{RequestHead, ReadsRequest, HasNoRequest, NeverHasRequest, MayBecomeRequest, print_request}
use Rattle.httparse.specs.Spans.{RequestExceeds, RequestOverflows}
use Rattle.review_words.specs.declared.command.Delivery.{Delivery, TheVariants.Write, TheVariants.Read}
use Rattle.review_json_routes.specs.{Commands.command_of, Commands.query_of, declared.route.Route.Route}
use Rattle.review_http_requests.specs.Heads.{or_fault, envelope}
use Rattle.review_http_requests.specs.declared.{envelope.Envelope.Envelope, http_fault.HttpFault.HttpFault}
use Rattle.review_http_requests.specs.declared.http_fault.HttpFault.TheVariants.{BadHead, HeadTooLarge, BadBody}

-- the question that a route is, or the command that a body completes it to
abbrev pub delivered_by : ℕ → ℕ → Option (List ℕ) → Route → List ℕ → Option Delivery
delivered_by caller epoch None route body = option_map (λ query. Read caller query) (query_of route)
delivered_by caller epoch (Some id) route body = option_map (λ command. Write caller epoch id command) (command_of route body)

-- the delivery that a body completes what was asked for to
abbrev pub delivered : Envelope → List ℕ → Option Delivery
delivered a body = delivered_by a.caller a.epoch a.id a.route body

-- the same, or that the body is bad
unfoldable pub delivery_of : Envelope → List ℕ → Result Delivery HttpFault
delivery_of a body = or_fault BadBody (delivered a body)

-- how many bytes a head may have
abbrev pub most_of_head : ℕ
most_of_head = 16384

-- how many fields a head may have
abbrev pub most_fields : ℕ
most_fields = 64

-- the bytes that alone are looked at for a head
abbrev pub front : List ℕ → List ℕ
front bytes = take most_of_head bytes

-- a head of few enough fields stands at the front
pub record HasHead (bytes : List ℕ) (head : RequestHead) : Type 0 where
  pub reads : ReadsRequest (front bytes) head (drop (length (print_request head)) (front bytes))
  pub few : length head.fields ≤ most_fields

-- the bytes after the head
abbrev pub body_of : List ℕ → RequestHead → List ℕ
body_of bytes head = drop (length (print_request head)) bytes

-- the head is malformed: whatever bytes follow, they make no head of it; or the input ended within it
abbrev pub IsBadHead : List ℕ → Bool → Type 0
IsBadHead bytes ended =
    NeverHasRequest (front bytes) ⊎ ((ended ≡ true) × (0 < length bytes) × (length bytes < most_of_head) × HasNoRequest bytes)

-- more than 64 fields stand in it: a first part of it and an empty line are a head with more, and so is each head that it becomes, whatever bytes follow
abbrev pub HasManyFields : List ℕ → Type 0
HasManyFields bytes = RequestExceeds most_fields bytes × RequestOverflows most_fields bytes

-- the head is too large: its end isn't in the first 16,384 bytes, or it has more than 64 fields
abbrev pub IsHeadTooLarge : List ℕ → Type 0
IsHeadTooLarge bytes = ((most_of_head ≤ length bytes) × HasNoRequest (front bytes)) ⊎ HasManyFields (front bytes)

-- what follows from what a head asks for, or its fault, and from the bytes after it: that fault; or what the body says, once it is there in full; or that the body is bad, where the input ended within it
abbrev pub Follows : Result Envelope HttpFault → List ℕ → Bool → Result Delivery HttpFault → Type 0
Follows (Err fault) rest ended outcome = outcome ≡ Err fault
Follows (Ok a) rest ended outcome =
    ((a.length ≤ length rest) × (outcome ≡ delivery_of a (take a.length rest)))
    ⊎ ((length rest < a.length) × (ended ≡ true) × (outcome ≡ Err BadBody))

-- The delivery or the fault that these bytes call for, where the reader ended after them or not. Where a head is malformed and also too large, it is either fault; a head that the input's end cuts is malformed.
abbrev pub CallsFor : List ℕ → Bool → Result Delivery HttpFault → Type 0
CallsFor bytes ended outcome =
    ((head : RequestHead) × HasHead bytes head × Follows (envelope head) (body_of bytes head) ended outcome)
    ⊎ ((outcome ≡ Err BadHead) × IsBadHead bytes ended)
    ⊎ ((outcome ≡ Err HeadTooLarge) × IsHeadTooLarge bytes)

-- No head is there, nor a fault of one: there are fewer than 16,384 bytes, and more can follow that make a head of them. Whether a target is UTF-8 isn't asked before it ends.
abbrev pub AwaitsHead : List ℕ → Type 0
AwaitsHead bytes = (length bytes < most_of_head) × HasNoRequest bytes × MayBecomeRequest bytes

-- a head without a fault is there, and its body isn't there in full
abbrev pub AwaitsBody : List ℕ → Type 0
AwaitsBody bytes = (head : RequestHead) × HasHead bytes head × (a : Envelope) × (envelope head ≡ Ok a) × (length (body_of bytes head) < a.length)

-- no whole request is there yet, nor a fault of its head
abbrev pub IsNotWhole : List ℕ → Type 0
IsNotWhole bytes = AwaitsHead bytes ⊎ AwaitsBody bytes
