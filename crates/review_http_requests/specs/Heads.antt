-- What a head asks for, or the first of its faults, and the fields that a head has.
use Rattle.std.specs.{Char.is_ascii_digit, Char.to_ascii_lowercase, List.before_first}
use Rattle.std.specs.Prelude.{◌≡◌, Result, Ok, Err, Option, Some, None, ℕ, ◌+◌, ◌-◌, ◌*◌, List, [], ◌∷◌, map, Bool, if◌then◌else◌, ◌==◌, nat_le, option_and_then, codes}
use Rattle.{std.specs.Str.bytes_eq, httparse.specs.Grammar.RequestHead, httparse.specs.Spans.name_and_value}
use Rattle.review_names.specs.{Names.is_word, Numerals.account_of, Numerals.number_of, declared.names.Bad.Bad}
use Rattle.review_json_routes.specs.Commands.{is_question, needs_body}
use Rattle.review_json_routes.specs.{Parts.epoch_from, Parts.name_of_bytes, declared.route.Route.Route}
use Rattle.review_http_requests.specs.Routes.{methods_of, route_at, takes}
use Rattle.review_http_requests.specs.{Table.resource_of, declared.envelope.Envelope.Envelope}
use Rattle.review_http_requests.specs.declared.fault.RequestFault.{RequestFault, TheVariants.Http, TheVariants.Memory}
use Rattle.review_http_requests.specs.declared.http_fault.HttpFault.{HttpFault}
use Rattle.review_http_requests.specs.declared.http_fault.HttpFault.TheVariants.{BadHead, NoRoute, Method, NoCaller, NoRequestId, BadEpoch, LengthRequired, TooLarge}
use Rattle.review_http_requests.specs.declared.table.Resource.{Resource}
use Rattle.review_names.specs.declared.names.Bad.TheVariants as bad

-- what was answered is what is expected, unless memory ran out
abbrev pub Answers : {X : Type 0} → Result X RequestFault → Result X HttpFault → Type 0
Answers (Ok x) expected = expected ≡ Ok x
Answers (Err (Http f)) expected = expected ≡ Err f
Answers (Err Memory) expected = Unit {0}
Answers (Err _) expected = ⊥

-- this fault, unless memory ran out
abbrev pub unless_memory : Bad → HttpFault → RequestFault
unless_memory bad.Form f = Http f
unless_memory bad.Memory f = Memory

-- what is there, or a fault
abbrev pub or_fault : {X : Type 0} → HttpFault → Option X → Result X HttpFault
or_fault f None = Err f
or_fault f (Some x) = Ok x

-- what is read further, where nothing was wrong so far: the first fault counts
infixl 10 ◌>>=◌
abbrev pub ◌>>=◌ : {A B : Type 0} → Result A HttpFault → (A → Result B HttpFault) → Result B HttpFault
(Ok x) >>= f = f x
(Err e) >>= f = Err e

-- names and values, in the order of the head; a value is without the spaces and tabs around it
abbrev pub Fields : Type 0
Fields = List (List ℕ × List ℕ)

-- how a field stands in a head: not at all, once with this value, or again
pub data Occurs : Type 0 where
  absent : Occurs
  once : List ℕ → Occurs
  again : Occurs

-- a field stands once more
abbrev pub and_again : List ℕ → Occurs → Occurs
and_again value absent = once value
and_again value (once first) = again
and_again value again = again

-- the same name, without regard to ASCII case
abbrev pub is_named : List ℕ → List ℕ → Bool
is_named name other = bytes_eq (map to_ascii_lowercase other) (map to_ascii_lowercase name)

-- what was found of a name, and one field more
abbrev pub with_field : List ℕ → List ℕ × List ℕ → Occurs → Occurs
with_field name field found = if is_named name field.0 then and_again field.1 found else found

-- what was found of a name, and then the fields of a list
abbrev pub occurs_from : Occurs → List ℕ → Fields → Occurs
occurs_from found name [] = found
occurs_from found name (field ∷ fields) = occurs_from (with_field name field found) name fields

-- how the field of a name stands in a head
unfoldable pub occurs : List ℕ → Fields → Occurs
occurs name fields = occurs_from absent name fields

-- the value of a field that stands once
abbrev pub one_value : Occurs → Option (List ℕ)
one_value absent = None
one_value (once value) = Some value
one_value again = None

-- the number whose digits are those of n and then those of the text
abbrev pub digits_after : ℕ → List ℕ → Option ℕ
digits_after n [] = Some n
digits_after n (c ∷ cs) = if is_ascii_digit c then digits_after (n * 10 + (c - 48)) cs else None

-- the number that one digit or more show in decimal, perhaps with zeros in front
unfoldable pub number_shown : List ℕ → Option ℕ
number_shown [] = None
number_shown (c ∷ cs) = digits_after 0 (c ∷ cs)

-- where a number of digits is cut, above the greatest length of a body
abbrev pub most : ℕ
most = 10000000

-- ---- where it goes

-- the path of a target, up to a `?`
abbrev pub path_of : List ℕ → List ℕ
path_of target = before_first (λ b. b == 63) target

-- the route to a resource, where it takes the method
abbrev pub if_taken : List ℕ → Resource → Route → Result Route HttpFault
if_taken method resource route = if takes (methods_of resource) method then Ok route else Err (Method (methods_of resource))

-- the route of a method and a path that names a resource: its segments are decoded before the method is looked at
abbrev pub routed_at : List ℕ → List ℕ → Resource → Result Route HttpFault
routed_at method path resource = or_fault NoRoute (route_at resource (bytes_eq method (codes "GET")) path) >>= if_taken method resource

-- the route of a method and a path: the resource is found before the segments are decoded
unfoldable pub route_of : List ℕ → List ℕ → Result Route HttpFault
route_of method path = or_fault NoRoute (resource_of path) >>= routed_at method path

-- ---- who asks, under which id, in which epoch

-- one field `X-Account`, the number of an account
abbrev pub caller_of : Occurs → Result ℕ HttpFault
caller_of found = or_fault NoCaller (option_and_then account_of (one_value found))

-- one field `Request-Id`, of the form of a request's id
abbrev pub id_of : Occurs → Result (List ℕ) HttpFault
id_of found = or_fault NoRequestId (option_and_then (name_of_bytes is_word) (one_value found))

-- the epoch that the field `Request-Epoch` shows in decimal without leading zeros, the first one where it is absent
abbrev pub epoch_of : Occurs → Result ℕ HttpFault
epoch_of absent = Ok 0
epoch_of (once value) = or_fault BadEpoch (option_and_then epoch_from (number_of value))
epoch_of again = Err BadEpoch

-- ---- how long its body is

-- a body has at most 262,144 bytes
abbrev pub capped : ℕ → Result ℕ HttpFault
capped n = if nat_le n 262144 then Ok n else Err TooLarge

-- one field `Content-Length` of digits, or none where no body is needed
abbrev pub length_from : Bool → Occurs → Result ℕ HttpFault
length_from is_needed absent = if is_needed then Err LengthRequired else Ok 0
length_from is_needed (once value) = or_fault BadHead (number_shown value) >>= capped
length_from is_needed again = Err BadHead

-- no field `Transfer-Encoding`, and a length
abbrev pub length_of : Bool → Occurs → Occurs → Result ℕ HttpFault
length_of is_needed absent length = length_from is_needed length
length_of is_needed coded length = Err LengthRequired

-- ---- all of it

-- a question has no id, the first epoch and no body, whatever its fields say of these
abbrev pub question_by : ℕ → Route → Envelope
question_by caller route = record { caller = caller; id = None; epoch = 0; route = route; length = 0 }

-- the id, the epoch and the length of a request, each by its fields; the first fault counts
abbrev pub request_by : ℕ → Route → Fields → Result Envelope HttpFault
request_by caller route fields =
    id_of (occurs (codes "request-id") fields) >>= λ id. epoch_of (occurs (codes "request-epoch") fields)
    >>= λ epoch. length_of (needs_body route) (occurs (codes "transfer-encoding") fields) (occurs (codes "content-length") fields)
    >>= λ n. Ok (record { caller = caller; id = Some id; epoch = epoch; route = route; length = n })

-- what a head asks for; the first fault counts
unfoldable pub envelope_by : List ℕ → List ℕ → Fields → Result Envelope HttpFault
envelope_by method target fields =
    route_of method (path_of target) >>= λ route. caller_of (occurs (codes "x-account") fields)
    >>= λ caller. if is_question route then Ok (question_by caller route) else request_by caller route fields

-- what a head asks for, by its method, its target and its fields
abbrev pub envelope : RequestHead → Result Envelope HttpFault
envelope head = envelope_by head.method head.target (map name_and_value head.fields)
