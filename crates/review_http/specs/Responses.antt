-- The bytes of responses, their statuses, and the names of faults.
use Rattle.std.specs.Prelude.{ℕ, List, codes, Result, Ok, Err, ◌+◌, [], ◌++◌, decimal, length}
use Rattle.http.specs.StatusCode.{status_text}
use Rattle.serde_json.specs.{Data.Data, Data.string, Data.object, Data.no_members, Data.member, Written.compact_text}
use Rattle.review_words.specs.{Refusals.refusal_status, declared.reply.Reply.Reply}
use Rattle.review_words.specs.declared.reply.Reply.TheVariants.{Done, Refused, IdentityReused, EpochClosed, NotTaken}
use Rattle.review_http_requests.specs.{Routes.methods_text, declared.http_fault.HttpFault.HttpFault}
use Rattle.review_http_requests.specs.declared.http_fault.HttpFault.TheVariants.{BadHead, HeadTooLarge, NoRoute, Method, NoCaller, NoRequestId, BadEpoch, LengthRequired, TooLarge, BadBody}
use Rattle.review_json.specs.Answer.{reply_data}

-- the status of a reply
abbrev pub reply_status : Reply → ℕ
reply_status (Done answer) = 200
reply_status (Refused refusal) = refusal_status refusal
reply_status IdentityReused = 409
reply_status EpochClosed = 409
reply_status (NotTaken cause) = 503

-- the status of a fault
abbrev pub fault_status : HttpFault → ℕ
fault_status BadHead = 400
fault_status HeadTooLarge = 431
fault_status NoRoute = 404
fault_status (Method methods) = 405
fault_status NoCaller = 400
fault_status NoRequestId = 400
fault_status BadEpoch = 400
fault_status LengthRequired = 411
fault_status TooLarge = 413
fault_status BadBody = 400

-- the name of a fault
abbrev pub fault_name : HttpFault → List ℕ
fault_name BadHead = codes "BAD_HEAD"
fault_name HeadTooLarge = codes "HEAD_TOO_LARGE"
fault_name NoRoute = codes "NO_ROUTE"
fault_name (Method methods) = codes "METHOD"
fault_name NoCaller = codes "NO_CALLER"
fault_name NoRequestId = codes "NO_REQUEST_ID"
fault_name BadEpoch = codes "BAD_EPOCH"
fault_name LengthRequired = codes "LENGTH_REQUIRED"
fault_name TooLarge = codes "TOO_LARGE"
fault_name BadBody = codes "BAD_BODY"

-- the status with which a reply or a fault is told
abbrev pub status_of : Result Reply HttpFault → ℕ
status_of (Ok reply) = reply_status reply
status_of (Err fault) = fault_status fault

-- a fault as JSON
abbrev pub fault_data : HttpFault → Data
fault_data fault = object (member (codes "fault") (string (fault_name fault)) no_members)

-- the JSON text of a reply or a fault
abbrev pub text_of : Result Reply HttpFault → List ℕ
text_of (Ok reply) = compact_text (reply_data reply)
text_of (Err fault) = compact_text (fault_data fault)

-- a status, a space and its phrase, as `http` has them
unfoldable pub status_line : ℕ → List ℕ
status_line status = status_text status

-- the methods that a resource takes, where one was asked for that is none of them
abbrev pub allow_line : Result Reply HttpFault → List ℕ
allow_line (Err (Method methods)) = codes "Allow: " ++ methods_text methods ++ codes "\r\n"
allow_line told = []

-- the response with this JSON text
unfoldable pub response_with : Result Reply HttpFault → List ℕ → List ℕ
response_with told text =
    codes "HTTP/1.1 " ++ status_line (status_of told)
    ++ codes "\r\nContent-Type: application/json; charset=UTF-8\r\nContent-Length: " ++ decimal (length text + 6) ++ codes "\r\n"
    ++ allow_line told ++ codes "Connection: close\r\n\r\n)]}'\n" ++ text ++ codes "\n"

-- the response that tells a reply, or a fault of the request
unfoldable pub response : Result Reply HttpFault → List ℕ
response told = response_with told (text_of told)
