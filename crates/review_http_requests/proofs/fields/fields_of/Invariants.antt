use Rattle.std.proofs.Common.{◌≡◌, codes, map, drop}
use Rattle.httparse.specs.Spans.{header_bytes}
use Rattle.review_http_requests.specs.{Heads.occurs_from, Heads.absent, inner.Words.seen}
use Rattle.review_http_requests.proofs.fields.fields_of.Given as goal

-- of each name, what was found so far and then the fields that are left come to what all fields come to
abbrev pub invariant-loop-header : goal.invariant-loop-header
invariant-loop-header l =
    record {
      caller : occurs_from (seen l.fields.caller) (codes "x-account") (map (header_bytes l.buf) (drop l.header-index l.headers)) ≡ occurs_from absent (codes "x-account") (map (header_bytes l.buf) l.headers);
      id : occurs_from (seen l.fields.id) (codes "request-id") (map (header_bytes l.buf) (drop l.header-index l.headers)) ≡ occurs_from absent (codes "request-id") (map (header_bytes l.buf) l.headers);
      epoch : occurs_from (seen l.fields.epoch) (codes "request-epoch") (map (header_bytes l.buf) (drop l.header-index l.headers)) ≡ occurs_from absent (codes "request-epoch") (map (header_bytes l.buf) l.headers);
      coding : occurs_from (seen l.fields.coding) (codes "transfer-encoding") (map (header_bytes l.buf) (drop l.header-index l.headers)) ≡ occurs_from absent (codes "transfer-encoding") (map (header_bytes l.buf) l.headers);
      length : occurs_from (seen l.fields.length) (codes "content-length") (map (header_bytes l.buf) (drop l.header-index l.headers)) ≡ occurs_from absent (codes "content-length") (map (header_bytes l.buf) l.headers);
    }
