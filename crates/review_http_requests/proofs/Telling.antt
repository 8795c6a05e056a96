-- From a look at the front of the bytes to what is told of them.
use Rattle.std.proofs.Common.{◌≡◌, ◌<◌, ◌≤◌, ◌+◌, ◌-◌, ◌++◌, ℕ, List, length, take, drop, Bool, true, false, Option, Some, None, Result, Ok, Err, inl, inr, refl, sym, ap, subst, ◌∙◌, arith, append_assoc, append-nil, length-append, [], length-take, map, true≢false, take_all, drop_at, min, zero, suc, not, IfSome, length-drop, ◌⊎◌, ◌∷◌, lit<, lit≤, IsTrue}
use Rattle.std.proofs.{Math.Seq.take-append-add, lemmas.Bool.cases_lt}
use Rattle.std.proofs.lemmas.List.{length-map, take-append-le, drop-append-le, Elements.All-nil, Elements.All-cons}
use Rattle.std.proofs.lemmas.Str.{IsUtf8-from_ascii, Ascii.IsAscii-from_all}
use Rattle.httparse.proofs.GrammarLemmas.{print_request-append, request_unique}
use Rattle.httparse.specs.Grammar.{RequestHead, ReadsRequest, HasNoRequest, NeverHasRequest, print_request, MayBecomeRequest, IsRequestHead, crlf, IsField, is_token_byte, is_uri_byte, print_blank, print_version, print_end, print_section, EndsInTarget}
use Rattle.httparse.specs.Spans.{RequestExceeds, RequestOverflows, IsRequestOf, IsRequestWithin, header_bytes, span_bytes}
use Rattle.httparse.specs.declared.spans.{HeaderSpan.HeaderSpan, RequestSpans.RequestSpans}
use Rattle.{review_words.specs.declared.command.Delivery.Delivery, review_http_requests.proofs.Given.gave_more}
use Rattle.review_http_requests.specs.{Bytes.Gave, Bytes.IsBrought, Counts.greatest, Counts.one_more}
use Rattle.review_http_requests.specs.Heads.{Answers, envelope, envelope_by}
use Rattle.review_http_requests.specs.RequestLaws.{IsHeadFault, WasTold, IsToldOfInput}
use Rattle.review_http_requests.specs.Wire.{front, HasHead, body_of, Follows, CallsFor, IsBadHead, IsHeadTooLarge, delivery_of, IsNotWhole, HasManyFields}
use Rattle.review_http_requests.specs.declared.{envelope.Envelope.Envelope, fault.RequestFault.RequestFault}
use Rattle.review_http_requests.specs.declared.fault.RequestFault.TheVariants.{Empty, Http, Read, Reads, Memory}
use Rattle.review_http_requests.specs.declared.http_fault.HttpFault.{HttpFault}
use Rattle.review_http_requests.specs.declared.http_fault.HttpFault.TheVariants.{BadHead, HeadTooLarge}
use Rattle.review_http_requests.specs.declared.judge.Look.{Look, TheVariants.Wants, TheVariants.Whole}
use Rattle.review_http_requests.specs.inner.Words.{Judges, WaitsFor, Stands, IsFaultOf, Finishes}
use Rattle.review_http_requests.specs.declared.fault.RequestFault.TheVariants as request

-- ==== bytes that come after those that called for something change nothing of it

-- the front of more bytes
front_long : (bytes more : List ℕ) → 16384 ≤ length bytes → front (bytes ++ more) ≡ front bytes
front_long bytes more long = take-append-le 16384 bytes more long

front_longer : (bytes more : List ℕ) → length bytes < 16384 → front (bytes ++ more) ≡ bytes ++ take (16384 - length bytes) more
front_longer bytes more short =
    let n : 16384 ≡ length bytes + (16384 - length bytes) = omega arith in
    subst (λ (k : ℕ). take k (bytes ++ more) ≡ bytes ++ take (16384 - length bytes) more) (sym n) (take-append-add bytes more (16384 - length bytes))

abbrev pub IsLonger : List ℕ → List ℕ → Type 0
IsLonger longer shorter = (rest : List ℕ) × (longer ≡ shorter ++ rest)

pub front_more : (bytes more : List ℕ) → IsLonger (front (bytes ++ more)) (front bytes)
front_more bytes more = elim (cases_lt (length bytes) 16384) [
  | inl short ↦ (take (16384 - length bytes) more, front_longer bytes more short ∙ ap (λ b. b ++ take (16384 - length bytes) more) (sym (take_all 16384 bytes (omega arith))))
  | inr long ↦ ([], front_long bytes more long ∙ sym (append-nil (front bytes)))
]

-- a head at the front of bytes stands at the front of longer ones
reads_more : (buf longer : List ℕ) (h : RequestHead) → IsLonger longer buf → ReadsRequest buf h (drop (length (print_request h)) buf) → ReadsRequest longer h (drop (length (print_request h)) longer)
reads_more buf longer h w r =
    let p = print_request h in
    let d = drop (length p) buf in
    let whole : longer ≡ p ++ (d ++ w.0) = w.1 ∙ ap (λ b. b ++ w.0) r.1 ∙ append_assoc p d w.0 in
    let left : drop (length p) longer ≡ d ++ w.0 = ap (drop (length p)) whole ∙ drop_at p (d ++ w.0) (length p) refl in
    (r.0, whole ∙ ap (λ b. p ++ b) (sym left))

never_more : (buf longer : List ℕ) → IsLonger longer buf → NeverHasRequest buf → NeverHasRequest longer
never_more buf longer w never more =
    subst HasNoRequest (sym (ap (λ b. b ++ more) w.1 ∙ append_assoc buf w.0 more)) (never (w.0 ++ more))

exceeds_more : (buf longer : List ℕ) → IsLonger longer buf → RequestExceeds 64 buf → RequestExceeds 64 longer
exceeds_more buf longer w x = (x.0, x.1 ++ w.0, w.1 ∙ ap (λ b. b ++ w.0) x.2 ∙ append_assoc x.0 x.1 w.0, x.3, x.4, x.5)

overflows_more : (buf longer : List ℕ) → IsLonger longer buf → RequestOverflows 64 buf → RequestOverflows 64 longer
overflows_more buf longer w many more h rest reads =
    many (w.0 ++ more) h rest (subst (λ (b : List ℕ). ReadsRequest b h rest) (ap (λ b. b ++ more) w.1 ∙ append_assoc buf w.0 more) reads)

pub within : (bytes : List ℕ) (h : RequestHead) → HasHead bytes h → length (print_request h) ≤ length bytes
within bytes h has =
    let e = ap length has.reads.1 in
    omega (arith, e, length-append (print_request h) (drop (length (print_request h)) (front bytes)), length-take 16384 bytes)

pub head_more : (bytes more : List ℕ) (h : RequestHead) → HasHead bytes h → HasHead (bytes ++ more) h
head_more bytes more h has = record { reads = reads_more (front bytes) (front (bytes ++ more)) h (front_more bytes more) has.reads; few = has.few }

body_more : (bytes more : List ℕ) (h : RequestHead) → HasHead bytes h → body_of (bytes ++ more) h ≡ body_of bytes h ++ more
body_more bytes more h has = drop-append-le (length (print_request h)) bytes more (within bytes h has)

follows_more : (q : Result Envelope HttpFault) (rest more : List ℕ) (ended : Bool) (o : Result Delivery HttpFault) → Follows q rest false o → Follows q (rest ++ more) ended o
follows_more (Err f) rest more ended o h = h
follows_more (Ok a) rest more ended o (inl h) =
    inl (omega (arith, h.0, length-append rest more), h.1 ∙ ap (delivery_of a) (sym (take-append-le a.length rest more h.0)))
follows_more (Ok a) rest more ended o (inr h) = absurd (true≢false (sym h.1))

-- what bytes called for before the reader ended is what they call for with more behind them
pub calls_more : (bytes more : List ℕ) (ended : Bool) (o : Result Delivery HttpFault) → CallsFor bytes false o → CallsFor (bytes ++ more) ended o
calls_more bytes more ended o (inl w) =
    let P : List ℕ → Type 0 = λ b. Follows (envelope w.0) b ended o in
    inl (w.0, head_more bytes more w.0 w.1, subst P (sym (body_more bytes more w.0 w.1)) (follows_more (envelope w.0) (body_of bytes w.0) more ended o w.2))
calls_more bytes more ended o (inr (inl w)) = inr (inl (w.0, bad w.1))
  where
    bad : IsBadHead bytes false → IsBadHead (bytes ++ more) ended
    bad (inl never) = inl (never_more (front bytes) (front (bytes ++ more)) (front_more bytes more) never)
    bad (inr e) = absurd (true≢false (sym e.0))
calls_more bytes more ended o (inr (inr w)) = inr (inr (w.0, large w.1))
  where
    large : IsHeadTooLarge bytes → IsHeadTooLarge (bytes ++ more)
    large (inl l) =
        inl (omega (arith, l.0, length-append bytes more), subst HasNoRequest (sym (front_long bytes more l.0)) l.1)
    large (inr x) = inr (exceeds_more (front bytes) (front (bytes ++ more)) (front_more bytes more) x.0, overflows_more (front bytes) (front (bytes ++ more)) (front_more bytes more) x.1)

-- what the bytes call for that a reader gave, all its bytes call for
pub whole : (input bytes : List ℕ) (left : Option (List ℕ)) (ended : Bool) (o : Result Delivery HttpFault) → Gave (Some input) left bytes ended → CallsFor bytes ended o → CallsFor input true o
whole input bytes None ended o g c = absurd g.gives
whole input bytes (Some rest) true o g c =
    let none : rest ≡ [] = g.end refl in
    let same : input ≡ bytes = g.gives ∙ ap (λ r. bytes ++ r) none ∙ append-nil bytes in
    subst (λ (b : List ℕ). CallsFor b true o) (sym same) c
whole input bytes (Some rest) false o g c =
    subst (λ (b : List ℕ). CallsFor b true o) (sym g.gives) (calls_more bytes rest true o c)

-- ==== from a look at the bytes to what is told of them

-- what a look of this value says
pub judged_at : (bytes : List ℕ) (ended : Bool) (x y : Look) → x ≡ y → Judges bytes ended (Ok x) → Judges bytes ended (Ok y)
judged_at bytes ended x y e h = subst (λ (z : Look). Judges bytes ended (Ok z)) e h

-- a delivery that the bytes call for is what is told
pub called : (a b : Option (List ℕ)) (bytes slice : List ℕ) (ended : Bool) (d : Delivery) → Gave a b bytes ended → slice ≡ bytes → CallsFor slice ended (Ok d) → WasTold a b (Ok d)
called a b bytes slice ended d g e c = record { bytes = bytes; ended = ended; gave = g; told = subst (λ (x : List ℕ). CallsFor x ended (Ok d)) e c }

judged : (a b : Option (List ℕ)) (bytes : List ℕ) (ended : Bool) (f : RequestFault) → Gave a b bytes ended → Judges bytes ended (Err f) → WasTold a b (Err f)
judged a b bytes ended Read g j = absurd j
judged a b bytes ended Reads g j = absurd j
judged a b bytes ended Memory g j = record { bytes = bytes; ended = ended; gave = g; told = tt }
judged a b bytes ended _ g j = record { bytes = bytes; ended = ended; gave = g; told = j }

-- so is a fault
pub faulted : (a b : Option (List ℕ)) (bytes slice : List ℕ) (ended : Bool) (f : RequestFault) → Gave a b bytes ended → slice ≡ bytes → Judges slice ended (Err f) → WasTold a b (Err f)
faulted a b bytes slice ended f g e j = judged a b bytes ended f g (subst (λ (x : List ℕ). Judges x ended (Err f)) e j)

-- and that so many reads weren't enough
pub unfinished : (a b : Option (List ℕ)) (bytes slice : List ℕ) (ended : Bool) (k n : ℕ) → Gave a b bytes ended → slice ≡ bytes → (ended ≡ false → k ≤ length bytes) → 4096 ≤ k → Judges slice ended (Ok (Wants n)) → WasTold a b (Err Reads)
unfinished a b bytes slice ended k n g e some many w =
    let long = some w.0 in
    record { bytes = bytes; ended = ended; gave = g; told = (w.0, omega (arith, long, many), subst IsNotWhole e w.1) }

-- a read for which there was no memory
pub stopped : (a b c : Option (List ℕ)) (bytes piece : List ℕ) (ended end : Bool) → Gave a b bytes ended → Gave b c piece end → WasTold a c (Err Memory)
stopped a b c bytes piece ended end g h = record { bytes = bytes ++ piece; ended = end; gave = gave_more a b c bytes piece ended end g h; told = tt }

-- what is awaited behind bytes is so behind more of them
pub waits_still : (bytes slice piece new : List ℕ) (end came ended : Bool) (n : ℕ) → slice ≡ bytes → Judges slice ended (Ok (Wants n)) → IsBrought (Ok came) piece end bytes new → WaitsFor n new
waits_still bytes slice piece new end true ended n e j w =
    let on : WaitsFor n bytes = subst (λ b. WaitsFor n b) e j.2 in
    subst (WaitsFor n) (sym w.2) (λ more. subst (λ (b : List ℕ). length b < n → IsNotWhole b) (sym (append_assoc bytes piece more)) (on (piece ++ more)))
waits_still bytes slice piece new end false ended n e j w = subst (WaitsFor n) (e ∙ sym w.2) j.2

-- what came is put behind what was there
pub gave_read : (a b c : Option (List ℕ)) (bytes piece new : List ℕ) (ended end came : Bool) → Gave a b bytes ended → Gave b c piece end → IsBrought (Ok came) piece end bytes new → Gave a c new (not came)
gave_read a b c bytes piece new ended end true g h w =
    subst (λ (x : List ℕ). Gave a c x false) (sym w.2) (subst (Gave a c (bytes ++ piece)) w.0 (gave_more a b c bytes piece ended end g h))
gave_read a b c bytes piece new ended end false g h w =
    let same : bytes ++ piece ≡ new = ap (λ x. bytes ++ x) w.1 ∙ (append-nil bytes ∙ sym w.2) in
    subst (λ (x : List ℕ). Gave a c x true) same (subst (Gave a c (bytes ++ piece)) w.0 (gave_more a b c bytes piece ended end g h))

-- each read that ended nothing gave a byte or more
pub gave_some : (bytes piece new : List ℕ) (end came : Bool) (k : ℕ) → k ≤ length bytes → IsBrought (Ok came) piece end bytes new → not came ≡ false → k + 1 ≤ length new
gave_some bytes piece new end true k some w e = omega (arith, some, w.1, ap length w.2, length-append bytes piece)
gave_some bytes piece new end false k some w e = absurd (true≢false e)

-- one read more
pub one_read : (old now new k : ℕ) → (k ≡ 0 → now ≡ old) → (0 < k → now ≡ min (old + k) greatest) → new ≡ one_more now → new ≡ min (old + (k + 1)) greatest
one_read old now new zero z s e = let f : now ≡ old = z refl in omega (arith, e, f)
one_read old now new (suc k) z s e = let f : now ≡ min (old + suc k) greatest = s (omega arith) in omega (arith, e, f)

none_left : (input bytes : List ℕ) (left : Option (List ℕ)) (ended : Bool) → Gave (Some input) left bytes ended → ended ≡ true → bytes ≡ [] → input ≡ []
none_left input bytes None ended g e n = absurd g.gives
none_left input bytes (Some rest) ended g e n =
    let none : rest ≡ [] = g.end e in
    g.gives ∙ (ap (λ r. bytes ++ r) none ∙ (append-nil bytes ∙ n))

as_long : (input bytes : List ℕ) (left : Option (List ℕ)) (ended : Bool) → Gave (Some input) left bytes ended → 4096 ≤ length bytes → 4096 ≤ length input
as_long input bytes None ended g h = absurd g.gives
as_long input bytes (Some rest) ended g h = omega (arith, h, ap length g.gives, length-append bytes rest)

-- what was told of the bytes that were read is so of the whole input
pub told_whole : (a b : Option (List ℕ)) (r : Result Delivery RequestFault) → WasTold a b r → IfSome a (λ input. IsToldOfInput input r)
told_whole None b r w = tt
told_whole (Some input) b (Ok d) w = whole input w.bytes b w.ended (Ok d) w.gave w.told
told_whole (Some input) b (Err Empty) w = none_left input w.bytes b w.ended w.gave w.told.0 w.told.1
told_whole (Some input) b (Err (Http f)) w = whole input w.bytes b w.ended (Err f) w.gave w.told
told_whole (Some input) b (Err Reads) w = as_long input w.bytes b w.ended w.gave w.told.1
told_whole (Some input) b _ w = tt

-- at most one of so many reads gave no byte
pub read_once : (a b : Option (List ℕ)) (bytes : List ℕ) (ended : Bool) (old new k : ℕ) → Gave a b bytes ended → k ≤ length bytes + 1 → new ≤ old + k → IfSome a (λ input. new ≤ old + length input + 1)
read_once None b bytes ended old new k g few reads = tt
read_once (Some input) None bytes ended old new k g few reads = absurd g.gives
read_once (Some input) (Some rest) bytes ended old new k g few reads = omega (arith, few, reads, ap length g.gives, length-append bytes rest)

-- so many reads were no more than that
pub counted : (old now k : ℕ) → (k ≡ 0 → now ≡ old) → (0 < k → now ≡ min (old + k) greatest) → now ≤ old + k
counted old now zero z s = let f : now ≡ old = z refl in omega (arith, f)
counted old now (suc k) z s = let f : now ≡ min (old + suc k) greatest = s (omega arith) in omega (arith, f)

-- one read more, which gave nothing to keep
pub read_once_more : (a b : Option (List ℕ)) (bytes : List ℕ) (ended : Bool) (old now new k : ℕ) → Gave a b bytes ended → k ≤ length bytes → now ≤ old + k → new ≡ one_more now
    → IfSome a (λ input. new ≤ old + length input + 1)
read_once_more a b bytes ended old now new k g few reads more = read_once a b bytes ended old new (k + 1) g (omega (arith, few)) (omega (arith, reads, more))

-- each read that ended nothing gave a byte or more, and one ended
pub gave_all : (bytes piece new : List ℕ) (end came : Bool) (k : ℕ) → k ≤ length bytes → IsBrought (Ok came) piece end bytes new → k + 1 ≤ length new + 1
gave_all bytes piece new end true k some w = omega (arith, some, ap length w.2, length-append bytes piece)
gave_all bytes piece new end false k some w = omega (arith, some, ap length w.2)

-- ==== from what a look at the front said to what is said of the bytes

pub front_short : (bytes : List ℕ) → length bytes < 16384 → front bytes ≡ bytes
front_short bytes short = take_all 16384 bytes (omega arith)

pub head_stands : (bytes : List ℕ) (h : RequestHead) → Stands (front bytes) h → HasHead bytes h
head_stands bytes h s = record { reads = s.0; few = s.1 }

follows : (bytes : List ℕ) (h : RequestHead) (q : Result Envelope HttpFault) (ended : Bool) (o : Result Delivery HttpFault) → Stands (front bytes) h → envelope h ≡ q → Follows q (body_of bytes h) ended o → CallsFor bytes ended o
follows bytes h q ended o s e f =
    inl (h, head_stands bytes h s, subst (λ (r : Result Envelope HttpFault). Follows r (body_of bytes h) ended o) (sym e) f)

-- a fault of the front is one of the bytes
pub judged_fault : (bytes : List ℕ) (ended : Bool) (f : HttpFault) → IsFaultOf (front bytes) f → CallsFor bytes ended (Err f)
judged_fault bytes ended f (inl w) = follows bytes w.0 (Err f) ended (Err f) w.1 w.2 refl
judged_fault bytes ended f (inr (inl w)) = inr (inl (ap Err w.0, inl w.1))
judged_fault bytes ended f (inr (inr w)) = inr (inr (ap Err w.0, inr w.1))

-- more bytes behind a head are too few, as long as they end before its body does
not_yet : (bytes more : List ℕ) (h : RequestHead) (a : Envelope) (n : ℕ) → HasHead bytes h → envelope h ≡ Ok a → n ≤ length (print_request h) + a.length → length (bytes ++ more) < n → IsNotWhole (bytes ++ more)
not_yet bytes more h a n has e wanted few =
    inr (h, head_more bytes more h has, a, e, omega (arith, wanted, few, within bytes h has, length-append bytes more, length-drop (length (print_request h)) (bytes ++ more)))

waits : (bytes : List ℕ) (h : RequestHead) (a : Envelope) (n : ℕ) (ended : Bool) → ended ≡ false → Stands (front bytes) h → envelope h ≡ Ok a
    → length (body_of bytes h) < a.length → n ≤ length (print_request h) + a.length → Judges bytes ended (Ok (Wants n))
waits bytes h a n ended on s e short wanted =
    let has = head_stands bytes h s in
    (on, inr (h, has, a, e, short), λ more few. not_yet bytes more h a n has e wanted few)

-- fewer bytes than are looked at for a head, of which one may become
pub awaits_head : (bytes : List ℕ) (ended : Bool) → ended ≡ false → length bytes < 16384 → HasNoRequest (front bytes) × MayBecomeRequest (front bytes) → Judges bytes ended (Ok (Wants 0))
awaits_head bytes ended on short before =
    let so = subst (λ (b : List ℕ). HasNoRequest b × MayBecomeRequest b) (front_short bytes short) before in
    (on, inl (short, so.0, so.1), λ more few. absurd (omega (arith, few)))

-- bytes behind which so many are awaited, and of which there are too few
pub still_waits : (bytes : List ℕ) (n : ℕ) (ended : Bool) → ended ≡ false → WaitsFor n bytes → length bytes < n → Judges bytes ended (Ok (Wants n))
still_waits bytes n ended on waiting few =
    let none : bytes ++ [] ≡ bytes = append-nil bytes in
    (on, subst IsNotWhole none (waiting [] (subst (λ (b : List ℕ). length b < n) (sym none) few)), waiting)

pub judged_head : (bytes : List ℕ) (h : RequestHead) (a : Envelope) (ended : Bool) (r : Result Look RequestFault) → Stands (front bytes) h → envelope h ≡ Ok a → Finishes a (length (print_request h)) (body_of bytes h) ended r → Judges bytes ended r
judged_head bytes h a ended (Ok (Whole d)) s e f = follows bytes h (Ok a) ended (Ok d) s e f
judged_head bytes h a ended (Ok (Wants n)) s e f = waits bytes h a n ended f.0 s e f.1 f.2
judged_head bytes h a ended (Err request.Empty) s e f = absurd f
judged_head bytes h a ended (Err (request.Http g)) s e f = follows bytes h (Ok a) ended (Err g) s e f
judged_head bytes h a ended (Err request.Memory) s e f = tt
judged_head bytes h a ended _ s e f = f

pub judged_refused : (bytes : List ℕ) (h : RequestHead) (ended : Bool) (e : RequestFault) → Stands (front bytes) h → Answers (Err e) (envelope h) → Judges bytes ended (Err e)
judged_refused bytes h ended (request.Http f) s e = judged_fault bytes ended f (inl (h, s, e))
judged_refused bytes h ended request.Memory s e = tt
judged_refused bytes h ended request.Empty s e = absurd e
judged_refused bytes h ended request.Read s e = absurd e
judged_refused bytes h ended request.Reads s e = absurd e

-- what stands where the parser found a head at the front
pub found : (bytes buf : List ℕ) (headers : List HeaderSpan) (r : RequestSpans) → buf ≡ front bytes → length headers ≡ 64 → IsRequestOf buf headers r → IsRequestWithin buf headers r
    → (h : RequestHead) × Stands (front bytes) h × (r.len ≡ length (print_request h)) × (r.len ≤ length (front bytes))
    × (envelope h ≡ envelope_by (span_bytes buf r.method) (span_bytes buf r.path) (map (header_bytes buf) (take r.headers headers)))
found bytes buf headers r e room w v =
    let f = w.1.fields in
    let few : length w.0.fields ≤ 64 = omega (arith, room, simp (length-map, length-take) at (ap length f)) in
    let reads : ReadsRequest buf w.0 (drop (length (print_request w.0)) buf) = subst (λ (n : ℕ). ReadsRequest buf w.0 (drop n buf)) w.1.len w.1.reads in (
      w.0,
      (subst (λ (b : List ℕ). ReadsRequest b w.0 (drop (length (print_request w.0)) b)) e reads, few),
      w.1.len,
      subst (λ (b : List ℕ). r.len ≤ length b) e v.section.len_fits,
      rw (w.1.method, w.1.path, w.1.fields) refl,
    )

pub judged_body : (bytes : List ℕ) (n : ℕ) (a : Envelope) (ended : Bool) (r : Result Look RequestFault)
    → ((h : RequestHead) × Stands (front bytes) h × (n ≡ length (print_request h)) × (n ≤ length (front bytes)) × (envelope h ≡ Ok a))
    → Finishes a n (drop n bytes) ended r → Judges bytes ended r
judged_body bytes n a ended r w f =
    judged_head bytes w.0 a ended r w.1 w.4 (subst (λ (m : ℕ). Finishes a m (drop m bytes) ended r) w.2 f)

pub ended_in_head : (bytes : List ℕ) (ended : Bool) → ended ≡ true → 0 < length bytes → length bytes < 16384 → HasNoRequest (front bytes) → CallsFor bytes ended (Err BadHead)
ended_in_head bytes ended e some short none =
    inr (inl (refl, inr (e, some, short, subst HasNoRequest (front_short bytes short) none)))

pub front_within : (bytes : List ℕ) (n : ℕ) → n ≤ length (front bytes) → n ≤ length bytes
front_within bytes n h = omega (arith, length-take 16384 bytes)

-- ==== no bytes, and their end, call for nothing

-- a head, `G / HTTP/1.1`
head : RequestHead
head = record { blank = []; method = 71 ∷ []; target = 47 ∷ []; minor = 1; line_end = crlf; fields = []; last = crlf }

is_head : IsRequestHead head
unfolding head is_token_byte
is_head = record {
  method = (lit< tt, All-cons (λ b. IsTrue (is_token_byte b)) 71 [] refl (All-nil _));
  target = (lit< tt, All-cons (λ b. IsTrue (is_uri_byte b)) 47 [] refl (All-nil _));
  target_text = IsUtf8-from_ascii (47 ∷ []) (IsAscii-from_all (47 ∷ []) (All-cons (λ b. b < 128) 47 [] (lit< tt) (All-nil _)));
  minor = lit≤ tt;
  fields = All-nil IsField;
}

few : length head.fields ≡ 0
unfolding head
few = refl

reads : ReadsRequest (front [] ++ print_request head) head []
reads =
    let none : front [] ≡ [] = take_all 16384 [] (lit≤ tt) in
    (is_head, ap (λ b. b ++ print_request head) none ∙ sym (append-nil (print_request head)))

-- no head stands in no bytes
no_head : (h : RequestHead) → HasHead [] h → ⊥
no_head h has =
    let r = drop (length (print_request h)) (front []) in
    let none : front [] ≡ [] = take_all 16384 [] (lit≤ tt) in
    let e : [] ≡ print_blank h.blank ++ (h.method ++ 32 ∷ (h.target ++ 32 ∷ (print_version h.minor ++ (print_end h.line_end ++ (print_section h.fields h.last ++ r)))))
    = sym none ∙ has.reads.1 ∙ print_request-append h r in
    let l = ap length e in
    absurd (omega (
      arith,
      l,
      length-append (print_blank h.blank) (h.method ++ 32 ∷ (h.target ++ 32 ∷ (print_version h.minor ++ (print_end h.line_end ++ (print_section h.fields h.last ++ r))))),
      length-append h.method (32 ∷ (h.target ++ 32 ∷ (print_version h.minor ++ (print_end h.line_end ++ (print_section h.fields h.last ++ r))))),
    ))

no_large : IsHeadTooLarge [] → ⊥
no_large (inl x) = absurd (omega (arith, x.0))
no_large (inr x) = let many : 64 < length head.fields = x.1 (print_request head) head [] reads in absurd (omega (arith, many, few))

no_bad : IsBadHead [] true → ⊥
no_bad (inl never) = never (print_request head) head [] reads
no_bad (inr x) = absurd (omega (arith, x.1))

pub nothing : (o : Result Delivery HttpFault) → CallsFor [] true o → ⊥
nothing o (inl x) = no_head x.0 x.1
nothing o (inr (inl x)) = no_bad x.1
nothing o (inr (inr x)) = no_large x.1

pub empty : (r : Result Delivery RequestFault) → IsToldOfInput [] r → (r ≡ Err Empty) ⊎ (r ≡ Err Read) ⊎ (r ≡ Err Memory)
empty (Ok d) h = absurd (nothing (Ok d) h)
empty (Err Empty) h = inl refl
empty (Err (Http f)) h = absurd (nothing (Err f) h)
empty (Err Read) h = inr (inl refl)
empty (Err Reads) h = absurd (omega (arith, h))
empty (Err Memory) h = inr (inr refl)

-- ==== the bytes of a request call for one thing

follows_one : (q : Result Envelope HttpFault) (rest : List ℕ) (ended : Bool) (o p : Result Delivery HttpFault) → Follows q rest ended o → Follows q rest ended p → o ≡ p
follows_one (Err f) rest ended o p x y = x ∙ sym y
follows_one (Ok a) rest ended o p (inl x) (inl y) = x.1 ∙ sym y.1
follows_one (Ok a) rest ended o p (inl x) (inr y) = absurd (omega (arith, x.0, y.0))
follows_one (Ok a) rest ended o p (inr x) (inl y) = absurd (omega (arith, x.0, y.0))
follows_one (Ok a) rest ended o p (inr x) (inr y) = x.2 ∙ sym y.2

heads_one : (bytes : List ℕ) (h k : RequestHead) (ended : Bool) (o p : Result Delivery HttpFault) → HasHead bytes h → HasHead bytes k
    → Follows (envelope h) (body_of bytes h) ended o → Follows (envelope k) (body_of bytes k) ended p → o ≡ p
heads_one bytes h k ended o p a b x y =
    let same : h ≡ k = (request_unique (front bytes) h k _ _ a.reads b.reads).0 in
    follows_one (envelope h) (body_of bytes h) ended o p x (subst (λ (z : RequestHead). Follows (envelope z) (body_of bytes z) ended p) (sym same) y)

-- a head that stands there is no bad one
pub not_bad : (bytes : List ℕ) (h : RequestHead) (ended : Bool) → HasHead bytes h → IsBadHead bytes ended → ⊥
not_bad bytes h ended a (inl never) =
    never [] h _ (subst (λ (b : List ℕ). ReadsRequest b h (drop (length (print_request h)) (front bytes))) (sym (append-nil (front bytes))) a.reads)
not_bad bytes h ended a (inr x) =
    let same : front bytes ≡ bytes = take_all 16384 bytes (omega (arith, x.2)) in
    x.3 h _ (subst (λ (b : List ℕ). ReadsRequest b h (drop (length (print_request h)) (front bytes))) same a.reads)

-- nor one too large
pub not_large : (bytes : List ℕ) (h : RequestHead) → HasHead bytes h → IsHeadTooLarge bytes → ⊥
not_large bytes h a (inl x) = x.1 h _ a.reads
not_large bytes h a (inr x) =
    let many : 64 < length h.fields = x.1 [] h _ (subst (λ (b : List ℕ). ReadsRequest b h (drop (length (print_request h)) (front bytes))) (sym (append-nil (front bytes))) a.reads) in
    absurd (omega (arith, many, a.few))

pub one : (bytes : List ℕ) (ended : Bool) (o p : Result Delivery HttpFault) → CallsFor bytes ended o → CallsFor bytes ended p → (o ≡ p) ⊎ (IsHeadFault o × IsHeadFault p × IsBadHead bytes ended × IsHeadTooLarge bytes)
one bytes ended o p (inl x) (inl y) = inl (heads_one bytes x.0 y.0 ended o p x.1 y.1 x.2 y.2)
one bytes ended o p (inl x) (inr (inl y)) = absurd (not_bad bytes x.0 ended x.1 y.1)
one bytes ended o p (inl x) (inr (inr y)) = absurd (not_large bytes x.0 x.1 y.1)
one bytes ended o p (inr (inl x)) (inl y) = absurd (not_bad bytes y.0 ended y.1 x.1)
one bytes ended o p (inr (inr x)) (inl y) = absurd (not_large bytes y.0 y.1 x.1)
one bytes ended o p (inr (inl x)) (inr (inl y)) = inl (x.0 ∙ sym y.0)
one bytes ended o p (inr (inl x)) (inr (inr y)) = inr (inl x.0, inr y.0, x.1, y.1)
one bytes ended o p (inr (inr x)) (inr (inl y)) = inr (inr x.0, inl y.0, y.1, x.1)
one bytes ended o p (inr (inr x)) (inr (inr y)) = inl (x.0 ∙ sym y.0)

-- ==== bytes in which no whole request is yet call for nothing

-- the two places in which bytes that wait call for a fault
abbrev pub IsLeftOpen : List ℕ → Result Delivery HttpFault → Type 0
IsLeftOpen bytes o = ((o ≡ Err BadHead) × EndsInTarget bytes) ⊎ ((o ≡ Err HeadTooLarge) × HasManyFields bytes)

no_follow : (q : Result Envelope HttpFault) (a : Envelope) (rest : List ℕ) (o : Result Delivery HttpFault) → q ≡ Ok a → length rest < a.length → Follows q rest false o → ⊥
no_follow q a rest o e short f = by_case (subst (λ r. Follows r rest false o) e f)
  where
    by_case : Follows (Ok a) rest false o → ⊥
    by_case (inl x) = absurd (omega (arith, x.0, short))
    by_case (inr x) = true≢false (sym x.1)

head_waits : (bytes : List ℕ) (h : RequestHead) (o : Result Delivery HttpFault) → IsNotWhole bytes → HasHead bytes h → Follows (envelope h) (body_of bytes h) false o → ⊥
head_waits bytes h o (inl w) has f =
    w.1 h _ (subst (λ (b : List ℕ). ReadsRequest b h (drop (length (print_request h)) (front bytes))) (front_short bytes w.0) has.reads)
head_waits bytes h o (inr w) has f =
    let same : h ≡ w.0 = (request_unique (front bytes) h w.0 _ _ has.reads w.1.reads).0 in
    no_follow (envelope w.0) w.2 (body_of bytes w.0) o w.3 w.4 (subst (λ (k : RequestHead). Follows (envelope k) (body_of bytes k) false o) same f)

in_target : (bytes : List ℕ) → NeverHasRequest bytes → MayBecomeRequest bytes → EndsInTarget bytes
in_target bytes never (inl x) = absurd (never x.0 x.1 [] x.2)
in_target bytes never (inr x) = x

bad_waits : (bytes : List ℕ) → IsNotWhole bytes → IsBadHead bytes false → EndsInTarget bytes
bad_waits bytes (inl w) (inl never) = in_target bytes (subst NeverHasRequest (front_short bytes w.0) never) w.2
bad_waits bytes (inr w) (inl never) = absurd (not_bad bytes w.0 false w.1 (inl never))
bad_waits bytes w (inr x) = absurd (true≢false (sym x.0))

large_waits : (bytes : List ℕ) → IsNotWhole bytes → IsHeadTooLarge bytes → HasManyFields bytes
large_waits bytes (inl w) (inl x) = absurd (omega (arith, w.0, x.0))
large_waits bytes (inl w) (inr x) = subst HasManyFields (front_short bytes w.0) x
large_waits bytes (inr w) x = absurd (not_large bytes w.0 w.1 x)

pub waiting : (bytes : List ℕ) (o : Result Delivery HttpFault) → IsNotWhole bytes → CallsFor bytes false o → IsLeftOpen bytes o
waiting bytes o w (inl x) = absurd (head_waits bytes x.0 o w x.1 x.2)
waiting bytes o w (inr (inl x)) = inl (x.0, bad_waits bytes w x.1)
waiting bytes o w (inr (inr x)) = inr (x.0, large_waits bytes w x.1)
