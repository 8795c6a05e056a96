-- Connections served, one after the other.
use Rattle.std.proofs.Common.{◌≡◌, ◌++◌, ℕ, List, [], ◌∷◌, Bool, Option, Some, None, IfSome, Result, Ok, Err, inl, inr, refl, sym, ap, ◌∙◌, subst, map, append-nil, append_assoc}
use Rattle.std.{proofs.lemmas.List.map-append, specs.Io.KnownBytes.Appends}
use Rattle.review_words.specs.declared.{command.Delivery.Delivery, reply.Reply.Reply}
use Rattle.review_http_requests.specs.{Bytes.IsFirstPart, Wire.CallsFor, declared.http_fault.HttpFault.HttpFault}
use Rattle.review_machine_rows.specs.Shelf.{Shown}
use Rattle.review_machine_deliveries.proofs.Ran.{ran_none, ran_one, ran-append}
use Rattle.review_machine_deliveries.specs.Delivered.{WasRun}
use Rattle.review_http.specs.Peers.{Exchange, Came, WereTold, TookOf, ServedOne, CountsBefore, ServedEach}
use Rattle.review_http.specs.Responses.{response}
use Rattle.review_http.specs.Served.{IsWritten, IsToldOf, IsAnswered, IsServedOnWire, WasServed}
use Rattle.review_http.specs.declared.serve.ServeFault.{ServeFault}
use Rattle.review_http.specs.declared.serve.ServeFault.TheVariants.{Read, Reads, Write, Memory}
use Rattle.review_http.specs.declared.serve.Served.{Served, TheVariants.Answered, TheVariants.Empty}

-- the first of those to come, and the first of the later ones
pub came_more : (coming mid later : Option (List (List ℕ))) (inputs more : List (Option (List ℕ))) → Came coming inputs mid → Came mid more later → Came coming (inputs ++ more) later
came_more None mid later inputs more came next = tt
came_more (Some all) mid later inputs more came next =
    let then : Came (Some came.0) more later = subst (λ (c : Option (List (List ℕ))). Came c more later) came.2 next in
    (then.0, came.1 ∙ (ap (λ (l : List (Option (List ℕ))). inputs ++ l) then.1 ∙ sym (append_assoc inputs more (map Some then.0))), then.2)

-- none came
pub came_none : (coming later : Option (List (List ℕ))) → later ≡ coming → Came coming [] later
came_none None later same = tt
came_none (Some all) later same = (all, refl, same)

pub told_more : (before mid after : Option (List (List ℕ))) (texts more : List (List ℕ)) → WereTold before texts mid → WereTold mid more after → WereTold before (texts ++ more) after
told_more None mid after texts more told next = tt
told_more (Some first) mid after texts more told next =
    let then : WereTold (Some (first ++ texts)) more after = subst (λ (m : Option (List (List ℕ))). WereTold m more after) told next in
    then ∙ ap Some (append_assoc first texts more)

-- nobody was told anything
pub told_none : (before after : Option (List (List ℕ))) → after ≡ before → WereTold before [] after
told_none None after same = tt
told_none (Some first) after same = same ∙ ap Some (sym (append-nil first))

-- a writer that held nothing holds what was written
pub told_text : (before after : Option (List (List ℕ))) (held holds : Option (List ℕ)) (text : List ℕ)
    → IfSome before (λ (b : List (List ℕ)). held ≡ Some []) → Appends held holds text → IfSome holds (λ (t : List ℕ). WereTold before (t ∷ []) after) → WereTold before (text ∷ []) after
told_text None after held holds text empty wrote tells = tt
told_text (Some first) after held None text empty wrote tells = absurd (subst (λ (h : Option (List ℕ)). Appends h None text) empty wrote)
told_text (Some first) after held (Some all) text empty wrote tells =
    let same : all ≡ text = subst (λ (h : Option (List ℕ)). Appends h (Some all) text) empty wrote in
    subst (λ (t : List ℕ). WereTold (Some first) (t ∷ []) after) same tells

abbrev pub inputs_of : List Exchange → List (Option (List ℕ))
inputs_of exchanges = map (λ (e : Exchange). e.input) exchanges

abbrev pub texts_of : List Exchange → List (List ℕ)
texts_of exchanges = map (λ (e : Exchange). e.text) exchanges

pub came_one : (coming mid next later : Option (List (List ℕ))) (exchanges : List Exchange) (exchange : Exchange)
    → Came coming (inputs_of exchanges) mid → Came mid (exchange.input ∷ []) next → later ≡ next → Came coming (inputs_of (exchanges ++ exchange ∷ [])) later
came_one coming mid next later exchanges exchange came one same =
    let more : Came coming (inputs_of exchanges ++ exchange.input ∷ []) next = came_more coming mid next (inputs_of exchanges) (exchange.input ∷ []) came one in
    let inputs : inputs_of exchanges ++ exchange.input ∷ [] ≡ inputs_of (exchanges ++ exchange ∷ []) = sym (map-append (λ (e : Exchange). e.input) exchanges (exchange ∷ [])) in
    subst (λ (l : List (Option (List ℕ))). Came coming l later) inputs (subst (λ (c : Option (List (List ℕ))). Came coming (inputs_of exchanges ++ exchange.input ∷ []) c) (sym same) more)

pub told_one : (before mid next after : Option (List (List ℕ))) (exchanges : List Exchange) (exchange : Exchange)
    → WereTold before (texts_of exchanges) mid → next ≡ mid → WereTold next (exchange.text ∷ []) after → WereTold before (texts_of (exchanges ++ exchange ∷ [])) after
told_one before mid next after exchanges exchange told same one =
    let last : WereTold mid (exchange.text ∷ []) after = subst (λ (m : Option (List (List ℕ))). WereTold m (exchange.text ∷ []) after) same one in
    let more : WereTold before (texts_of exchanges ++ exchange.text ∷ []) after = told_more before mid after (texts_of exchanges) (exchange.text ∷ []) told last in
    let texts : texts_of exchanges ++ exchange.text ∷ [] ≡ texts_of (exchanges ++ exchange ∷ []) = sym (map-append (λ (e : Exchange). e.text) exchanges (exchange ∷ [])) in
    subst (λ (l : List (List ℕ)). WereTold before l after) texts more

abbrev pub Taken : Type 0
Taken = List (Delivery × Reply)

abbrev pub asked : Taken → List Delivery
asked taken = map (λ (t : Delivery × Reply). t.0) taken

abbrev pub replies : Taken → List Reply
replies taken = map (λ (t : Delivery × Reply). t.1) taken

module _ {S : Type 0} (state : S → Shown) where
  abbrev pub Took : List ℕ → Bool → List ℕ → S → S → Type 0
  Took bytes ended text old new = (taken : Taken) × TookOf state bytes ended text taken old new

  -- what was written is all or a first part of the response
  part : (told : Result Reply HttpFault) (text : List ℕ) (ending : Result Served ServeFault) → IsWritten told text ending → IsFirstPart text (response told)
  part told text (Ok (Answered status)) w = ([], sym w.1 ∙ sym (append-nil text))
  part told text (Ok Empty) w = absurd w
  part told text (Err Read) w = absurd w
  part told text (Err Reads) w = absurd w
  part told text (Err Write) w = w
  part told text (Err Memory) w = (response told, ap (λ (l : List ℕ). l ++ response told) (sym w))

  took_told : (bytes : List ℕ) (ended : Bool) (text : List ℕ) (called : Result Delivery HttpFault) (reply : Result Reply HttpFault) (old new : S)
      → CallsFor bytes ended called → IsToldOf state called reply old new → IsFirstPart text (response reply) → Took bytes ended text old new
  took_told bytes ended text (Ok d) (Ok reply) old new calls t w = ((d, reply) ∷ [], inr (d, reply, refl, calls, t, w))
  took_told bytes ended text (Ok d) (Err g) old new calls t w = absurd t
  took_told bytes ended text (Err f) (Ok reply) old new calls t w = absurd t
  took_told bytes ended text (Err f) (Err g) old new calls t w = ([], inl (refl, t.1))

  took_answered : (bytes : List ℕ) (ended : Bool) (text : List ℕ) (ending : Result Served ServeFault) (old new : S) → IsAnswered state bytes ended text ending old new → Took bytes ended text old new
  took_answered bytes ended text ending old new a = took_told bytes ended text a.called a.told old new a.calls a.tells (part a.told text ending a.written)

  -- what was taken of a request
  took : (bytes : List ℕ) (ended : Bool) (text : List ℕ) (ending : Result Served ServeFault) (old new : S) → IsServedOnWire state bytes ended text ending old new → Took bytes ended text old new
  took bytes ended text (Ok (Answered status)) old new h = took_answered bytes ended text (Ok (Answered status)) old new h
  took bytes ended text (Ok Empty) old new h = ([], inl (refl, h.2.1))
  took bytes ended text (Err Read) old new h = ([], inl (refl, h.1))
  took bytes ended text (Err Reads) old new h = ([], inl (refl, h.2.1))
  took bytes ended text (Err Write) old new h = took_answered bytes ended text (Err Write) old new h
  took bytes ended text (Err Memory) old new (inl h) = ([], inl (refl, h.1))
  took bytes ended text (Err Memory) old new (inr h) = took_answered bytes ended text (Err Memory) old new h

  -- a request was served over a writer that held nothing before, where that is known
  pub served_one : (input left held holds : Option (List ℕ)) (ending : Result Served ServeFault) (old new : S) (was : WasServed state input left held holds ending old new)
      → (taken : Taken) × ServedOne state (record { input = input; text = was.text }) taken old new
  served_one input left held holds ending old new was =
      let it = took was.bytes was.ended was.text ending old new was.how in
      let served : WasServed state input left (Some []) (Some was.text) ending old new
      = record { bytes = was.bytes; ended = was.ended; text = was.text; gave = was.gave; wrote = refl; how = was.how } in
      (it.0, record { left = left; ending = ending; served = served; took = it.1 })

  -- what was taken of a request is a run
  ran_took : (bytes : List ℕ) (ended : Bool) (text : List ℕ) (taken : Taken) (old new : S) → TookOf state bytes ended text taken old new → WasRun (asked taken) (replies taken) (state old) (state new)
  ran_took bytes ended text taken old new (inl none) =
      let ran : WasRun [] [] (state old) (state new) = subst (λ (s : S). WasRun [] [] (state old) (state s)) (sym none.1) (ran_none (state old)) in
      subst (λ (l : Taken). WasRun (asked l) (replies l) (state old) (state new)) (sym none.0) ran
  ran_took bytes ended text taken old new (inr one) =
      subst (λ (l : Taken). WasRun (asked l) (replies l) (state old) (state new)) (sym one.2) (ran_one one.0 one.1 (state old) (state new) one.4)

  -- what was counted before the one more
  counts_more : (faults : ℕ) (exchanges : List Exchange) (exchange : Exchange) (taken : Taken) (between mid : S) → CountsBefore state faults exchanges between → ServedEach state faults exchanges taken between mid → (state mid).faults ≡ faults
      → CountsBefore state faults (exchanges ++ exchange ∷ []) between
  counts_more faults [] exchange taken between mid counts each same = subst (λ (s : S). (state s).faults ≡ faults) each.1 same
  counts_more faults (first ∷ exchanges) exchange taken between mid counts each same = counts

  -- one connection more
  pub each_more : (faults : ℕ) (exchanges : List Exchange) (exchange : Exchange) (taken more : Taken) (old mid new : S) → ServedEach state faults exchanges taken old mid → (state mid).faults ≡ faults → ServedOne state exchange more mid new
      → ServedEach state faults (exchanges ++ exchange ∷ []) (taken ++ more) old new
  each_more faults [] exchange taken more old mid new each counted one =
      let same : taken ++ more ≡ more ++ [] = ap (λ (l : Taken). l ++ more) each.0 ∙ sym (append-nil more) in
      (more, [], new, same, subst (λ (s : S). ServedOne state exchange more s new) each.1 one, tt, (refl, refl))
  each_more faults (first ∷ exchanges) exchange taken more old mid new each counted one =
      let same : taken ++ more ≡ each.0 ++ (each.1 ++ more) = ap (λ (l : Taken). l ++ more) each.3 ∙ append_assoc each.0 each.1 more in
      (each.0, each.1 ++ more, each.2, same, each.4, counts_more faults exchanges exchange each.1 each.2 mid each.5 each.6 counted, each_more faults exchanges exchange each.1 more each.2 mid new each.6 counted one)

  pub ran_more : (exchange : Exchange) (taken more : Taken) (old mid new : S) → WasRun (asked taken) (replies taken) (state old) (state mid) → ServedOne state exchange more mid new → WasRun (asked (taken ++ more)) (replies (taken ++ more)) (state old) (state new)
  ran_more exchange taken more old mid new ran one =
      let both = ran-append (asked taken) (asked more) (replies taken) (replies more) (state old) (state mid) (state new) ran (ran_took one.served.bytes one.served.ended exchange.text more mid new one.took) in
      let ds : asked taken ++ asked more ≡ asked (taken ++ more) = sym (map-append (λ (t : Delivery × Reply). t.0) taken more) in
      let rs : replies taken ++ replies more ≡ replies (taken ++ more) = sym (map-append (λ (t : Delivery × Reply). t.1) taken more) in
      subst (λ (p : List Delivery × List Reply). WasRun p.0 p.1 (state old) (state new)) (λ i. (ds i, rs i)) both
