-- What serving connections does, one after the other.
use Rattle.std.specs.Prelude.{◌≡◌, ◌≢◌, ◌≤◌, ◌<◌, ◌+◌, ◌⊎◌, ℕ, List, [], ◌∷◌, ◌++◌, Bool, Option, Some, None, Result, Ok, IfOk, OnOk, length, map}
use Rattle.review_words.specs.declared.{command.Delivery.Delivery, reply.Reply.Reply}
use Rattle.review_http_requests.specs.{Bytes.IsFirstPart, Wire.CallsFor}
use Rattle.review_machine_rows.specs.Shelf.{Shown}
use Rattle.review_machine_deliveries.specs.Delivered.{IsDelivered, WasRun}
use Rattle.review_http.specs.{Responses.response, Served.WasServed}
use Rattle.review_http.specs.declared.serve.{ServeFault.ServeFault, Served.Served}

-- What is known of the peers of connections: what those to come send, and what those were told whose connections were closed.
pub record Peers : Type 0 where
  pub coming : Option (List (List ℕ))
  pub told : Option (List (List ℕ))

-- What was exchanged with a peer: what it sends, where that is known, and what was written to it.
pub record Exchange : Type 0 where
  pub input : Option (List ℕ)
  pub text : List ℕ

-- Peers that send these inputs were the first of those to come, where they are known, and the others are to come after them.
abbrev pub Came : Option (List (List ℕ)) → List (Option (List ℕ)) → Option (List (List ℕ)) → Type 0
Came None inputs later = Unit {0}
Came (Some coming) inputs later = (rest : List (List ℕ)) × (map Some coming ≡ inputs ++ map Some rest) × (later ≡ Some rest)

-- peers were told these texts, after those that were told before, where they are known
abbrev pub WereTold : Option (List (List ℕ)) → List (List ℕ) → Option (List (List ℕ)) → Type 0
WereTold None texts after = Unit {0}
WereTold (Some before) texts after = after ≡ Some (before ++ texts)

-- of a shelf, and what it shows
module _ {S : Type 0} (state : S → Shown) where
  -- what was taken of the bytes of a request: the delivery that they call for, with the reply that the peer is told all or a first part of; or nothing
  abbrev pub TookOf : List ℕ → Bool → List ℕ → List (Delivery × Reply) → S → S → Type 0
  TookOf bytes ended text taken old new =
      ((taken ≡ []) × (new ≡ old))
      ⊎ ((d : Delivery) × (reply : Reply) × (taken ≡ (d, reply) ∷ []) × CallsFor bytes ended (Ok d) × IsDelivered d reply (state old) (state new)
      × IsFirstPart text (response (Ok reply)))

  -- A connection was served over which this was exchanged, to a writer that held nothing before; and this was taken.
  pub record ServedOne (exchange : Exchange) (taken : List (Delivery × Reply)) (old new : S) : Type 0 where
    pub left : Option (List ℕ)
    pub ending : Result Served ServeFault
    pub served : WasServed state exchange.input left (Some []) (Some exchange.text) ending old new
    pub took : TookOf served.bytes served.ended exchange.text taken old new

  -- where another connection follows, so many faults of the store were counted
  abbrev pub CountsBefore : ℕ → List Exchange → S → Type 0
  CountsBefore faults [] between = Unit {0}
  CountsBefore faults (exchange ∷ exchanges) between = (state between).faults ≡ faults

  -- Connections were served one after the other, over which these were exchanged; and this was taken, in their order. Up to the last of them so many faults of the store were counted.
  abbrev pub ServedEach : ℕ → List Exchange → List (Delivery × Reply) → S → S → Type 0
  ServedEach faults [] taken old new = (taken ≡ []) × (new ≡ old)
  ServedEach faults (exchange ∷ exchanges) taken old new =
      (front back : List (Delivery × Reply)) × (between : S) × (taken ≡ front ++ back) × ServedOne exchange front old between × CountsBefore faults exchanges between
      × ServedEach faults exchanges back between new

  -- Connections were served: the first of those to come, each of whose peers was told what was written to it; where it ended well no other was accepted. They were so many, or fewer where one could not be
  -- accepted, or where a fault of the store was counted for the last of them: then it is told how many are left. What was taken of them was a run.
  pub record ServedAll (before after : Peers) (count : ℕ) {E : Type 0} (ended : Result ℕ E) (old new : S) : Type 0 where
    pub exchanges : List Exchange
    pub later : Option (List (List ℕ))
    pub came : Came before.coming (map (λ e. e.input) exchanges) later
    pub left : OnOk ended (after.coming ≡ later)
    pub told : WereTold before.told (map (λ e. e.text) exchanges) after.told
    pub few : length exchanges ≤ count
    pub all : IfOk ended (λ rest. length exchanges + rest ≡ count)
    pub stopped : IfOk ended (λ rest. 0 < rest → (state new).faults ≢ (state old).faults)
    pub taken : List (Delivery × Reply)
    pub each : ServedEach (state old).faults exchanges taken old new
    pub ran : WasRun (map (λ t. t.0) taken) (map (λ t. t.1) taken) (state old) (state new)
