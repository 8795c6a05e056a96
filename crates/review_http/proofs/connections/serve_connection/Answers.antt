use Rattle.std.proofs.Common.{◌≡◌, ℕ, List, [], ◌∷◌, Option, Some, IfSome, ap, subst, sym}
use Rattle.review_http.proofs.Connected.{served_one, told_text}
use Rattle.review_http.specs.Peers.{ServedOne, WereTold}
use Rattle.review_http.proofs.connections.serve_connection.Goals as goal

pub returns-clause-served : goal.returns-clause-served
returns-clause-served g c =
    let was = c.serve_request.ensures.served in
    let one = served_one g.S.Shelf.state _ _ _ _ _ _ _ was in
    let before = g.C.Connections.told c.args.connections.now in
    let after = g.C.Connections.told c.close.new.self in
    let Empty : Option (List ℕ) → Type 0 = λ held. IfSome before (λ (b : List (List ℕ)). held ≡ Some []) in
    let Tells : Option (List ℕ) → Type 0 = λ holds. IfSome holds (λ (t : List ℕ). WereTold before (t ∷ []) after) in
    let empty = subst Empty (sym (ap g.C.Writer.Write.contents c.new-writer.ensures.inner)) c.requires.empty in
    let tells = subst Tells (ap g.C.Writer.Write.contents c.into_inner-2.ensures) c.close.ensures.told in (
      was.text,
      one.0,
      subst (λ (input : Option (List ℕ)). ServedOne g.S.Shelf.state (record { input = input; text = was.text }) one.0 c.args.shelf.now c.serve_request.new.shelf)
          (ap g.C.Reader.Read.remaining c.new-reader.ensures.inner) one.1,
      told_text before after _ _ was.text empty was.wrote tells,
    )
