use Rattle.{std.proofs.Common.Ok, review_http.proofs.Serving.serves}
use Rattle.review_http.proofs.serve.serve_request.Goals as goal

pub returns-in-Ok-clause-served : goal.returns-in-Ok-clause-served
returns-in-Ok-clause-served g c =
    serves g.S.Shelf.state _ _ _ _ (Ok c.in-Ok.delivery) (Ok c.deliver-reply.result) _ _ _ c.in-Ok.ensures.told c.deliver-reply.ensures c.tell.ensures.written
