use Rattle.std.proofs.Common.{◌≡◌, ◌+◌, ◌++◌, ◌∷◌, ◌∙◌, List, [], Option, ℕ, length, length-append, refl, sym, subst, rules, arith}
use Rattle.review_machine_deliveries.proofs.Ran.{ran_none}
use Rattle.review_http.proofs.Connected.{came_none, came_one, each_more, ran_more, told_none, told_one, texts_of}
use Rattle.review_http.specs.Peers.{Exchange, WereTold}
use Rattle.review_http.proofs.connections.serve_connections.Goals as goal

pub loop-served-init : goal.loop-served-init
loop-served-init g c = (([], [], came_none _ _ c.in_ok-listen.ensures.coming, told_none _ _ c.in_ok-listen.ensures.told, refl, (refl, refl), ran_none _), c.in_ok-listen.ensures.idle)

pub listen-requires : goal.listen-requires
listen-requires g c = record { idle = c.requires.idle }

pub accept-requires : goal.accept-requires
accept-requires g c = record { idle = c.loop-served.invariant.1 }

pub loop-served-preserved : goal.loop-served-preserved
loop-served-preserved g c =
    let was = c.loop-served.invariant.0 in
    let it = c.serve_connection.ensures.served in
    let exchange : Exchange = record { input = g.C.Reader.Read.remaining c.in_ok-reader.reader; text = it.0 } in
    let count : length (was.0 ++ exchange ∷ []) ≡ c.loop-served.served + 1 = omega (arith, was.4, length-append was.0 (exchange ∷ [])) in
    let counted : (g.S.Shelf.state c.loop-served.shelf).faults ≡ (g.S.Shelf.state c.args.shelf.now).faults = sym c.faults.ensures ∙ (c.if-faults.false ∙ c.faults-faults.ensures) in (
      (
        was.0 ++ exchange ∷ [],
        was.1 ++ it.1,
        came_one _ _ _ _ was.0 exchange was.2 c.in_ok-reader.ensures.coming c.serve_connection.ensures.coming,
        told_one _ _ _ _ was.0 exchange was.3 c.in_ok-reader.ensures.told it.3,
        count,
        each_more g.S.Shelf.state _ was.0 exchange was.1 it.1 _ _ _ was.5 counted it.2,
        ran_more g.S.Shelf.state exchange was.1 it.1 _ _ _ was.6 it.2,
      ),
      c.serve_connection.ensures.idle,
    )

pub returns-clause-served : goal.returns-clause-served
returns-clause-served g c =
    let was = c.loop-served.invariant.0 in
    let all : length was.0 ≡ c.args.count = omega (arith, was.4, c.loop-served.auto.served-end, c.loop-served-test.false) in
    record {
      exchanges = was.0;
      later = g.C.Connections.coming c.loop-served.connections;
      came = was.2;
      left = refl;
      told = was.3;
      few = omega (arith, all);
      all = omega (arith, all);
      stopped = λ more. omega (arith, more);
      taken = was.1;
      each = was.5;
      ran = was.6;
    }

pub returns-then-faults-clause-served : goal.returns-then-faults-clause-served
returns-then-faults-clause-served g c =
    let was = c.loop-served.invariant.0 in
    record {
      exchanges = was.0;
      later = g.C.Connections.coming c.loop-served.connections;
      came = was.2;
      left = refl;
      told = was.3;
      few = omega (arith, was.4, c.loop-served.auto.served-end);
      all = omega (arith, was.4, c.loop-served.auto.served-end);
      stopped = λ more same. c.if-faults.true (c.faults.ensures ∙ (same ∙ sym c.faults-faults.ensures));
      taken = was.1;
      each = was.5;
      ran = was.6;
    }

pub returns-in_err-reader-clause-served : goal.returns-in_err-reader-clause-served
returns-in_err-reader-clause-served g c =
    let was = c.loop-served.invariant.0 in
    record {
      exchanges = was.0;
      later = g.C.Connections.coming c.loop-served.connections;
      came = was.2;
      left = search rules;
      told = subst (λ (t : Option (List (List ℕ))). WereTold (g.C.Connections.told c.args.connections.now) (texts_of was.0) t) (sym c.in_err-reader.ensures.told) was.3;
      few = omega (arith, was.4, c.loop-served.auto.served-end);
      all = search rules;
      stopped = search rules;
      taken = was.1;
      each = was.5;
      ran = was.6;
    }

pub returns-in_err-listen-clause-served : goal.returns-in_err-listen-clause-served
returns-in_err-listen-clause-served g c = record {
  exchanges = [];
  later = g.C.Connections.coming c.args.connections.now;
  came = came_none _ _ refl;
  left = search rules;
  told = told_none _ _ c.in_err-listen.ensures.told;
  few = omega arith;
  all = search rules;
  stopped = search rules;
  taken = [];
  each = (refl, refl);
  ran = ran_none _;
}

pub returns-clause-idle : goal.returns-clause-idle
returns-clause-idle g c = c.loop-served.invariant.1

pub returns-then-faults-clause-idle : goal.returns-then-faults-clause-idle
returns-then-faults-clause-idle g c = c.loop-served.invariant.1
