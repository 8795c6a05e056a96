-- What the router's insertion says of the table, path by path.
use Rattle.std.proofs.Common.{◌≡◌, ◌<◌, ◌+◌, List, ℕ, Bor, drop, length, get_or, add-one, drop-cons, refl, Result, Ok, Err, OnOk}
use Rattle.matchit.specs.{Route.Scan, Route.parse_route, Router.InsertsRead, declared.error.InsertError.InsertError}
use Rattle.review_http_requests.specs.Table.{Rows, add_read, with_path, with_paths}
use Rattle.review_http_requests.specs.{declared.table.Resource.Resource, inner.Words.entries}

added : (x : Result Scan InsertError) (resource : Resource) (old new : Rows) → InsertsRead x resource old new (Ok tt) → new ≡ add_read x resource old
added (Ok s) resource old new h = h.1
added (Err e) resource old new h = h.0

pub on_inserted : (text : List ℕ) (resource : Resource) (old new : Rows) (r : Result (Unit {0}) InsertError) → InsertsRead (parse_route text) resource old new r → OnOk r (new ≡ with_path text resource old)
unfolding with_path
on_inserted text resource old new (Ok u) h = added (parse_route text) resource old new h
on_inserted text resource old new (Err e) h = tt

-- one path more
pub one_more : (xs : List (Bor (List ℕ) × Resource)) (i : ℕ) (d : Bor (List ℕ) × Resource) (rows : Rows) → i < length xs
    → with_paths (entries (drop i xs)) rows ≡ with_paths (entries (drop (i + 1) xs)) (with_path (get_or xs i d).0.now (get_or xs i d).1 rows)
one_more xs i d rows low = rw (add-one, drop-cons xs i d low) refl
