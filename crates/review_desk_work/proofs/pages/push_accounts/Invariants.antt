use Rattle.std.proofs.Common.{◌≡◌, ◌++◌, drop, flat_map, string_bytes}
use Rattle.review_desk_work.specs.Told.{role_line}
use Rattle.review_desk_work.proofs.pages.push_accounts.Given as goal

abbrev pub invariant-loop-account : goal.invariant-loop-account
invariant-loop-account l = string_bytes l.text ++ flat_map (role_line l.role) (drop l.account-index l.accounts) ≡ string_bytes l.fn.text ++ flat_map (role_line l.role) l.accounts
