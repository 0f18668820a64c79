-- None of those so far is one.
use Rattle.std.proofs.Common.{◌≡◌, [], flat_map, map, take}
use Rattle.std.specs.Prelude.{option_to_list}
use Rattle.std.specs.Option.{option_copied}
use Rattle.mailmap_suggestions.proofs.links.first_found.Given as goal

abbrev pub invariant-loop-login : goal.invariant-loop-login
invariant-loop-login l = flat_map option_to_list (map option_copied (take l.login-index l.found)) ≡ []
