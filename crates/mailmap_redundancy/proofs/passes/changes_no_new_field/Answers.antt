use Rattle.std.proofs.Common.{◌≡◌, Option, Some, None, is_some, refl, rules}
use Rattle.std.specs.Borrow.{Bor}
use Rattle.std.specs.Option.{option_copied, option_map}
use Rattle.mailmap_entries.specs.Folding.{Text, folded}
use Rattle.mailmap_redundancy.proofs.Redundant.{has_referred}
use Rattle.mailmap_redundancy.proofs.passes.changes_no_new_field.Goals as goal

is_named : (o : Option (Bor Text)) → is_some (option_map folded (option_copied o)) ≡ is_some o
is_named None = refl
is_named (Some x) = refl

pub returns : goal.returns
returns c = search (rules, has_referred, is_named)
