use Rattle.std.proofs.lemmas.Grind.{common_steps}
use Rattle.std.proofs.Common.{rules, of_calls, arith}
use Rattle.std.proofs.lemmas.Fn.{always_returns_same}
use Rattle.mailmap_entries.specs.Semantics.{key_cmp}
use Rattle.mailmap_redundancy.proofs.Numbered.{searched}
use Rattle.mailmap_redundancy.proofs.keys.find.Goals as goal

pub returns-clause-some : goal.returns-clause-some
returns-clause-some c = grind (arith, common_steps, always_returns_same, searched)

pub returns-clause-none : goal.returns-clause-none
returns-clause-none c =
    let found = c.binary_search_by.ensures.position (λ k. key_cmp k c.args.key.now)
    (always_returns_same _ _ _ (λ a r f called. search (rules, of_calls))) in
    rw c.ok.ensures.value (searched _ _ _ c.requires c.binary_search_by.ensures.bound found).1
