use Rattle.std.proofs.Common.{◌≡◌, ◌++◌, ◌∷◌, [], map}
use Rattle.std.specs.List.{flat_map}
use Rattle.mailmap_snapshot.specs.Contacts.{answer}
use Rattle.mailmap_snapshot.proofs.check.push_each.Given as goal

abbrev pub invariant-loop-line : goal.invariant-loop-line
invariant-loop-line l = l.text.items ≡ l.initial.text.items ++ flat_map (λ line. answer l.snapshot line ++ 10 ∷ []) (map (λ y. y.now) l.yielded)
