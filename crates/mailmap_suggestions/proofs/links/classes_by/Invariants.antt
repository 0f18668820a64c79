-- The texts of the members so far.
use Rattle.std.proofs.Common.{◌≡◌, ℕ, false, get_or, map, take}
use Rattle.std.specs.Global.{Vec}
use Rattle.mailmap_suggestions.specs.declared.members.Member.{Member}
use Rattle.mailmap_suggestions.proofs.Classed.{text_if}
use Rattle.mailmap_suggestions.proofs.links.classes_by.Given as goal

abbrev pub invariant-loop-member : goal.invariant-loop-member
invariant-loop-member l = map (λ (v : Vec ℕ). v.items) l.found.items
    ≡ map (λ (m : Member). text_if (get_or l.linked.items m.first false) (get_or l.classes.items m.first 0)) (take l.member-index l.members)
