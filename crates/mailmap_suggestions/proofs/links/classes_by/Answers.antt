use Rattle.std.proofs.Common.{◌≡◌, ◌∙◌, ◌<◌, ◌^◌, ℕ, Some, ap, arith, length, map, slice_get, take_all}
use Rattle.std.specs.Global.{Vec}
use Rattle.mailmap_suggestions.specs.Forests.{links_of}
use Rattle.mailmap_suggestions.specs.declared.classes.Link.{Link}
use Rattle.mailmap_suggestions.specs.declared.members.Member.{Member}
use Rattle.std.proofs.Common.{List, false, get_or}
use Rattle.mailmap_suggestions.proofs.Classed.{are_classes_by, class, is_linked, text_if, texts_are}
use Rattle.mailmap_suggestions.proofs.links.classes_by.Goals as goal

pub returns : goal.returns
returns c = λ h ts marks are all.
    let ms = c.args.members.now in
    let links = links_of c.args.links.items in
    let found = c.in_ok-classes.classes.items in
    let linked = c.in_ok-linked.linked.items in
    let classes = c.in_ok-classes.ensures in
    let few : length ms < 2 ^ 64 = omega arith in
    let there : (item : ℕ) → item < length ms → slice_get linked item ≡ Some (is_linked links item) =
    λ item lt. c.in_ok-linked.ensures.linked item lt ∙ ap (λ (l : List Link). Some (is_linked (links_of l) item)) c.deref.ensures.value in
    let is : map (λ (v : Vec ℕ). v.items) c.loop-member.found.items ≡ map (λ (m : Member). text_if (get_or linked m.first false) (get_or found m.first 0)) ms =
    c.loop-member.invariant ∙ ap (map (λ (m : Member). text_if (get_or linked m.first false) (get_or found m.first 0))) (take_all c.loop-member.member-index ms c.loop-member-test.false) in (
      class marks h ts ms are links all found classes few,
      are_classes_by marks h ts ms are links all found classes few,
      texts_are marks h ts ms are links all found classes few c.loop-member.found.items linked is c.in_ok-linked.ensures.len there,
    )
