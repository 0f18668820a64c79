use Rattle.std.proofs.Common.{◌≡◌, ◌∙◌, Ok, ap, length, map, subst, sym}
use Rattle.std.proofs.lemmas.List.{length-map}
use Rattle.std.proofs.lemmas.Iterator.Consumers.{YieldsList-from_first, map_from_collect}
use Rattle.gix_mailmap.specs.Entries.{mapping_of}
use Rattle.gix_mailmap.specs.Semantics.{IsNormal}
use Rattle.caller_promises.proofs.listings.list.Goals as goal

pub returns : goal.returns
returns c h headline =
    let listed = c.args.snapshot.now in
    let iterated : map mapping_of c.in_ok-iterated.iterated.items ≡ listed =
    map_from_collect {E = Unit {0}} (Ok c.in_ok-iterated.iterated) c.in_ok-iterated.ensures.ran (YieldsList-from_first mapping_of (λ s. s) listed c.iter.ensures.listing) in
    let entries : map mapping_of c.in_ok-entries.entries.items ≡ listed = c.in_ok-entries.ensures.listing in
    record {
      iterated = subst (IsNormal h) (sym iterated) headline.normal;
      entries = subst (IsNormal h) (sym entries) headline.normal;
      len = c.len.ensures ∙ ap length (sym entries) ∙ length-map c.in_ok-entries.entries.items mapping_of;
    }
