use Rattle.std.proofs.Common.{◌∙◌, ◌++◌, ap, append_assoc, refl, sym}
use Rattle.std.specs.List.{flat_map}
use Rattle.mailmap_contacts.specs.Contacts.{seen_where}
use Rattle.mailmap_contacts.specs.Counts.{slot_tally}
use Rattle.mailmap_contacts.proofs.Steps.{made_more}
use Rattle.mailmap_contacts.proofs.Sums.{same_more}
use Rattle.mailmap_contacts.proofs.counter.ContactCounter.into_contacts.Goals as goal

pub loop-slot-preserved : goal.loop-slot-preserved
loop-slot-preserved c =
    let begun = c.self.inside.contacts.tallies in
    let slot = c.in-Some.slot in
    let done = c.loop-slot.yielded in
    let added = c.in_ok-add_slot.ensures in (
      λ test. added.tallies test
          ∙ same_more c.loop-slot.contacts.tallies (begun ++ flat_map slot_tally done) (slot_tally slot) (slot_tally slot) c.loop-slot.invariant.0 (λ other. refl) test
          ∙ ap (seen_where test) (append_assoc begun (flat_map slot_tally done) (slot_tally slot) ∙ ap (λ l. begun ++ l) (sym (made_more slot_tally done _ slot refl))),
      added.lines_without_contact ∙ c.loop-slot.invariant.1,
    )
