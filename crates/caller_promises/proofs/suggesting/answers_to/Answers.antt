use Rattle.std.proofs.Common.{◌∙◌, ap, arith, map, sym, take_all}
use Rattle.std.proofs.lemmas.Simd.{map-map}
use Rattle.gix_mailmap.specs.Counts.{tally_of}
use Rattle.gix_mailmap.specs.CountedContacts.{answer_to}
use Rattle.caller_promises.proofs.suggesting.answers_to.Goals as goal

pub returns : goal.returns
returns c = λ h lines normal are.
    let items = c.deref-contact-items.result.now in
    let all = rw (take_all c.loop-contact.contact-index items (omega arith)) at (c.loop-contact.invariant h normal) in
    all ∙ sym (map-map (λ t. answer_to h t.contact) tally_of items)
    ∙ ap (map (λ t. answer_to h t.contact)) (ap (map tally_of) c.deref-contact-items.ensures.value ∙ c.in_ok-contacts.ensures lines are)
