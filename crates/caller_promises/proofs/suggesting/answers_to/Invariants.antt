-- The answers so far.
use Rattle.std.proofs.Common.{◌≡◌, List, map, take}
use Rattle.gix_mailmap.specs.Entries.{Mapping}
use Rattle.gix_mailmap.specs.Semantics.{IsNormal}
use Rattle.gix_mailmap.specs.Counts.{tally_of}
use Rattle.gix_mailmap.specs.CountedContacts.{answer_to}
use Rattle.caller_promises.specs.Suggested.{contact_in}
use Rattle.caller_promises.proofs.suggesting.answers_to.Given as goal

abbrev pub invariant-loop-contact : goal.invariant-loop-contact
invariant-loop-contact l = (h : List Mapping) → IsNormal h l.snapshot
    → map contact_in l.answers.items ≡ map (λ t. answer_to h (tally_of t).contact) (take l.contact-index l.contact-items)
