use Rattle.std.proofs.Common.{rules, ◌≡◌, ◌∙◌, ◌+◌, ◌<◌, ◌++◌, ap, arith, bit_and, get_or, length}
use Rattle.std.proofs.lemmas.Nat.{and_le_r}
use Rattle.mailmap_contacts.specs.Contacts.{raw_line_tally, seen_where, unless_contact}
use Rattle.mailmap_contacts.proofs.Counting.{counted_line, slot_changed, slot_line}
use Rattle.mailmap_contacts.proofs.counter.ContactCounter.add_line.Goals as goal

pub returns : goal.returns
returns c =
    let line = c.args.line.now in
    let cs = c.self.inside.contacts in
    let slots = c.self.inside.slots.items in
    let i = bit_and c.hash_of.result 16383 in
    let slot = c.index_mut-slot.result.now in
    let within : i < length slots = omega (arith, and_le_r c.hash_of.result 16383, c.self.invariant.1) in
    let there : get_or slots i slot ≡ slot = search rules in
    let is : c.in-Some.number ≡ c.args.self.now.lines + 1 = c.in-Some.ensures.1
    ∙ ap (λ s. s.lines + 1) c.self.view_is in
    let added = c.in_ok-add_line.ensures in
    λ lines counted. counted_line lines line c.args.self.now _ counted is (λ test.
    slot_changed cs.tallies c.add_line.new.self.tallies slots i c.add_line.new.slot slot
    (raw_line_tally c.in-Some.number line) within there added.tallies test
    ∙ (λ j. seen_where test ((c.self.view_is j).contacts.tallies ++ raw_line_tally (is j) line)))
    (added.lines_without_contact (slot_line slots i slot within there c.self.invariant.0)
    ∙ (λ j. (c.self.view_is j).contacts.lines_without_contact ++ unless_contact (is j) line))
