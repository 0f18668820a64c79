use Rattle.std.proofs.Common.{rules, ◌≡◌, ◌∙◌, ◌++◌, ◌∷◌, [], None, Some, ap, append_assoc, refl, sym, true}
use Rattle.std.specs.Prelude.{if◌then◌else◌}
use Rattle.std.proofs.lemmas.Result.{on_ok_weaker}
use Rattle.mailmap_grammar.specs.Trimming.{trim}
use Rattle.mailmap_contacts.specs.Contacts.{has_text, raw_contact, raw_line_tally, seen_where, tally_on, unless_contact}
use Rattle.mailmap_contacts.specs.Counts.{slot_tally}
use Rattle.mailmap_contacts.specs.declared.counter.Slot.{Slot}
use Rattle.mailmap_contacts.proofs.Counting.{line_moved, slot_moved}
use Rattle.mailmap_contacts.proofs.RawContacts.{with_contact, without_contact}
use Rattle.mailmap_contacts.proofs.Sums.{same_more}
use Rattle.mailmap_contacts.proofs.counter.Contacts.add_line.Goals as goal

pub returns-then-count_again-clause-tallies : goal.returns-then-count_again-clause-tallies
returns-then-count_again-clause-tallies c = search (rules, append_assoc, same_more, c.if-count_again.ensures.again)

pub returns-then-line-gt-LONGEST-clause-tallies : goal.returns-then-line-gt-LONGEST-clause-tallies
returns-then-line-gt-LONGEST-clause-tallies c =
    let line = c.args.line.now in
    let new = c.add_contact.new.self.tallies in
    let is = ap (λ p. tally_on p c.once_on-seen.result) c.in-Some.ensures
    ∙ ap (tally_on (raw_contact line)) c.once_on-seen.ensures in
    on_ok_weaker c.add_contact.result
    (λ same test. ap (λ s. seen_where test (new ++ slot_tally s)) (c.if-count_again.ensures.other refl)
    ∙ line_moved c.args.self.now.tallies new (slot_tally c.args.slot.now) _
    (raw_line_tally c.args.number line) is same test) c.add_contact.ensures.tallies

pub returns-clause-tallies : goal.returns-clause-tallies
returns-clause-tallies c =
    let put : slot_tally c.replace-before.new.dest ≡ raw_line_tally c.args.number c.args.line.now =
    ap slot_tally c.replace-before.ensures.after
    ∙ (λ i. tally_on (raw_contact (c.in_ok-line.ensures.items i)) (c.once_on-seen.ensures i)) in
    let before = ap slot_tally (c.replace-before.ensures.value ∙ c.if-count_again.ensures.other refl) in
    on_ok_weaker c.add_slot.result
    (λ same. slot_moved c.args.self.now.tallies c.add_slot.new.self.tallies (slot_tally c.args.slot.now)
    (slot_tally c.replace-before.result)
    (slot_tally c.replace-before.new.dest) (raw_line_tally c.args.number c.args.line.now) before put same)
    c.add_slot.ensures.tallies

pub returns-then-line-gt-LONGEST-clause-lines_without_contact : goal.returns-then-line-gt-LONGEST-clause-lines_without_contact
returns-then-line-gt-LONGEST-clause-lines_without_contact c = λ slotted.
    let line = c.args.line.now in
    let is : raw_contact line ≡ Some (record { name = c.in-Some.name.now; email = c.in-Some.email.now }) = search rules in
    on_ok_weaker c.add_contact.result (λ added. c.add_contact.ensures.lines_without_contact
    ∙ with_contact c.args.number line _ c.args.self.now.lines_without_contact is) c.add_contact.ensures.tallies

pub returns-clause-lines_without_contact : goal.returns-clause-lines_without_contact
returns-clause-lines_without_contact c = λ slotted.
    let line = c.args.line.now in
    let is : raw_contact line ≡ Some (record { name = c.in-Some.name.now; email = c.in-Some.email.now }) = search rules in
    on_ok_weaker c.add_slot.result (λ added. c.add_slot.ensures.lines_without_contact
    ∙ with_contact c.args.number line _ c.args.self.now.lines_without_contact is) c.add_slot.ensures.tallies

pub returns-in_ok-push-clause-lines_without_contact : goal.returns-in_ok-push-clause-lines_without_contact
returns-in_ok-push-clause-lines_without_contact c = λ slotted.
    let line = c.args.line.now in
    let n = c.args.number in
    let is : raw_contact line ≡ None = search rules in
    let some : has_text (trim line) ≡ true = search rules in
    c.in_ok-push.ensures.items ∙ ap (λ s. s.lines_without_contact ++ n ∷ []) c.self.view_is
    ∙ ap (λ b. c.args.self.now.lines_without_contact ++ (if b then n ∷ [] else [])) (sym some)
    ∙ without_contact n line c.args.self.now.lines_without_contact is

pub returns-clause-contact : goal.returns-clause-contact
returns-clause-contact c = λ slotted n.
    let line = c.args.line.now in
    let is : raw_contact line ≡ Some (record { name = c.in-Some.name.now; email = c.in-Some.email.now }) = search rules in
    ap (λ (s : Slot). unless_contact n s.line.items) c.replace-before.ensures.after ∙ ap (unless_contact n) c.in_ok-line.ensures.items
    ∙ sym (with_contact n line _ [] is)
