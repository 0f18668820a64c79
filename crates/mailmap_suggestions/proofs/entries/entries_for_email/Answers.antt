use Rattle.std.proofs.Common.{◌∙◌, ◌++◌, ◌∷◌, [], ap, map, sym}
use Rattle.std.proofs.lemmas.List.{map-append}
use Rattle.mailmap_entries.specs.Entries.{mapping_of}
use Rattle.mailmap_contacts.specs.Answers.{tally_of}
use Rattle.mailmap_suggestions.proofs.Forms.{begun, none_pushed, one_pushed, unowned_email}
use Rattle.mailmap_suggestions.proofs.entries.entries_for_email.Goals as goal

pub plain_entry-plain-requires : goal.plain_entry-plain-requires
plain_entry-plain-requires c =
    (c.requires.0, (unowned_email c.args.shared.now c.args.answers.now c.requires.0 c.args.contacts.now c.deref.result.now (c.deref.ensures.value ∙ c.in_ok-plain_contacts.ensures) c.requires.1).0)

pub loop-contact-init : goal.loop-contact-init
loop-contact-init c =
    let to = (tally_of c.args.to.now).contact in
    begun c.args.shared.now c.args.answers.now to c.requires.0 c.args.contacts.now c.deref.result.now c.plain_entry-plain.result c.in_ok-entries.entries.items c.as_slice.result.now c.new-changes.result
    (c.deref.ensures.value ∙ c.in_ok-plain_contacts.ensures) c.requires.1 c.plain_entry-plain.ensures c.in_ok-entries.ensures.items c.as_slice.ensures (c.new-changes.ensures to c.requires.0)

pub loop-contact-preserved-then-are_enough : goal.loop-contact-preserved-then-are_enough
loop-contact-preserved-then-are_enough c =
    none_pushed c.args.answers.now (tally_of c.args.to.now).contact _ c.args.contacts.now c.loop-contact.contact-index _ c.loop-contact-test.true _ c.loop-contact.changes
    c.loop-contact.invariant (sym c.are_enough.ensures ∙ c.if-are_enough.true)

pub loop-contact-preserved : goal.loop-contact-preserved
loop-contact-preserved c =
    let to = (tally_of c.args.to.now).contact in
    let added = map mapping_of c.loop-contact.entries.items in
    one_pushed c.args.answers.now to _ c.args.contacts.now c.loop-contact.contact-index _ c.loop-contact-test.true added c.loop-contact.changes
    c.loop-contact.invariant (sym c.are_enough.ensures ∙ c.if-are_enough.false) (map mapping_of c.push.new.self.items)
    (ap (map mapping_of) c.in_ok-push.ensures.items ∙ map-append mapping_of c.loop-contact.entries.items (c.named_form.result ∷ []) ∙ ap (λ m. added ++ m ∷ []) c.named_form.ensures)
    c.add_name.new.self (c.in_ok-add_name.ensures to added)
