use Rattle.std.proofs.Common.{◌∙◌, ◌++◌, ap, append-nil, flat_map, map, subst, sym}
use Rattle.std.specs.List.{All}
use Rattle.std.proofs.lemmas.List.{at_drop_all}
use Rattle.mailmap_entries.specs.Entries.{mapping_of}
use Rattle.mailmap_contacts.specs.Answers.{tally_of}
use Rattle.mailmap_suggestions.specs.GroupEntries.{contacts}
use Rattle.mailmap_suggestions.specs.Private.{HaveOneEmail, IsPart, contacts_of, tallies_in}
use Rattle.mailmap_suggestions.proofs.Forms.{part_entries, parts_whole}
use Rattle.mailmap_suggestions.proofs.entries.entries_to.Goals as goal

pub entries_for_email-requires : goal.entries_for_email-requires
entries_for_email-requires c =
    let each = subst (All IsPart) (sym c.deref-part-items.ensures.value) c.in_ok-by_old_email.ensures.each in
    subst (λ l. HaveOneEmail (contacts_of l)) (sym c.deref.ensures.value) (subst IsPart (sym c.part-item.is) (each c.loop-part.part-index c.part-item.result c.loop-part-test.true))

pub returns : goal.returns
returns c =
    let shared = c.args.shared.now in
    let h = c.args.answers.now in
    let to = (tally_of c.args.to.now).contact in
    let parts = c.deref-part-items.result.now in
    let entries = map mapping_of c.loop-part.entries.items in
    sym (append-nil entries) ∙ ap (λ l. entries ++ l) (sym (at_drop_all (flat_map (part_entries shared h to)) parts c.loop-part.part-index c.loop-part-test.false)) ∙ c.loop-part.invariant
    ∙ parts_whole shared h to (contacts_of c.args.group.now) parts (ap (map (λ p. contacts (tallies_in p))) c.deref-part-items.ensures.value ∙ c.in_ok-by_old_email.ensures.whole)
