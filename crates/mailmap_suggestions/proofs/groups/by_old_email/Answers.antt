use Rattle.std.proofs.Common.{◌∙◌, ap, map, sym, take_all}
use Rattle.std.proofs.lemmas.Result.{IfOk-weaker}
use Rattle.std.proofs.lemmas.Simd.{map-map}
use Rattle.mailmap_entries.specs.Folding.{folded}
use Rattle.mailmap_contacts.specs.Answers.{tally_of}
use Rattle.mailmap_suggestions.specs.GroupEntries.{contacts}
use Rattle.mailmap_suggestions.specs.Private.{contacts_of, grouped, keyed_by, keyed_of, tallies_in}
use Rattle.mailmap_suggestions.proofs.Forms.{are_parts, email_groups}
use Rattle.mailmap_suggestions.proofs.groups.by_old_email.Goals as goal

pub returns : goal.returns
returns c =
    let group = c.args.group.now in
    let keyed = ap (map keyed_of) c.deref.ensures.value ∙ c.loop-contact.invariant
    ∙ ap (λ l. keyed_by (λ t. folded t.contact.email) (map tally_of l)) (take_all c.loop-contact.contact-index group c.loop-contact-test.false) in
    let whole = IfOk-weaker c.grouped.result _ _
    (λ parts is. sym (map-map contacts tallies_in parts.items) ∙ ap (map contacts) (is ∙ ap grouped keyed) ∙ email_groups (map tally_of group))
    c.grouped.ensures in
    record { whole = whole; each = IfOk-weaker c.grouped.result _ _ (λ parts is. are_parts (contacts_of group) parts.items is) whole }
