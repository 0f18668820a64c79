use Rattle.std.proofs.Common.{◌∙◌, ap, filter, map, not}
use Rattle.mailmap_contacts.specs.Answers.{tally_of}
use Rattle.mailmap_suggestions.specs.GroupEntries.{are_alike, contacts}
use Rattle.mailmap_suggestions.specs.Private.{grouped, keyed_of, text_of}
use Rattle.mailmap_suggestions.proofs.Forms.{class_groups}
use Rattle.mailmap_suggestions.proofs.groups.groups_by_class.Goals as goal

pub returns : goal.returns
returns c = λ class are.
    let h = c.args.answers.now in
    let ts = map tally_of c.args.contacts.now in
    c.keep_unlike.ensures
    ∙ ap (filter (λ g. not (are_alike h (contacts g))))
    (c.in_ok-groups.ensures ∙ ap (λ l. grouped (map keyed_of l)) c.deref.ensures.value ∙ ap grouped (c.in_ok-by_class.ensures (text_of class h) are) ∙ class_groups class h ts)
