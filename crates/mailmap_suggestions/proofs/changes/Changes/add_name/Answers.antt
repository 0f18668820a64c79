use Rattle.std.proofs.Common.{◌∙◌, ap, option_copied, refl}
use Rattle.mailmap_contacts.specs.Answers.{tally_of}
use Rattle.mailmap_contacts.specs.declared.folded.Folded.{Folded}
use Rattle.mailmap_suggestions.proofs.Changed.{changes_named, spelled_or}
use Rattle.mailmap_suggestions.proofs.changes.Changes.add_name.Goals as goal

pub returns : goal.returns
returns c = λ to added before.
    let key : Folded = record { text = c.args.contact.now.name } in
    changes_named to (tally_of c.args.contact.now).contact added c.args.self.now _ key refl before c.in_ok-insert.ensures.updates.0 refl
    (ap option_copied c.or-self.ensures ∙ spelled_or c.args.self.now.spelling c.args.contact.now.email)
