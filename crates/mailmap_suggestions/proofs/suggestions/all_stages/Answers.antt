use Rattle.std.proofs.Common.{◌∙◌, ap, map}
use Rattle.mailmap_contacts.specs.Answers.{tally_of}
use Rattle.mailmap_suggestions.specs.Stages.{added}
use Rattle.mailmap_suggestions.specs.Views.{suggestion_of}
use Rattle.mailmap_suggestions.proofs.Staged.{staged}
use Rattle.mailmap_suggestions.proofs.suggestions.all_stages.Goals as goal

pub returns : goal.returns
returns c = λ lines are.
    let h = c.args.histories in
    let later = c.in_ok-push_later.ensures lines are in
    staged c.args.shared.now lines h c.add_entries.new.histories (map tally_of c.args.contacts.now)
    (map suggestion_of c.in_ok-found.found.items) later.0 later.1 (map suggestion_of c.push_later.new.found.items)
    c.in_ok-found.ensures (c.in_ok-add_entries.ensures ∙ ap (λ l. added h (map suggestion_of l)) c.as_slice.ensures.value) later.2 later.3 later.4
