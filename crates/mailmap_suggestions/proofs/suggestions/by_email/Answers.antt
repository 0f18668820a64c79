use Rattle.std.proofs.Common.{◌≡◌, ◌∙◌, ap, map, subst}
use Rattle.std.specs.Prelude.{IfOk}
use Rattle.mailmap_contacts.specs.Answers.{tally_of}
use Rattle.mailmap_suggestions.specs.Private.{tallies_in}
use Rattle.mailmap_suggestions.specs.Suggestions.{email_key, email_suggestions}
use Rattle.mailmap_suggestions.specs.Views.{suggestion_of}
use Rattle.mailmap_suggestions.proofs.suggestions.by_email.Goals as goal

pub returns : goal.returns
returns c =
    let ts = map tally_of c.args.contacts.now in
    subst (λ h. IfOk c.suggest_for_each.result (λ found. map suggestion_of found.items ≡ email_suggestions c.args.shared.now h ts)) c.in_ok-answers.ensures
    (c.suggest_for_each.ensures ts email_key tt (ap (map tallies_in) c.deref.ensures.value ∙ c.in_ok-groups.ensures))
