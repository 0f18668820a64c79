use Rattle.std.proofs.Common.{◌∙◌, ◌++◌, ap, map}
use Rattle.mailmap_contacts.specs.Answers.{tally_of}
use Rattle.mailmap_suggestions.specs.Shared.{answers_with_email, emails_of_several, shared_emails, without_old_names}
use Rattle.mailmap_suggestions.specs.SharedViews.{folded_texts}
use Rattle.mailmap_suggestions.proofs.shared.SharedEmails.read.Goals as goal

pub returns : goal.returns
unfolding shared_emails
returns c =
    let ts = map tally_of c.args.contacts.now in
    let ours = c.histories.inside.ours in
    let once = c.in_ok-push_shared.ensures ∙ ap (λ l. folded_texts l ++ emails_of_several (answers_with_email ours ts)) c.new-listed.ensures.items in
    c.in_ok-push_without_names.ensures
    ∙ ap (λ l. l ++ emails_of_several (answers_with_email (without_old_names ours) ts)) once
    ∙ ap (λ h. shared_emails h ts) c.histories.view_is
