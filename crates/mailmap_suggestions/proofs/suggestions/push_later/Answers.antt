use Rattle.std.proofs.Common.{◌∙◌, ◌++◌, ap, flat_map, map, subst}
use Rattle.mailmap_contacts.specs.Answers.{tally_of}
use Rattle.mailmap_suggestions.specs.Stages.{AreByLogin, AreByName, added}
use Rattle.mailmap_suggestions.specs.Suggestions.{still_suggested}
use Rattle.mailmap_suggestions.specs.Views.{suggestion_of}
use Rattle.mailmap_suggestions.proofs.suggestions.push_later.Goals as goal

pub returns : goal.returns
returns c = λ lines are.
    let shared = c.args.shared.now in
    let h = c.args.histories.now in
    let ts = map tally_of c.args.contacts.now in
    let names = map suggestion_of c.in_ok-by_name.by_name.items in
    let logins = map suggestion_of c.in_ok-by_login.by_login.items in (
      names,
      logins,
      subst (λ g. AreByName shared ts g names) c.in_ok-answers.ensures c.in_ok-by_name.ensures,
      subst (λ g. AreByLogin shared ts g (added h names) logins) c.in_ok-answers.ensures
          (subst (λ l. AreByLogin shared ts c.in_ok-answers.answers (added h (map suggestion_of l)) logins) c.as_slice.ensures.value c.in_ok-by_login.ensures),
      c.in_ok-push_new-2.ensures lines are ∙ ap (λ l. l ++ flat_map (still_suggested lines) logins) (c.in_ok-push_new.ensures lines are),
    )
