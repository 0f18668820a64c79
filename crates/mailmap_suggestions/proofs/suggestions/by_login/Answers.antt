use Rattle.std.proofs.Common.{◌∙◌, ap, map, subst}
use Rattle.std.specs.Prelude.{IfOk}
use Rattle.mailmap_contacts.specs.Answers.{tally_of}
use Rattle.mailmap_suggestions.specs.Stages.{AreByLogin, added}
use Rattle.mailmap_suggestions.specs.Views.{suggestion_of}
use Rattle.mailmap_suggestions.proofs.suggestions.by_login.Goals as goal

pub returns : goal.returns
returns c =
    let ts = map tally_of c.args.contacts.now in
    let all = c.in_ok-answers.ensures ∙ c.in_ok-add_entries.ensures ∙ ap (λ h. added h (map suggestion_of c.args.by_name.now)) c.in_ok-all.ensures in
    subst (λ a. IfOk c.suggest_by_login.result (λ found. AreByLogin c.args.shared.now ts c.args.base.now a (map suggestion_of found.items))) all c.suggest_by_login.ensures
