use Rattle.std.proofs.Common.{ap, map, subst, sym}
use Rattle.mailmap_contacts.specs.Answers.{tally_of}
use Rattle.mailmap_suggestions.specs.LinkViews.{AreMembers}
use Rattle.mailmap_suggestions.specs.Suggestions.{by_login}
use Rattle.mailmap_suggestions.proofs.suggestions.login_kind.Goals as goal

pub returns : goal.returns
returns c = λ ts keys whole.
    let h = c.args.answers.now in
    let g = map tally_of c.args.group.now in
    let are = subst (AreMembers h g) (sym c.as_slice.ensures.value) c.in_ok-members.ensures in
    ap by_login (c.in_ok-login.ensures h ts g keys are whole)
