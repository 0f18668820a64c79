use Rattle.std.proofs.Common.{◌∙◌, ap, map, sym}
use Rattle.std.specs.Option.{option_copied}
use Rattle.mailmap_suggestions.proofs.FirstLogin.{contact_more, contact_skipped}
use Rattle.mailmap_suggestions.proofs.links.LoginKeys.with_contact_logins.Goals as goal
use Rattle.mailmap_suggestions.proofs.links.LoginKeys.with_contact_logins.Goals.{then-is_missing+in_ok-login, else-is_missing}

pub loop-member-preserved : goal.loop-member-preserved
loop-member-preserved c = λ h ts are.
    let found = c.loop-member.found.items in
    let start = map option_copied c.args.own.items in
    let k = c.loop-member.member-index in
    elim c.if-is_missing.branch [
      | then-is_missing+in_ok-login w ↦
          contact_more c.args.shared.now h ts c.args.group.now k _ start c.deref.result.now found c.if-is_missing.found.items w.in_ok-login.login c.loop-member-test.true (c.loop-member.invariant h ts are) c.deref.ensures.value
          (sym c.is_missing.ensures ∙ w.if-is_missing.true) (w.in_ok-login.ensures h ts are) (ap (λ v. v.items) w.found-is)
      | else-is_missing w ↦
          ap (λ v. map option_copied v.items) w.found-is
          ∙ contact_skipped c.args.shared.now h ts c.args.group.now k _ start c.deref.result.now found c.loop-member-test.true (c.loop-member.invariant h ts are) c.deref.ensures.value
          (sym c.is_missing.ensures ∙ w.if-is_missing.false)
    ]
