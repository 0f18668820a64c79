use Rattle.std.proofs.Common.{IfOk, subst}
use Rattle.mailmap_findings.specs.Needs.{AreUnneeded}
use Rattle.mailmap_findings.proofs.needs.unneeded.Goals as goal

pub returns : goal.returns
returns c =
    subst (λ ms. IfOk c.unneeded_in.result (λ found. AreUnneeded ms c.args.contacts.now found.items)) c.in_ok-mailmaps.ensures c.unneeded_in.ensures
