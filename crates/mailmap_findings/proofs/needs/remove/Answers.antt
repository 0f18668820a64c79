use Rattle.std.proofs.Common.{◌≡◌, None, Some, rules, sym}
use Rattle.mailmap_findings.proofs.ContactNeeds.{filter_none, removed}
use Rattle.mailmap_findings.proofs.needs.remove.Goals as goal

pub returns-in-Some : goal.returns-in-Some
returns-in-Some c =
    let some : c.args.position ≡ Some c.in-Some.position = search rules in
    rw some (removed _ _ c.in-Some.position c.remove.ensures.keys c.remove.ensures.updates.1)

pub returns-in_default : goal.returns-in_default
returns-in_default c =
    let nothing : c.args.position ≡ None = search rules in rw nothing (sym (filter_none c.args.left.now.keys))
