use Rattle.std.proofs.Common.{None}
use Rattle.std.proofs.lemmas.List.{get_or_default}
use Rattle.mailmap_suggestions.proofs.FirstLogin.{found_here}
use Rattle.mailmap_suggestions.proofs.links.first_found.Goals as goal

pub returns-in-Some : goal.returns-in-Some
returns-in-Some c =
    let k = c.loop-login.login-index in
    found_here c.args.found.now k _ c.in-Some.login c.loop-login.invariant c.loop-login-test.true (get_or_default c.args.found.now k None _ c.loop-login-test.true) c.in-Some.is
