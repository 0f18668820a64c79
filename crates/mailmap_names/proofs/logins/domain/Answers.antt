use Rattle.std.proofs.Common.{◌∙◌, ◌+◌}
use Rattle.std.proofs.lemmas.List.{take_rest}
use Rattle.mailmap_names.proofs.Emails.{domain_found, domain_none}
use Rattle.mailmap_names.proofs.logins.domain.Goals as goal

pub returns-in-Some : goal.returns-in-Some
returns-in-Some c = take_rest c.args.email.now (c.in-Some.at + 1) ∙ domain_found c.args.email.now c.in-Some.at c.in-Some.ensures

pub returns-in-None : goal.returns-in-None
returns-in-None c = domain_none c.args.email.now c.in-None.ensures
