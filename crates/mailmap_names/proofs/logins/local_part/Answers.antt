use Rattle.mailmap_names.proofs.Emails.{local_part_found, local_part_none}
use Rattle.mailmap_names.proofs.logins.local_part.Goals as goal

pub returns-in-Some : goal.returns-in-Some
returns-in-Some c = local_part_found c.args.email.now c.in-Some.at c.in-Some.ensures

pub returns-in-None : goal.returns-in-None
returns-in-None c = local_part_none c.args.email.now c.in-None.ensures
