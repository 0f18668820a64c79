use Rattle.std.proofs.lemmas.List.{take_rest}
use Rattle.mailmap_names.proofs.Emails.{tag_found, tag_none}
use Rattle.mailmap_names.proofs.logins.without_tag.Goals as goal

pub returns-in-Some : goal.returns-in-Some
returns-in-Some c = tag_found c.args.local.now _ c.in-Some.plus c.in-len1-up.len_at_least (take_rest c.args.local.now 1) c.in-Some.ensures

pub returns-in-None : goal.returns-in-None
returns-in-None c = tag_none c.args.local.now _ (take_rest c.args.local.now 1) c.in-None.ensures
