use Rattle.mailmap_suggestions.proofs.Selections.{needs_emails, needs_logins, needs_names}
use Rattle.mailmap_suggestions.proofs.laws.law_each_needed.Goals as goal

pub returns : goal.returns
returns c = record { emails = needs_emails; names = needs_names; logins = needs_logins }
