use Rattle.mailmap_suggestions.proofs.United.{joined_by_email, others_stay, shared_stay, unites_emails}
use Rattle.mailmap_suggestions.proofs.laws.law_suggestions.Goals as goal

pub returns : goal.returns
returns c = record { emails = unites_emails; others = others_stay; at_shared = shared_stay; joined = joined_by_email }
