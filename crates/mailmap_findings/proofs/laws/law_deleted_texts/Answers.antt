use Rattle.mailmap_findings.proofs.ContactNeeds.{answered_left, entries_from, listing_left}
use Rattle.mailmap_findings.proofs.laws.law_deleted_texts.Goals as goal

pub returns : goal.returns
returns c = record { entries = λ is_left. entries_from is_left 0; listing = listing_left; contacts = answered_left }
