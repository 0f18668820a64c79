use Rattle.std.proofs.Common.{Some, ap}
use Rattle.mailmap_entries.specs.Entries.{mapping_of}
use Rattle.mailmap_suggestions.proofs.Changed.{changes_plain}
use Rattle.mailmap_suggestions.proofs.changes.Changes.new.Goals as goal

pub returns : goal.returns
returns c = λ to email all.
    rw c.in-Some.is (changes_plain to email (mapping_of c.in-Some.plain) _ (rw c.in-Some.is at all).0 c.new-names.ensures.empty
    (λ i. record { name = c.new_name-name.ensures i; email = c.new_email-email.ensures i }) (ap (λ t. Some t) c.old_email.ensures))
