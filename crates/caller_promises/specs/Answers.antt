-- A snapshot's answers to a signature, by the entries that it was built from.
use Rattle.std.specs.Prelude.{◌≡◌, ◌≤◌, ◌+◌, ◌↔◌, List, None, IfSome, min, option_map}
use Rattle.gix_mailmap.specs.Answers.{IsResolved, OwnsMapped, signature_answer}
use Rattle.gix_mailmap.specs.Entries.{Mapping}
use Rattle.gix_mailmap.specs.Search.{digits}
use Rattle.gix_mailmap.specs.SignatureFields.{cow_fields, owned_fields}
use Rattle.gix_mailmap.specs.Signatures.{email_count, name_count, resolved_fields}
use Rattle.mailmap_snapshot.specs.declared.actor.SignatureRef.{SignatureRef}
use Rattle.caller_promises.specs.declared.answers.Lookups.{Lookups}
use Rattle.caller_promises.specs.declared.answers.Signatures.{Signatures}

-- The lookups answer as a scan of the entries h. The counted lookup makes at most as many comparisons as the number of
-- emails in the listing n and the number of names for this one have binary digits together, and at least one for each
-- of the two numbers that isn't 0.
pub record AreLookups (h n : List Mapping) (signature : SignatureRef) (l : Lookups) : Type 0 where
  pub found : option_map resolved_fields l.found ≡ signature_answer h signature
  pub of_contact : option_map resolved_fields l.of_contact ≡ signature_answer h signature
  pub counted : option_map resolved_fields l.counted ≡ signature_answer h signature
  pub at_most : l.comparisons ≤ digits (email_count n) + digits (name_count n signature.email.now)
  pub at_least : min 1 (email_count n) + min 1 (name_count n signature.email.now) ≤ l.comparisons

-- In each signature, what the entries h map is replaced, and the rest is kept. In the signature that is copied on
-- write, only what they map is owned.
pub record AreSignatures (h : List Mapping) (signature : SignatureRef) (s : Signatures) : Type 0 where
  pub unchanged : (s.changed ≡ None) ↔ (signature_answer h signature ≡ None)
  pub changed : IfSome s.changed (λ c. IsResolved h signature (owned_fields c))
  pub owned : IsResolved h signature (owned_fields s.owned)
  pub copied_on_write : IsResolved h signature (cow_fields s.copied_on_write)
  pub owns_mapped : OwnsMapped h signature s.copied_on_write
