-- Resolved signatures: three fields, of which a mailmap can change two.
use Rattle.std.specs.Prelude.{◌≡◌, List, Option, unwrap_or, MatchOption}
use Rattle.std.specs.Cow.{IsOwnedSlice, IsBorrowedSlice}
use Rattle.mailmap_entries.specs.Entries.{Mapping}
use Rattle.mailmap_snapshot.specs.SignatureFields.{SignatureFields}
use Rattle.mailmap_snapshot.specs.Times.{IsTimeOf}
use Rattle.mailmap_snapshot.specs.declared.actor.SignatureRef.{SignatureRef}
use Rattle.mailmap_snapshot.specs.declared.snapshot.cow.Signature.{Signature}
use Rattle.mailmap_entries.specs.Semantics.{Fields, fields_for, answer_of}

-- the fields that replace a signature's name and email, if there are any
abbrev pub signature_answer : List Mapping → SignatureRef → Option Fields
signature_answer h signature = answer_of h signature.name.now signature.email.now

-- a signature with the fields that are there in place of its own, and its time
pub record IsEnriched (new : Fields) (signature : SignatureRef) (answer : SignatureFields) : Type 0 where
  pub name : answer.name ≡ unwrap_or new.name signature.name.now
  pub email : answer.email ≡ unwrap_or new.email signature.email.now
  pub time : IsTimeOf signature.time.now answer.time

-- texts for which there is a field are owned, the others borrowed
pub record OwnsJust (new : Fields) (answer : Signature) : Type 0 where
  pub name : MatchOption new.name (IsBorrowedSlice answer.name) (λ _. IsOwnedSlice answer.name)
  pub email : MatchOption new.email (IsBorrowedSlice answer.email) (λ _. IsOwnedSlice answer.email)

-- the answer of mappings to a signature: mapped fields are replaced, the others stay, and the time is parsed
abbrev pub IsResolved : List Mapping → SignatureRef → SignatureFields → Type 0
IsResolved h signature answer = IsEnriched (fields_for h signature.name.now signature.email.now) signature answer

-- exactly the mapped texts are owned
abbrev pub OwnsMapped : List Mapping → SignatureRef → Signature → Type 0
OwnsMapped h signature answer = OwnsJust (fields_for h signature.name.now signature.email.now) answer
