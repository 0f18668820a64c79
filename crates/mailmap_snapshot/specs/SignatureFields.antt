-- The fields of signatures, independent of who owns the texts.
use Rattle.std.specs.Prelude.{◌≡◌, ◌++◌, ℕ, []}
use Rattle.std.specs.Cow.{cow_slice_items, IsOwnedSlice, IsBorrowedSlice}
use Rattle.std.specs.Hash as fed
use Rattle.std.specs.Ordering.{ordering_then}
use Rattle.std.specs.declared.alloc.Global.{Global}
use Rattle.std.specs.declared.borrow.CowSlice.{CowSlice}
use Rattle.std.specs.declared.cmp.Ordering.{Ordering}
use Rattle.mailmap_entries.specs.Folding.{Text, text_cmp}
use Rattle.mailmap_snapshot.specs.Times.{IsTimeOf, epoch, time_cmp}
use Rattle.mailmap_snapshot.specs.declared.actor.Signature as owned
use Rattle.mailmap_snapshot.specs.declared.actor.SignatureRef.{SignatureRef}
use Rattle.mailmap_snapshot.specs.declared.snapshot.cow.Signature.{Signature}
use Rattle.mailmap_snapshot.specs.declared.date.Time.{Time}

-- the name, the email and the time of a signature
pub record SignatureFields : Type 0 where
  pub name : Text
  pub email : Text
  pub time : Time

abbrev pub owned_fields : owned.Signature → SignatureFields
owned_fields s = record { name = s.name.items; email = s.email.items; time = s.time }

abbrev pub cow_fields : Signature → SignatureFields
cow_fields s = record { name = cow_slice_items s.name; email = cow_slice_items s.email; time = s.time }

-- two empty texts, and the epoch
abbrev pub empty_fields : SignatureFields
empty_fields = record { name = []; email = []; time = epoch }

-- by name, then email, then time; texts byte by byte, times by seconds and then offset
abbrev pub signature_cmp : SignatureFields → SignatureFields → Ordering
signature_cmp a b = ordering_then (text_cmp a.name b.name)
    (ordering_then (text_cmp a.email b.email) (time_cmp a.time b.time))

-- what a hasher gets
abbrev pub signature_writes : SignatureFields → fed.HashWrites
signature_writes s = fed.slice fed.u8 s.name ++ fed.slice fed.u8 s.email
    ++ (fed.i64 s.time.seconds ++ fed.i32 s.time.offset)

-- both texts are borrowed
pub record BorrowsBoth (s : Signature) : Type 0 where
  pub name : IsBorrowedSlice s.name
  pub email : IsBorrowedSlice s.email

-- a signature that borrows the texts of `from`, with its time
pub record BorrowsTextsOf (from : SignatureRef) (s : Signature) : Type 0 where
  pub borrowed : BorrowsBoth s
  pub name : cow_slice_items s.name ≡ from.name.now
  pub email : cow_slice_items s.email ≡ from.email.now
  pub time : IsTimeOf from.time.now s.time

-- b is owned if a is, and borrowed if a is
abbrev pub HasOwnershipOf : CowSlice ℕ Global → CowSlice ℕ Global → Type 0
HasOwnershipOf a b = (IsOwnedSlice a → IsOwnedSlice b) × (IsBorrowedSlice a → IsBorrowedSlice b)
