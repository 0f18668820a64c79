-- The calls on a handle.
use Rattle.std.specs.Prelude.{◌≡◌, ◌≢◌, ◌⊎◌, ℕ, Bool, true, false, List, [], ◌∷◌, Option, Some, None}
use Rattle.std.specs.List.{All}
use Rattle.mailmap_entries.specs.Building.{IsMerged}
use Rattle.mailmap_entries.specs.Entries.{Mapping, mapping}
use Rattle.mailmap_entries.specs.Folding.{Text}
use Rattle.mailmap_entries.specs.Semantics.{accepted}
use Rattle.mailmap_grammar.specs.CanonicalText.{IsWritable, canonical_text}
use Rattle.mailmap_grammar.specs.Lines.{non_empty}
use Rattle.mailmap_snapshot.specs.Writing.{IsFirstUnwritable}
use Rattle.gix_mailmap_c.specs.Buffers.{IsOutput}
use Rattle.gix_mailmap_c.specs.Streamed.{Pending, HasTakenOf, ended}
use Rattle.gix_mailmap_c.specs.declared.held.Content.{Content}
use Rattle.gix_mailmap_c.specs.declared.held.Content.TheVariants.{Mailmap, Stream}
use Rattle.gix_mailmap_c.specs.declared.held.Handle.{Handle}
use Rattle.gix_mailmap_c.specs.declared.status.TheConstants.{NOT_AN_ENTRY, OK, OPEN, OUT_OF_MEMORY, UNWRITABLE}

abbrev pub if_open : Bool → Content → Option Content
if_open true content = Some content
if_open false content = None

-- the content of an open handle
abbrev pub content_of : Handle → Option Content
content_of h = if_open h.is_open h.content

abbrev pub listing_in : Option Content → Option (List Mapping)
listing_in (Some (Mailmap n)) = Some n
listing_in (Some (Stream p)) = None
listing_in None = None

-- the listing of the snapshot in an open handle
abbrev pub handle_listing : Handle → Option (List Mapping)
handle_listing h = listing_in (content_of h)

-- the content is a mailmap or a stream, as the first argument says, with the property P
abbrev pub Holds : {X : Type 0} → (X → Content) → (X → Type 0) → Option Content → Type 0
Holds {X} holding P content = (x : X) × (content ≡ Some (holding x)) × P x

-- the call returns this status and leaves the handle unchanged
abbrev pub LeavesHandle : ℕ → Option Content → Option Content → ℕ → Type 0
LeavesHandle code old new status = (status ≡ code) × (new ≡ old)

-- the closed handle is opened with a content that has the property P; otherwise the handle is unchanged
abbrev pub Opens : {X : Type 0} → (X → Content) → (X → Type 0) → Option Content → Option Content → ℕ → Type 0
Opens holding P (Some content) new status = LeavesHandle OPEN (Some content) new status
Opens holding P None new status = ((status ≡ OK) × Holds holding P new) ⊎ LeavesHandle OUT_OF_MEMORY None new status

-- a text's entries are merged after those of the mailmap; only an accepted one takes memory
abbrev pub Adds : List Mapping → List Mapping → Option Content → ℕ → Type 0
Adds added n new status = ((status ≡ OK) × Holds Mailmap (IsMerged n added) new)
    ⊎ ((accepted added ≢ []) × LeavesHandle OUT_OF_MEMORY (Some (Mailmap n)) new status)

-- an entry needs a new name or a new email; with an old name, it needs a new email
abbrev pub if_entry : Option Text → Option Text → Option Text → Text → Option Mapping
if_entry None None old_name old_email = None
if_entry (Some name) None (Some old) old_email = None
if_entry (Some name) None None old_email = Some (mapping (Some name) None None old_email)
if_entry new_name (Some email) old_name old_email = Some (mapping new_name (Some email) old_name old_email)

-- the entry of four texts; all but the old email count as missing if they are empty
abbrev pub entry_given : Text → Text → Text → Text → Option Mapping
entry_given new_name new_email old_name old_email =
    if_entry (non_empty new_name) (non_empty new_email) (non_empty old_name) old_email

-- the entry, if there is one, is merged after those of the mailmap
abbrev pub AddsGiven : Option Mapping → List Mapping → Option Content → ℕ → Type 0
AddsGiven None n new status = LeavesHandle NOT_AN_ENTRY (Some (Mailmap n)) new status
AddsGiven (Some e) n new status =
    ((status ≡ OK) × Holds Mailmap (IsMerged n (e ∷ [])) new) ⊎ LeavesHandle OUT_OF_MEMORY (Some (Mailmap n)) new status

-- each entry fits on a line, and the text is written if it fits into the buffer, or the entry at this place is the first
-- that no line can hold, and the buffer is unchanged
abbrev pub Writes : List Mapping → Text → Text → ℕ → ℕ → Type 0
Writes n before after needed status =
    (All IsWritable n × IsOutput (λ bytes. bytes ≡ canonical_text n) before after needed status)
    ⊎ ((status ≡ UNWRITABLE) × IsFirstUnwritable n needed × (after ≡ before))

-- ---- streams

abbrev pub pending_in : Option Content → Option Pending
pending_in (Some (Mailmap n)) = None
pending_in (Some (Stream p)) = Some p
pending_in None = None

-- the state of the stream in an open handle
abbrev pub pending : Handle → Option Pending
pending h = pending_in (content_of h)

-- bytes are read from the front of the part; out of memory, none are
abbrev pub Pushes : Text → Pending → Option Content → ℕ → ℕ → Type 0
Pushes part p new taken status = ((status ≡ OK) × Holds Stream (HasTakenOf part taken p) new)
    ⊎ ((taken ≡ 0) × LeavesHandle OUT_OF_MEMORY (Some (Stream p)) new status)

-- the partial line is answered
abbrev pub Finishes : Pending → Option Content → ℕ → Type 0
Finishes p new status = ((status ≡ OK) × (new ≡ Some (Stream (ended p))))
    ⊎ LeavesHandle OUT_OF_MEMORY (Some (Stream p)) new status
