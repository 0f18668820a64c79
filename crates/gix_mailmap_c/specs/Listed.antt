-- Looking up and listing entries, and copying their texts.
use Rattle.std.specs.Prelude.{◌≡◌, ◌+◌, ◌<◌, ◌⊎◌, ◌++◌, ℕ, Option, Some, None, List, [], ◌∷◌, length, take, drop, is_some, unwrap_or}
use Rattle.std.specs.List.{flat_map}
use Rattle.mailmap_entries.specs.Entries.{Mapping}
use Rattle.mailmap_entries.specs.Folding.{Text}
use Rattle.gix_mailmap_c.specs.Buffers.{IsWrittenOrShort}
use Rattle.gix_mailmap_c.specs.declared.listing.Listed.{Listed}
use Rattle.gix_mailmap_c.specs.declared.lookup.Field.{Field}
use Rattle.gix_mailmap_c.specs.declared.status.TheConstants.{NO_ENTRY, OK, TOO_SHORT}

-- the length of a text, or of the other one that is used if it is missing, and whether it is there
abbrev pub field_of : Option Text → Text → Field
field_of t other = record { len = length (unwrap_or t other); is_given = is_some t }

-- a missing text is empty
abbrev pub text_or_empty : Option Text → Text
text_or_empty t = unwrap_or t []

-- the texts of an entry, one after another
abbrev pub entry_texts : Mapping → Text
entry_texts m = text_or_empty m.new_name ++ text_or_empty m.new_email ++ text_or_empty m.old_name ++ m.old_email

abbrev pub all_texts : List Mapping → Text
all_texts ms = flat_map entry_texts ms

-- an entry whose texts start at this offset
abbrev pub listed_at : ℕ → Mapping → Listed
listed_at start m = record {
  start = start;
  new_name = field_of m.new_name [];
  new_email = field_of m.new_email [];
  old_name = field_of m.old_name [];
  old_email = field_of (Some m.old_email) [];
}

-- entries whose texts follow one another from this offset on
abbrev pub all_listed : ℕ → List Mapping → List Listed
all_listed start [] = []
all_listed start (m ∷ ms) = listed_at start m ∷ all_listed (start + length (entry_texts m)) ms

-- a list is written at an index; what is before it and after its end is unchanged
pub record IsAfter {X : Type 0} (s : List X) (start : ℕ) (before after : List X) (end : ℕ) : Type 0 where
  pub until : end ≡ start + length s
  pub front : take end after ≡ take start before ++ s
  pub rest : drop end after ≡ drop end before

-- a list is at the front, and the rest is unchanged
abbrev pub over : {X : Type 0} → List X → List X → List X
over s before = s ++ drop (length s) before

-- all entries are listed, and their texts copied, or one of the buffers is too short, and both are unchanged
abbrev pub Lists : List Mapping → List Listed → List Listed → Text → Text → ℕ → Type 0
Lists ms e_before e_after t_before t_after status =
    ((status ≡ OK) × (e_after ≡ over (all_listed 0 ms) e_before) × (t_after ≡ over (all_texts ms) t_before))
    ⊎ ((status ≡ TOO_SHORT) × ((length e_before < length ms) ⊎ (length t_before < length (all_texts ms)))
    × (e_after ≡ e_before) × (t_after ≡ t_before))

-- the entry is listed, and its texts are copied if they fit; without such an entry, both are unchanged
abbrev pub ListsOne : Option Mapping → Listed → Listed → Text → Text → ℕ → Type 0
ListsOne None e_before e_after t_before t_after status =
    (status ≡ NO_ENTRY) × (e_after ≡ e_before) × (t_after ≡ t_before)
ListsOne (Some m) e_before e_after t_before t_after status =
    (e_after ≡ listed_at 0 m) × IsWrittenOrShort (entry_texts m) t_before t_after status
