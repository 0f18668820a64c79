-- What a call writes into the caller's buffers: texts, findings, or positions.
use Rattle.std.specs.Prelude.{◌≡◌, ◌<◌, ◌≤◌, ◌++◌, ◌⊎◌, ℕ, List, length, drop}
use Rattle.gix_mailmap_c.specs.declared.status.TheConstants.{OK, OUT_OF_MEMORY, TOO_SHORT}

-- the text is at the front of the buffer, and the rest of the buffer is unchanged
pub record IsWritten {X : Type 0} (text before after : List X) : Type 0 where
  pub fits : length text ≤ length before
  pub written : after ≡ text ++ drop (length text) before

-- the text is written, or the buffer is too short, and unchanged
abbrev pub IsWrittenOrShort : {X : Type 0} → List X → List X → List X → ℕ → Type 0
IsWrittenOrShort text before after status = ((status ≡ OK) × IsWritten text before after)
    ⊎ ((status ≡ TOO_SHORT) × (length before < length text) × (after ≡ before))

-- the text is written if it fits, and `needed` is its length
pub record IsPut {X : Type 0} (text before after : List X) (needed status : ℕ) : Type 0 where
  pub counted : needed ≡ length text
  pub put : IsWrittenOrShort text before after status

-- out of memory, and the buffer is unchanged
pub record IsOutOfMemory {X : Type 0} (before after : List X) (needed status : ℕ) : Type 0 where
  pub says : status ≡ OUT_OF_MEMORY
  pub none : needed ≡ 0
  pub unchanged : after ≡ before

-- a text with the property P is written if it fits; or memory ran out
abbrev pub IsOutput : {X : Type 0} → (List X → Type 0) → List X → List X → ℕ → ℕ → Type 0
IsOutput {X} P before after needed status = ((text : List X) × P text × IsPut text before after needed status)
    ⊎ IsOutOfMemory before after needed status

-- each of two texts is written into its buffer, or one of the buffers is too short, and both are unchanged
abbrev pub ArePut : {X Y : Type 0} → List X → List X → List X → List Y → List Y → List Y → ℕ → Type 0
ArePut s s_before s_after t t_before t_after status =
    ((status ≡ OK) × IsWritten s s_before s_after × IsWritten t t_before t_after)
    ⊎ ((status ≡ TOO_SHORT) × ((length s_before < length s) ⊎ (length t_before < length t))
    × (s_after ≡ s_before) × (t_after ≡ t_before))
