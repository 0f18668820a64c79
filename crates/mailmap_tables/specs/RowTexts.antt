-- The texts of a row, consecutive in the pool, as spans.
use Rattle.std.specs.Prelude.{◌==◌, ◌+◌, ℕ, Option, Some, None, if◌then◌else◌}
use Rattle.mailmap_tables.specs.declared.texts.TheConstants.{NO_TEXT}
use Rattle.mailmap_tables.specs.declared.texts.Span.{Span}
use Rattle.mailmap_tables.specs.declared.texts.RowTexts.{RowTexts}

-- a text at `start`, unless the length says that there is none
unfoldable pub span_of : ℕ → ℕ → Option Span
span_of start len = if len == NO_TEXT then None else Some (record { start = start; len = len })

-- the number of bytes of a text with this length, 0 if there is no text
unfoldable pub byte_count : ℕ → ℕ
byte_count len = if len == NO_TEXT then 0 else len

abbrev pub old_span : RowTexts → Span
old_span t = record { start = t.start; len = t.old_len }

unfoldable pub name_span : RowTexts → Option Span
name_span t = span_of (t.start + t.old_len) t.new_name_len

unfoldable pub email_span : RowTexts → Option Span
email_span t = span_of (t.start + t.old_len + byte_count t.new_name_len) t.new_email_len
