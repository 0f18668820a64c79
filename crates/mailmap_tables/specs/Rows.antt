-- The rows of tables: one list of emails, and one of the names of all emails.
use Rattle.std.specs.Prelude.{◌≡◌, ◌+◌, ◌-◌, ◌++◌, ℕ, List, [], ◌∷◌, map, take, drop, length, slice_get, unwrap_or}
use Rattle.std.specs.Option.{option_map}
use Rattle.std.specs.List.{AllByRecursion, flat_map}
use Rattle.std.specs.List.Sorted.{IsStrictlySortedBy}
use Rattle.mailmap_entries.specs.Folding.{Text, text_cmp}
use Rattle.mailmap_tables.specs.Groups.{folded_name}
use Rattle.mailmap_tables.specs.Pool.{EmailInPool, Row, prefix_of, row_group}
use Rattle.mailmap_tables.specs.declared.texts.RowTexts.{RowTexts}
use Rattle.mailmap_tables.specs.declared.rows.EmailRow.{EmailRow}

-- where the names of the email at an index begin; after the last email, where all names end
abbrev pub names_start : List EmailRow → List RowTexts → ℕ → ℕ
names_start es ns index = unwrap_or (option_map (λ e. e.names_start) (slice_get es index)) (length ns)

-- each email with its names: they begin at its start, and end where those of the next email begin
abbrev pub rows_of : List EmailRow → List RowTexts → List Row
rows_of [] ns = []
rows_of (e ∷ es) ns =
    record { texts = e.texts; names = take (names_start es ns 0 - e.names_start) (drop e.names_start ns) } ∷ rows_of es ns

-- the names of all emails, one after another
abbrev pub names_of : List Row → List RowTexts
names_of rows = flat_map (λ r. r.names) rows

-- each email with the number of names before its own, and before those of the first
abbrev pub emails_of : ℕ → List Row → List EmailRow
emails_of before [] = []
emails_of before (r ∷ rows) = record { texts = r.texts; names_start = before } ∷ emails_of (before + length r.names) rows

-- the names of the emails follow each other without a gap, in the order of the emails, and there are no others
pub record AreRanges (es : List EmailRow) (ns : List RowTexts) : Type 0 where
  pub follow : es ≡ emails_of 0 (rows_of es ns)
  pub cover : ns ≡ names_of (rows_of es ns)

-- an email's texts and those of its names lie within the pool, and its names strictly ascend
pub record IsRow (pool : Text) (r : Row) : Type 0 where
  pub in_pool : EmailInPool pool r.texts r.names
  pub ascending : IsStrictlySortedBy text_cmp (map folded_name (row_group pool r).names)

-- each email with its key prefix
pub record AreRows (pool : Text) (rows : List Row) (prefixes : List ℕ) : Type 0 where
  pub each : AllByRecursion (IsRow pool) rows
  pub prefix_each : prefixes ≡ map prefix_of (map (row_group pool) rows)

-- What always holds of tables. The order of the emails isn't in it: `insert_email` inserts one where its caller says, and
-- only the caller knows that this keeps the order. It is in `AreGroups`, which `merge` and `put` require and keep.
pub record AreTables (pool : Text) (es : List EmailRow) (ns : List RowTexts) (prefixes : List ℕ) : Type 0 where
  pub ranges : AreRanges es ns
  pub rows : AreRows pool (rows_of es ns) prefixes

-- ---- changes of rows

-- an email after a name was inserted before its own
abbrev pub raised : EmailRow → EmailRow
raised e = record e { names_start = e.names_start + 1 }

-- the emails after a name was inserted before those of the emails from an index on
abbrev pub raised_from : List EmailRow → ℕ → List EmailRow
raised_from es next = take next es ++ map raised (drop next es)
