-- Texts in a pool of bytes, and tables whose rows say where their texts are in it.
use Rattle.std.specs.Prelude.{◌≡◌, ◌≤◌, ◌+◌, ◌++◌, ℕ, List, [], Option, IsSome, map, take, drop}
use Rattle.std.specs.Prelude.{length, slice_set, unwrap_or}
use Rattle.std.specs.Option.{option_map, ForSome}
use Rattle.std.specs.List.{AllByRecursion}
use Rattle.mailmap_entries.specs.Folding.{Text}
use Rattle.mailmap_entries.specs.Prefixes.{key_prefix}
use Rattle.mailmap_entries.specs.Semantics.{Fields}
use Rattle.mailmap_entries.specs.Entries.{Mapping}
use Rattle.mailmap_tables.specs.Groups.{Contents, EmailGroup, StoredName, folded_email, listing, name_entry}
use Rattle.mailmap_tables.specs.RowTexts.{byte_count, email_span, name_span, old_span, span_of}
use Rattle.mailmap_tables.specs.declared.texts.Source.{Source}
use Rattle.mailmap_tables.specs.declared.texts.Source.TheVariants.{Given, Pool}
use Rattle.mailmap_tables.specs.declared.texts.Span.{Span}
use Rattle.mailmap_tables.specs.declared.texts.RowTexts.{RowTexts}

-- the bytes at a span
abbrev pub spelled : Text → Span → Text
spelled pool s = take s.len (drop s.start pool)

-- the span lies within a pool of n bytes
abbrev pub LiesIn : ℕ → Span → Type 0
LiesIn n s = s.start + s.len ≤ n

-- the new fields of a row
abbrev pub fields_of : Text → RowTexts → Fields
fields_of pool t = record {
  name = option_map (spelled pool) (name_span t);
  email = option_map (spelled pool) (email_span t);
}

-- the name that a row represents
abbrev pub stored_name : Text → RowTexts → StoredName
stored_name pool t = record {
  old_name = spelled pool (old_span t);
  new_name = (fields_of pool t).name;
  new_email = unwrap_or (fields_of pool t).email [];
}

-- the email that a row and the rows of its names represent
abbrev pub group_of : Text → RowTexts → List RowTexts → EmailGroup
group_of pool t names = record {
  old_email = spelled pool (old_span t);
  unnamed = fields_of pool t;
  names = map (stored_name pool) names;
}

-- the texts of a row lie within a pool of n bytes
pub record TextsInPool (n : ℕ) (t : RowTexts) : Type 0 where
  pub old : LiesIn n (old_span t)
  pub new_name : ForSome (name_span t) (LiesIn n)
  pub new_email : ForSome (email_span t) (LiesIn n)

-- so do the texts of a name, which has a new email
pub record NameInPool (n : ℕ) (t : RowTexts) : Type 0 where
  pub texts : TextsInPool n t
  pub new_email : IsSome (email_span t)

-- the texts of an email's row and of its names lie within the pool
pub record EmailInPool (pool : Text) (t : RowTexts) (ns : List RowTexts) : Type 0 where
  pub email_lies : TextsInPool (length pool) t
  pub names_lie : AllByRecursion (NameInPool (length pool)) ns

-- the texts of an email and the rows of its names
pub record Row : Type 0 where
  pub texts : RowTexts
  pub names : List RowTexts

abbrev pub row_group : Text → Row → EmailGroup
row_group pool r = group_of pool r.texts r.names

-- the key prefix of an email
abbrev pub prefix_of : EmailGroup → ℕ
prefix_of g = key_prefix 16 (folded_email g)

abbrev pub contents : Text → List Row → Contents
contents pool rows = record { pool = pool; groups = map (row_group pool) rows }

-- ---- new rows

-- the pool has only grown at its end
abbrev pub Extends : Text → Text → Type 0
Extends old new = (more : Text) × (new ≡ old ++ more)

-- only the pool has grown
abbrev pub IsGrown : Contents → Contents → Type 0
IsGrown old new = (more : Text) × (new ≡ record old { pool = old.pool ++ more })

-- a text of the pool lies within its n bytes
abbrev pub IsWithin : ℕ → Source → Type 0
IsWithin n (Given t) = Unit {0}
IsWithin n (Pool s) = LiesIn n s

abbrev pub text_of : Text → Source → Text
text_of pool (Given t) = t.now
text_of pool (Pool s) = spelled pool s

-- a text, or none, was appended to the pool, with this length to store for it; the next text begins after it
pub record IsStored (old new : Text) (text : Option Text) (len : ℕ) : Type 0 where
  pub is : option_map (spelled new) (span_of (length old) len) ≡ text
  pub lies : ForSome (span_of (length old) len) (LiesIn (length new))
  pub next : length new ≡ length old + byte_count len

-- a row with these texts, which lie in the pool
pub record HasTexts (pool : Text) (old : Text) (fields : Fields) (t : RowTexts) : Type 0 where
  pub lies : TextsInPool (length pool) t
  pub old_is : spelled pool (old_span t) ≡ old
  pub fields_are : fields_of pool t ≡ fields

-- ---- changes of rows

-- with the email at an index replaced
abbrev pub with_group_at : Contents → ℕ → EmailGroup → Contents
with_group_at c index g = record c { groups = slice_set c.groups index g }

-- ---- a listing, step by step

-- the given names of one email, followed by all entries of the emails from an index on
abbrev pub left_to_list : Contents → Text → List RowTexts → ℕ → List Mapping
left_to_list t email names index =
    map (name_entry email) (map (stored_name t.pool) names) ++ listing (drop index t.groups)
