-- The fields of an answer, and the counts that bound the comparisons of a lookup.
use Rattle.std.specs.Prelude.{◌+◌, ℕ, Bool, ◌&&◌, if◌then◌else◌, is_some, List, [], ◌∷◌, count_by}
use Rattle.std.specs.List.{list_any}
use Rattle.std.specs.Option.{option_copied}
use Rattle.std.specs.Ordering.{eq_by_cmp}
use Rattle.mailmap_entries.specs.Entries.{Mapping}
use Rattle.mailmap_entries.specs.Folding.{Text, folded, text_cmp}
use Rattle.mailmap_entries.specs.Semantics.{Fields}
use Rattle.mailmap_snapshot.specs.declared.snapshot.lookup.ResolvedSignature.{ResolvedSignature}

-- the name and the email of an answer, independent of where they are in memory
abbrev pub resolved_fields : ResolvedSignature → Fields
resolved_fields r = record { name = option_copied r.name; email = option_copied r.email }

abbrev pub is_for_email : Text → Mapping → Bool
is_for_email email e = eq_by_cmp text_cmp (folded email) (folded e.old_email)

-- the number of distinct old emails, if case is ignored
abbrev pub email_count : List Mapping → ℕ
email_count [] = 0
email_count (e ∷ es) = if list_any (is_for_email e.old_email) es then email_count es else email_count es + 1

-- the number of entries with an old name for this email
abbrev pub name_count : List Mapping → Text → ℕ
name_count es email = count_by (λ e. is_some e.old_name && is_for_email email e) es
