-- The lines of suggested entries, without their line feeds.
use Rattle.std.specs.Prelude.{◌++◌, Bool, if◌then◌else◌, length, nat_lt, unwrap_or, [], ◌∷◌}
use Rattle.mailmap_entries.specs.Entries.{Mapping}
use Rattle.mailmap_entries.specs.Folding.{Text}
use Rattle.mailmap_grammar.specs.CanonicalText.{bracketed_email, email_part, name_part}
use Rattle.mailmap_grammar.specs.Lines.{is_comment}

abbrev pub fields_text : Mapping → Text
fields_text e = name_part e.new_name ++ email_part e.new_email ++ name_part e.old_name ++ bracketed_email e.old_email

-- a name that begins with `#` would make it a comment, so a space comes first
abbrev pub entry_line : Mapping → Text
entry_line e = (if is_comment (unwrap_or e.new_name []) then 32 ∷ [] else []) ++ fields_text e

-- git reads a line in pieces of 1023 bytes, of which a line feed is one
abbrev pub is_cut_by_git : Mapping → Bool
is_cut_by_git e = nat_lt 1022 (length (entry_line e))
