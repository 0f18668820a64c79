-- The text that a snapshot is written as, and the entries that a line of a mailmap can hold.
use Rattle.std.specs.Prelude.{◌≡◌, ◌≢◌, List, [], ◌∷◌, ◌++◌, Option, Some, None, IsSome, IfSome, IfNone, OnSome, unwrap_or}
use Rattle.std.specs.List.{flat_map}
use Rattle.mailmap_entries.specs.Entries.{Mapping}
use Rattle.mailmap_entries.specs.Folding.{Text}
use Rattle.mailmap_entries.specs.Semantics.{Fields}
use Rattle.mailmap_grammar.specs.Lines.{HoldsNo}
use Rattle.mailmap_grammar.specs.Trimming.{trim}

-- an email that is parsed unchanged between brackets: trimmed, without `>` and without a line feed
pub record IsWritableEmail (email : Text) : Type 0 where
  pub trimmed : email ≡ trim email
  pub no_closing : HoldsNo 62 email
  pub one_line : HoldsNo 10 email

-- a name that is parsed unchanged in front of a bracket: not empty, trimmed, without `<` and without a line feed
pub record IsWritableName (name : Text) : Type 0 where
  pub some : name ≢ []
  pub trimmed : name ≡ trim name
  pub no_opening : HoldsNo 60 name
  pub one_line : HoldsNo 10 name

-- an entry that a line can hold: its texts are parsed unchanged, the first email is not empty, and an old name comes
-- with a new email
pub record IsWritable (e : Mapping) : Type 0 where
  pub names : IfSome e.new_name IsWritableName × IfSome e.old_name IsWritableName
  pub emails : IfSome e.new_email IsWritableEmail × IsWritableEmail e.old_email
  pub some_new : IfSome e.new_email (λ email. email ≢ [])
  pub some_old : IfNone e.new_email (e.old_email ≢ [])
  pub paired : OnSome e.old_name (IsSome e.new_email)

-- a name and a space, if there is a name
abbrev pub name_part : Option Text → Text
name_part None = []
name_part (Some name) = name ++ 32 ∷ []

abbrev pub bracketed_email : Text → Text
bracketed_email email = 60 ∷ (email ++ 62 ∷ [])

-- an email in brackets and a space, if there is an email
abbrev pub email_part : Option Text → Text
email_part None = []
email_part (Some email) = bracketed_email email ++ 32 ∷ []

-- a space, the new name, the new email, the old name, the old email and a line feed
abbrev pub canonical_line : Mapping → Text
canonical_line e = 32 ∷ (name_part e.new_name ++ email_part e.new_email ++ name_part e.old_name
    ++ bracketed_email e.old_email ++ 10 ∷ [])

abbrev pub canonical_text : List Mapping → Text
canonical_text es = flat_map canonical_line es

-- a name and an email as a contact line; without the space if the name is empty
abbrev pub contact_line : Text → Text → Text
contact_line [] email = 60 ∷ email ++ 62 ∷ []
contact_line (b ∷ name) email = (b ∷ name) ++ 32 ∷ 60 ∷ email ++ 62 ∷ []

-- a contact with the fields that are there in place of its own
abbrev pub contact_with : Fields → Text → Text → Text
contact_with f name email = contact_line (unwrap_or f.name name) (unwrap_or f.email email)
