-- The logins that link answers, as the code looks for the first of them.
use Rattle.std.specs.Prelude.{Bool, false, if◌then◌else◌, List, Option, None, Some, is_none, slice_index_or, slice_set}
use Rattle.std.specs.Borrow.{Bor}
use Rattle.std.specs.List.{list_any}
use Rattle.std.specs.Option.{option_or}
use Rattle.mailmap_contacts.specs.Contacts.{Contact, Tally}
use Rattle.mailmap_entries.specs.Folding.{Text}
use Rattle.mailmap_names.specs.Logins.{login}
use Rattle.mailmap_suggestions.specs.Forms.{Histories}
use Rattle.mailmap_suggestions.specs.LinkViews.{answer_in, contact_in}
use Rattle.mailmap_suggestions.specs.Links.{another_has, email_keys, name_keys, participants}
use Rattle.mailmap_suggestions.specs.declared.members.Member.{Member}

-- that of an email of an answer, if it is the name of another
abbrev pub login_in : List Text → Histories → List Tally → Contact → Text → Option Text
login_in shared h ts a email =
    if list_any (another_has (name_keys h ts) (participants shared h ts) a) (email_keys shared email)
    then Some (login email) else None

-- that of the answer's own email, at the first contact with the answer
abbrev pub own_login : List Text → Histories → List Tally → Member → Option Text
own_login shared h ts m = if m.is_first then login_in shared h ts (answer_in m) (answer_in m).email else None

-- after one more contact: where there is one already, it stays
abbrev pub with_login : List Text → Histories → List Tally → List (Option Text) → Member → List (Option Text)
with_login shared h ts found m = slice_set found m.first (option_or (slice_index_or found m.first None)
    (login_in shared h ts (answer_in m) (contact_in m).contact.email))

-- whether an index has no login yet
abbrev pub is_missing : Option (Option (Bor Text)) → Bool
is_missing None = false
is_missing (Some found) = is_none found
