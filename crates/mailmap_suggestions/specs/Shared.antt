-- Emails that several people share.
use Rattle.std.specs.Prelude.{◌&&◌, ◌||◌, ◌++◌, Bool, false, not, if◌then◌else◌, is_none, nat_le, List, [], ◌∷◌, length}
use Rattle.std.specs.Prelude.{bytes_eq, codes, filter, map, take}
use Rattle.std.specs.List.{fold, list_any}
use Rattle.std.specs.Str.{str_eq_ignore_ascii_case}
use Rattle.mailmap_contacts.specs.Contacts.{Contact, Tally, answer_to, has_text}
use Rattle.mailmap_entries.specs.Entries.{Mapping}
use Rattle.mailmap_entries.specs.Folding.{Text, folded}
use Rattle.mailmap_names.specs.Keys.{is_related}
use Rattle.mailmap_suggestions.specs.Forms.{Histories, distinct}

-- ---- the names of several people

-- whether a name isn't empty, and related to none of some others
abbrev pub is_stranger : List Text → Text → Bool
is_stranger known name = has_text name && not (list_any (is_related name) known)

abbrev pub with_stranger : List Text → Text → List Text
with_stranger known name = if is_stranger known name then known ++ name ∷ [] else known

-- the names that are related to no stranger before them; the first name is one
abbrev pub strangers : List Text → List Text
strangers names = fold with_stranger [] names

-- whether a text begins with ` via `, in any case
abbrev pub begins_with_via : Text → Bool
begins_with_via text = str_eq_ignore_ascii_case (take 5 text) (codes " via ")

-- whether ` via ` is anywhere in a name, as in `Ann Lee via a list`
abbrev pub has_via : Text → Bool
has_via [] = false
has_via (b ∷ s) = begins_with_via (b ∷ s) || has_via s

-- whether several people have these names: four are strangers, or two if one of the names has a ` via `
abbrev pub are_several : List Text → Bool
are_several names = nat_le (if list_any has_via names then 2 else 4) (length (strangers names))

-- ---- emails

-- the names of the answers with a folded email, each once, in the order in which they first come
abbrev pub names_with : List Contact → Text → List Text
names_with answers email = distinct (map (λ a. a.name) (filter (λ a. bytes_eq email (folded a.email)) answers))

-- the folded emails, each once, of which the answers have the names of several people
abbrev pub emails_of_several : List Contact → List Text
emails_of_several answers =
    filter (λ email. are_several (names_with answers email)) (distinct (map (λ a. folded a.email) answers))

-- ---- in the history of a repository

-- the answers with an email
abbrev pub answers_with_email : List Mapping → List Tally → List Contact
answers_with_email h ts = filter (λ a. has_text a.email) (map (λ t. answer_to h t.contact) ts)

abbrev pub without_old_names : List Mapping → List Mapping
without_old_names h = filter (λ e. is_none e.old_name) h

-- The folded emails that several people share, by the answers, or by those that the entries without an old name alone
-- would give: so an email stays shared when its people get entries of their own, one after the other.
unfoldable pub shared_emails : Histories → List Tally → List Text
shared_emails h ts = emails_of_several (answers_with_email h.ours ts)
    ++ emails_of_several (answers_with_email (without_old_names h.ours) ts)
