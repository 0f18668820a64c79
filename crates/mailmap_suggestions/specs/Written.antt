-- Suggestions that lines can hold, and their text with marks before some of them.
use Rattle.std.specs.Prelude.{◌≡◌, ◌++◌, Bool, IfSome, true, false, not, if◌then◌else◌, List, []}
use Rattle.std.specs.List.{AllByRecursion, flat_map}
use Rattle.mailmap_contacts.specs.Contacts.{Contact, Tally}
use Rattle.mailmap_entries.specs.Entries.{Mapping}
use Rattle.mailmap_entries.specs.Folding.{Text}
use Rattle.mailmap_entries.specs.Semantics.{is_accepted}
use Rattle.mailmap_grammar.specs.CanonicalText.{IsWritable}
use Rattle.mailmap_grammar.specs.Lines.{HoldsNo}
use Rattle.mailmap_suggestions.specs.EntryLines.{is_cut_by_git}
use Rattle.mailmap_suggestions.specs.Forms.{Histories}
use Rattle.mailmap_suggestions.specs.GroupEntries.{IsWritableContact, groups}
use Rattle.mailmap_suggestions.specs.SuggestedText.{entry_line, suggestion_text, suggestions_text}
use Rattle.mailmap_suggestions.specs.Suggestions.{GroupClasses, Kind, Suggestion, after_emails, after_all_names}
use Rattle.mailmap_suggestions.specs.Suggestions.{by_alike_names, by_email, by_login, by_name, by_shared_email}
use Rattle.mailmap_suggestions.specs.Suggestions.{email_suggestions, first_answer, login_kind, name_kind}
use Rattle.mailmap_suggestions.specs.Suggestions.{still_suggested, suggestion}

-- a line can hold it, and it maps something
abbrev pub IsGood : Mapping → Type 0
IsGood e = IsWritable e × (is_accepted e ≡ true)

abbrev pub AreWritable : List Tally → Type 0
AreWritable ts = AllByRecursion (λ t. IsWritableContact t.contact) ts

-- the email or the login in the first line of a block
abbrev pub kind_text : Kind → Text
kind_text by_email = []
kind_text (by_shared_email email) = email
kind_text by_name = []
kind_text by_alike_names = []
kind_text (by_login login) = login

-- a comment can hold the line of an entry with a mark
abbrev pub FitsLine : Bool → Mapping → Type 0
FitsLine true e = HoldsNo 10 (entry_line e)
FitsLine false e = IsGood e

-- git would not cut its line
abbrev pub IsUncut : Mapping → Type 0
IsUncut e = is_cut_by_git e ≡ false

-- git reads a line up to a zero byte
abbrev pub HoldsNoZero : Mapping → Type 0
HoldsNoZero e = IfSome e.new_name (HoldsNo 0) × IfSome e.new_email (HoldsNo 0) × IfSome e.old_name (HoldsNo 0)
    × HoldsNo 0 e.old_email

abbrev pub ContactHoldsNoZero : Contact → Type 0
ContactHoldsNoZero c = HoldsNo 0 c.name × HoldsNo 0 c.email

-- whether lines can hold a suggestion, with marks or without
pub record IsWritableSuggestion (is_marked : Bool) (s : Suggestion) : Type 0 where
  pub kind : HoldsNo 10 (kind_text s.kind)
  pub answers : AreWritable s.answers
  pub git_answers : AreWritable s.git_answers
  pub entries : AllByRecursion (FitsLine is_marked) s.entries

-- the text of suggestions, with marks before the lines of those that pass a test
abbrev pub text_with : (Suggestion → Bool) → List Suggestion → Text
text_with is_marked found = flat_map (λ s. suggestion_text (is_marked s) s) found

-- the entries of the others
abbrev pub unmarked_entries : (Suggestion → Bool) → List Suggestion → List Mapping
unmarked_entries is_marked found = flat_map (λ s. if is_marked s then [] else s.entries) found

-- ---- with the marks deleted of the groups whose classes pass a test

-- the class of the first answer of a group, and so of all
abbrev pub class_of : (Contact → Text) → Histories → List Tally → Text
class_of class h g = class (first_answer h g)

-- whether the lines of a group keep their marks
abbrev pub has_marks : (Text → Bool) → (Contact → Text) → Histories → List Tally → Bool
has_marks passes class h g = not (passes (class_of class h g))

-- what is printed for the groups of a class, for mailmaps with these lines
abbrev pub groups_text : List Text → (Text → Bool) → (Contact → Text) → Histories → List Tally
    → (List Tally → Suggestion) → Text
groups_text lines passes class h ts suggest = flat_map (λ g. text_with (λ _. has_marks passes class h g)
    (still_suggested lines (suggest g))) (groups class h ts)

-- and for emails, for alike names and for logins
abbrev pub selected_text : List Text → GroupClasses → (Text → Bool) → (Text → Bool) → List Text → Histories
    → List Tally → Text
selected_text shared c passes next_passes lines h ts =
    let more = after_emails shared h ts in
    let all = after_all_names shared c h ts in
    suggestions_text (flat_map (still_suggested lines) (email_suggestions shared h ts))
    ++ groups_text lines passes c.by_name more ts (λ g. suggestion shared more more (name_kind more g) g)
    ++ groups_text lines next_passes c.by_login all ts (λ g. suggestion shared more all (login_kind shared all ts g) g)
