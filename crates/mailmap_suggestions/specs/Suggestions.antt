-- What is suggested for the contacts of a history.
use Rattle.std.specs.Prelude.{Bool, true, false, ◌||◌, not, if◌then◌else◌, List, [], ◌∷◌, ◌++◌, bytes_eq, codes, filter}
use Rattle.std.specs.Prelude.{map}
use Rattle.std.specs.List.{flat_map, list_all, list_any}
use Rattle.mailmap_contacts.specs.Contacts.{Contact, Tally, answer_to}
use Rattle.mailmap_entries.specs.Entries.{Mapping}
use Rattle.mailmap_entries.specs.Folding.{Text, folded}
use Rattle.mailmap_grammar.specs.Lines.{pieces}
use Rattle.mailmap_suggestions.specs.Counted.{counted_answers, counted_git_answers}
use Rattle.mailmap_suggestions.specs.EntryLines.{entry_line}
use Rattle.mailmap_suggestions.specs.Forms.{Histories, is_shared, plus}
use Rattle.mailmap_suggestions.specs.GroupEntries.{all_entries, are_cut, contacts, email_class, groups, nobody}
use Rattle.mailmap_suggestions.specs.GroupEntries.{proper_answer, wanted_entries}
use Rattle.mailmap_suggestions.specs.Links.{AreClassesBy, answers, linking_logins, login_marks, name_marks}

-- ---- suggestions

-- what the answers of a group have in common
pub data Kind : Type 0 where
  -- an email, ASCII case aside
  by_email : Kind
  -- an email that several people share, spelled as in the first of the answers
  by_shared_email : Text → Kind
  -- a name, ASCII case aside, directly or through others
  by_name : Kind
  -- names that are alike
  by_alike_names : Kind
  -- the login of an email of one and the name of another
  by_login : Text → Kind

-- whether somebody has to judge whether the group is one person
abbrev pub needs_review : Kind → Bool
needs_review by_email = false
needs_review (by_shared_email email) = false
needs_review by_name = true
needs_review by_alike_names = true
needs_review (by_login login) = true

abbrev pub is_of_several : Kind → Bool
is_of_several by_email = false
is_of_several (by_shared_email email) = true
is_of_several by_name = false
is_of_several by_alike_names = false
is_of_several (by_login login) = false

-- the answers to a group of contacts, and the entries that give it one answer
pub record Suggestion : Type 0 where
  pub kind : Kind
  pub answers : List Tally
  -- git's, where they differ, with the ranks of contacts in the place of first lines
  pub git_answers : List Tally
  -- the one that all of them get
  pub proper : Contact
  -- none if several people share the email, or if git would cut a line
  pub entries : List Mapping
  pub is_cut : Bool

-- the entries for a group, if one person may be behind it
abbrev pub entries_for : Kind → List Text → Histories → Histories → List Tally → List Mapping
entries_for kind shared base h g = if is_of_several kind then [] else wanted_entries shared base h g

abbrev pub suggestion : List Text → Histories → Histories → Kind → List Tally → Suggestion
suggestion shared base h kind g =
    let is_cut = are_cut (entries_for kind shared base h g) in record {
      kind = kind;
      answers = counted_answers h g;
      git_answers = counted_git_answers h g;
      proper = proper_answer shared h g;
      entries = if is_cut then [] else entries_for kind shared base h g;
      is_cut = is_cut;
    }

-- ---- the kinds of groups

-- the answer to the first of a group
abbrev pub first_answer : Histories → List Tally → Contact
first_answer h [] = nobody
first_answer h (t ∷ ts) = answer_to h.ours t.contact

abbrev pub email_kind : List Text → Histories → List Tally → Kind
email_kind shared h g = let email = (first_answer h g).email in
    if is_shared shared email then by_shared_email email else by_email

-- whether all answers have one name, ASCII case aside
abbrev pub have_one_name : Histories → List Tally → Bool
have_one_name h g =
    list_all (λ c. bytes_eq (folded (answer_to h.ours c).name) (folded (first_answer h g).name)) (contacts g)

abbrev pub name_kind : Histories → List Tally → Kind
name_kind h g = if have_one_name h g then by_name else by_alike_names

abbrev pub first_or_empty : List Text → Text
first_or_empty [] = []
first_or_empty (text ∷ rest) = text

-- by the first login that links, of the answers as they first come
abbrev pub login_kind : List Text → Histories → List Tally → List Tally → Kind
login_kind shared h ts g = by_login (first_or_empty (flat_map (linking_logins shared h ts) (answers h g)))

-- ---- the three stages

-- The groups of a stage are of contacts whose answers by `grouped` have one class. Their entries are made for the
-- answers by `base`, as others need not be accepted.
pub record Stage : Type 0 where
  pub shared : List Text
  pub tallies : List Tally
  pub class : Contact → Text
  pub base : Histories
  pub grouped : Histories

-- whether the classes are those of answers with marks in common
abbrev pub HasClassesBy : (List Text → Histories → List Tally → Contact → List Text) → Stage → Type 0
HasClassesBy marks s = AreClassesBy (marks s.shared s.grouped s.tallies) (answers s.grouped s.tallies) s.class

abbrev pub stage_entries : Stage → List Mapping
stage_entries s = all_entries s.shared s.class s.base s.grouped s.tallies

abbrev pub stage_suggestions : (List Tally → Kind) → Stage → List Suggestion
stage_suggestions kind s =
    map (λ g. suggestion s.shared s.base s.grouped (kind g) g) (groups s.class s.grouped s.tallies)

-- the classes of answers with alike names, and of those that are linked by logins
pub record GroupClasses : Type 0 where
  pub by_name : Contact → Text
  pub by_login : Contact → Text

-- for answers with an email that one person has
abbrev pub email_stage : List Text → Histories → List Tally → Stage
email_stage shared h ts = record { shared = shared; tallies = ts; class = email_class shared; base = h; grouped = h }

-- with its entries
abbrev pub after_emails : List Text → Histories → List Tally → Histories
after_emails shared h ts = plus h (stage_entries (email_stage shared h ts))

abbrev pub name_stage : List Text → GroupClasses → Histories → List Tally → Stage
name_stage shared c h ts = let more = after_emails shared h ts in
    record { shared = shared; tallies = ts; class = c.by_name; base = more; grouped = more }

-- with the entries of both, as if all were accepted
abbrev pub after_all_names : List Text → GroupClasses → Histories → List Tally → Histories
after_all_names shared c h ts = plus (after_emails shared h ts) (stage_entries (name_stage shared c h ts))

-- its entries are right without those for names
abbrev pub login_stage : List Text → GroupClasses → Histories → List Tally → Stage
login_stage shared c h ts = record {
  shared = shared;
  tallies = ts;
  class = c.by_login;
  base = after_emails shared h ts;
  grouped = after_all_names shared c h ts;
}

pub record AreGroupClasses (shared : List Text) (h : Histories) (ts : List Tally) (c : GroupClasses) : Type 0 where
  pub by_name : HasClassesBy name_marks (name_stage shared c h ts)
  pub by_login : HasClassesBy login_marks (login_stage shared c h ts)

-- the answers with an email, whether several people share it or not
abbrev pub email_key : Contact → Text
email_key a = folded a.email

abbrev pub email_suggestions : List Text → Histories → List Tally → List Suggestion
email_suggestions shared h ts =
    stage_suggestions (email_kind shared h) (record (email_stage shared h ts) { class = email_key })

abbrev pub name_suggestions : List Text → GroupClasses → Histories → List Tally → List Suggestion
name_suggestions shared c h ts = stage_suggestions (name_kind (after_emails shared h ts)) (name_stage shared c h ts)

abbrev pub login_suggestions : List Text → GroupClasses → Histories → List Tally → List Suggestion
login_suggestions shared c h ts =
    stage_suggestions (login_kind shared (after_all_names shared c h ts) ts) (login_stage shared c h ts)

-- ---- what is remembered

-- whether one of some lines is that of an entry that needs review
abbrev pub is_remembered : List Text → Mapping → Bool
is_remembered lines e = list_any (bytes_eq (codes "#?" ++ entry_line e)) lines

abbrev pub new_entries : List Text → List Mapping → List Mapping
new_entries lines es = filter (λ e. not (is_remembered lines e)) es

abbrev pub with_entries : Suggestion → List Mapping → Suggestion
with_entries s es = record s { entries = es }

abbrev pub has_any : List Mapping → Bool
has_any [] = false
has_any (e ∷ es) = true

-- nothing if all lines are remembered
abbrev pub unless_empty : Suggestion → List Suggestion
unless_empty s = if s.is_cut || has_any s.entries then s ∷ [] else []

-- for the mailmaps with these lines
abbrev pub still_suggested : List Text → Suggestion → List Suggestion
still_suggested lines s =
    if needs_review s.kind then unless_empty (with_entries s (new_entries lines s.entries)) else s ∷ []

abbrev pub lines_in : List Text → List Text
lines_in buffers = flat_map pieces buffers

-- for contacts whose answers have one email, for those that have alike names, and for those that are linked by logins,
-- without what the lines of the mailmaps remember
abbrev pub suggestions : List Text → GroupClasses → List Text → Histories → List Tally → List Suggestion
suggestions shared c lines h ts = flat_map (still_suggested lines)
    (email_suggestions shared h ts ++ name_suggestions shared c h ts ++ login_suggestions shared c h ts)
