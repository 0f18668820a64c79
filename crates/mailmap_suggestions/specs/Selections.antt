-- What lines do of which the marks are deleted: those of any number of whole groups.
use Rattle.std.specs.Prelude.{◌≡◌, ◌&&◌, ◌||◌, ◌++◌, Bool, false, true, not, bytes_eq, List, [], ◌∷◌, None, if◌then◌else◌}
use Rattle.std.specs.List.{AllByRecursion, Contains, list_any}
use Rattle.mailmap_contacts.specs.Contacts.{Contact, Tally, answer_to}
use Rattle.mailmap_entries.specs.Entries.{Mapping}
use Rattle.mailmap_entries.specs.Folding.{Text, folded}
use Rattle.mailmap_entries.specs.Semantics.{of_key}
use Rattle.mailmap_suggestions.specs.Forms.{IsAnswered, alike, git_answer_to, own_key}
use Rattle.mailmap_suggestions.specs.GroupEntries.{Agree, are_cut, contacts, is_grouped, members, only, proper_answer}
use Rattle.mailmap_suggestions.specs.GroupEntries.{uncut, wanted_entries}
use Rattle.mailmap_suggestions.specs.Links.{login_marks, name_marks}
use Rattle.mailmap_suggestions.specs.Suggestions.{GroupClasses, HasClassesBy, Stage, email_stage, has_any, login_stage}
use Rattle.mailmap_suggestions.specs.Suggestions.{name_stage, new_entries, stage_entries}

-- ---- the groups of one stage

-- the contacts that have the class of one
abbrev pub group_of : Stage → Contact → List Tally
group_of g c = members g.class g.grouped g.tallies (g.class (answer_to g.grouped.ours c))

abbrev pub proper_of : Stage → Contact → Contact
proper_of g c = proper_answer g.shared g.grouped (group_of g c)

abbrev pub entries_of : Stage → Contact → List Mapping
entries_of g c = wanted_entries g.shared g.base g.grouped (group_of g c)

abbrev pub has_class : Stage → Contact → Bool
has_class g c = not (bytes_eq (g.class (answer_to g.grouped.ours c)) [])

-- whether git would cut a line of its group
abbrev pub is_cut : Stage → Contact → Bool
is_cut g c = has_class g c && are_cut (entries_of g c)

-- whether its group isn't answered alike, and git would cut none of its lines
abbrev pub has_entries : Stage → Contact → Bool
has_entries g c = is_grouped g.class g.grouped g.tallies c && not (are_cut (entries_of g c))

-- the class, if git would cut no line of its group
abbrev pub uncut_class : Stage → Contact → Text
uncut_class g = uncut g.shared g.class g.base g.grouped g.tallies

-- with the groups that pass a test
abbrev pub selected : (Text → Bool) → Stage → Stage
selected passes g = record g { class = only passes g.class }

-- ---- lines that mailmaps remember

-- those of a group for a contact: with its name and email as the old ones, or else with its email alone
abbrev pub lines_for : List Mapping → Contact → List Mapping
lines_for es c = let own = of_key es (own_key c) in if has_any own then own else of_key es (folded c.email, None)

-- whether it has some, all of them remembered
abbrev pub is_line_remembered : List Text → List Mapping → Contact → Bool
is_line_remembered seen es c = let ls = lines_for es c in has_any ls && not (has_any (new_entries seen ls))

-- whether its group has lines, and its own isn't remembered
abbrev pub is_united : List Text → Stage → Contact → Bool
is_united seen g c = has_entries g c && not (is_line_remembered seen (entries_of g c) c)

-- no line of any group is remembered
abbrev pub AreAllNew : List Text → Stage → Type 0
AreAllNew seen g = new_entries seen (stage_entries g) ≡ stage_entries g

-- ---- what is selected

-- Mappings of mailmaps that git reads as this library does; the contacts of a history; which emails several people
-- share; the classes of answers, with tests that those of the selected groups pass; and the lines that mailmaps have.
pub record Selection : Type 0 where
  pub shared : List Text
  pub mappings : List Mapping
  pub tallies : List Tally
  pub classes : GroupClasses
  pub names_pass : Text → Bool
  pub logins_pass : Text → Bool
  pub seen : List Text

abbrev pub by_email : Selection → Stage
by_email s = email_stage s.shared (alike s.mappings) s.tallies

abbrev pub by_any_name : Selection → Stage
by_any_name s = name_stage s.shared s.classes (alike s.mappings) s.tallies

abbrev pub by_any_login : Selection → Stage
by_any_login s = login_stage s.shared s.classes (alike s.mappings) s.tallies

-- the selected ones
abbrev pub by_name : Selection → Stage
by_name s = selected s.names_pass (by_any_name s)

abbrev pub by_login : Selection → Stage
by_login s = selected s.logins_pass (by_any_login s)

-- the mappings with the entries for emails, then with the lines of the selected groups by name, and then with those by
-- login, without the remembered ones
abbrev pub after_emails : Selection → List Mapping
after_emails s = s.mappings ++ stage_entries (by_email s)

abbrev pub after_names : Selection → List Mapping
after_names s = after_emails s ++ new_entries s.seen (stage_entries (by_name s))

abbrev pub after_logins : Selection → List Mapping
after_logins s = after_names s ++ new_entries s.seen (stage_entries (by_login s))

-- The classes are those of answers with alike names, and of answers that logins link, at least if a group by login is
-- selected.
pub record AreLinked (s : Selection) : Type 0 where
  pub by_name : HasClassesBy name_marks (by_any_name s)
  pub by_login : (k : Text) → s.logins_pass k ≡ true → HasClassesBy login_marks (by_any_login s)

-- ---- what it does

-- whether git would cut a line of its group, and a contact of this group has a class of the next stage
abbrev pub is_cut_for : Stage → Stage → Contact → Bool
is_cut_for next g c = is_cut g c && list_any (has_class next) (contacts (group_of g c))

-- Contacts that are left out: git would cut a line of their group by email, and one of this is in a selected group by
-- name.
abbrev pub is_left_out : Selection → Contact → Bool
is_left_out s c = is_cut_for (by_name s) (by_email s) c

-- For groups by login, one is in a selected one; or so it is with their group by name.
abbrev pub is_left_out_later : Selection → Contact → Bool
is_left_out_later s c = is_cut_for (by_login s) (by_email s) c || is_cut_for (by_login s) (by_any_name s) c

-- Either, or a contact of their selected group by login is in a group by email of which git would cut a line.
abbrev pub has_cut_email : Selection → Contact → Bool
has_cut_email s c = is_left_out s c || (is_left_out_later s c
    || (has_class (by_login s) c && list_any (is_cut (by_email s)) (contacts (group_of (by_login s) c))))

-- two contacts have one answer if their answers have one class, unless one of the contacts is left out
abbrev pub AllAgreeBut : (Contact → Bool) → (Contact → Text) → List Mapping → List Contact → Type 0
AllAgreeBut left_out class g cs = AllByRecursion (λ b. AllByRecursion (λ c. left_out b ≡ false → left_out c ≡ false
    → Agree class g b c) cs) cs

-- The mappings g answer contacts of groups that have lines by the proper answers of these, here and in git, and all
-- others as `before` does: others are also those whose line is remembered. All this is so but for contacts that are left
-- out.
pub record Selects (seen : List Text) (left_out : Contact → Bool) (stage : Stage) (before g : List Mapping)
    : Type 0 where
  pub united : AllByRecursion (λ c. left_out c ≡ false → is_united seen stage c ≡ true
      → IsAnswered g (proper_of stage c) c) (contacts stage.tallies)
  pub others : AllByRecursion (λ c. left_out c ≡ false → is_united seen stage c ≡ false
      → (answer_to g c ≡ answer_to before c) × (git_answer_to g c ≡ git_answer_to before c)) (contacts stage.tallies)

-- ---- whether each entry is needed

-- By the mappings g, each contact of a group that has an entry gets the proper answer of the group, here and from git.
abbrev pub GetProperWith : Stage → Mapping → List Mapping → Type 0
GetProperWith stage e g = AllByRecursion (λ c. has_entries stage c ≡ true → Contains (entries_of stage c) e
    → IsAnswered g (proper_of stage c) c) (contacts stage.tallies)

-- Not so without one of the entries, whichever it is, unless a contact with its old email is left out.
abbrev pub EachNeeded : (Contact → Bool) → Stage → Type 0
EachNeeded left_out stage = (front rest : List Mapping) (e : Mapping) → stage_entries stage ≡ front ++ e ∷ rest
    → AllByRecursion (λ c. folded c.email ≡ folded e.old_email → left_out c ≡ false) (contacts stage.tallies)
    → GetProperWith stage e (stage.base.ours ++ (front ++ rest)) → ⊥
