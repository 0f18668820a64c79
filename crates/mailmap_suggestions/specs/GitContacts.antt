-- Contacts as git reads them, and its answers to these.
use Rattle.std.specs.Prelude.{◌==◌, ◌&&◌, ◌||◌, Bool, not, List, filter, map}
use Rattle.std.specs.List.{list_any}
use Rattle.bstr.specs.Trim.{trim_end_by}
use Rattle.mailmap_entries.specs.Folding.{Text}
use Rattle.mailmap_findings.specs.Git.{is_git_space}
use Rattle.mailmap_contacts.specs.Contacts.{Contact, Tally, answer_to, raw_contacts_from, read_by, same_contact, tallied, trimmed}
use Rattle.mailmap_suggestions.specs.Counted.{git_answered}
use Rattle.mailmap_suggestions.specs.Forms.{Histories, git_answer_to}

-- git trims the end of the name only
abbrev pub read_by_git : Contact → Contact
read_by_git c = record { name = trim_end_by is_git_space c.name; email = c.email }

-- For git a zero byte ends the line, so it reads no contact with one.
abbrev pub has_zero : Contact → Bool
has_zero c = list_any (λ b. b == 0) c.name || list_any (λ b. b == 0) c.email

-- the distinct contacts on lines, in the order of their first lines
abbrev pub git_contacts : List Text → List Tally
git_contacts lines = tallied (map (read_by read_by_git) (raw_contacts_from 1 lines))

-- whether git answers something else than this library, which trims the contact
abbrev pub is_answered_otherwise : Histories → Tally → Bool
is_answered_otherwise h t = not (has_zero t.contact)
    && not (same_contact (git_answer_to h.gits t.contact) (answer_to h.ours (trimmed t.contact)))

-- git's answers where this library answers otherwise; each comes where its contact comes
abbrev pub git_answers_otherwise : Histories → List Text → List Tally
git_answers_otherwise h lines = map (git_answered h) (filter (is_answered_otherwise h) (git_contacts lines))
