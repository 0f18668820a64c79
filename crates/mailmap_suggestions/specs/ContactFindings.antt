-- The findings about contacts: lines without a contact, emails that several people share, answers that may belong to one
-- person, and answers of git.
use Rattle.std.specs.Prelude.{ℕ, not, true, List, [], ◌++◌, Option, None, Some, filter, map, option_to_list}
use Rattle.std.specs.List.{flat_map}
use Rattle.std.specs.List.Sorted.{IsPermutation, IsSortedByKey}
use Rattle.std.specs.Option.{option_map}
use Rattle.std.specs.Ordering.{nat_cmp, ordering_then}
use Rattle.std.specs.declared.cmp.Ordering.{Ordering}
use Rattle.mailmap_contacts.specs.Contacts.{Contact, Tally, answered, contacts_from, no_contacts_from, same_contact, seen_where, tallied}
use Rattle.mailmap_contacts.specs.Proper.{proper}
use Rattle.mailmap_contacts.specs.declared.occurrences.Occurrences.{Occurrences}
use Rattle.mailmap_entries.specs.Folding.{Text}
use Rattle.mailmap_suggestions.specs.Forms.{Histories}
use Rattle.mailmap_suggestions.specs.GitContacts.{git_answers_otherwise}
use Rattle.mailmap_suggestions.specs.Histories.{histories_of}
use Rattle.mailmap_suggestions.specs.Shared.{shared_emails}
use Rattle.mailmap_suggestions.specs.Suggestions.{AreGroupClasses, GroupClasses, Kind, Suggestion, by_alike_names}
use Rattle.mailmap_suggestions.specs.Suggestions.{by_email, by_login, by_name, by_shared_email, lines_in, suggestions}
use Rattle.mailmap_suggestions.specs.declared.findings.Likeness.{Likeness}
use Rattle.mailmap_suggestions.specs.declared.findings.Likeness.TheVariants.{AlikeName, Email, Login, Name}

-- A line is no contact, or several people share an email, or an answer is like another, which is the proper one of those
-- that are alike; or git answers something else than this library.
pub data ContactFinding : Type 0 where
  no_contact : ℕ → ContactFinding
  shared_email : Text → Occurrences → ContactFinding
  is_like : Likeness → Tally → Tally → ContactFinding
  git_answers : Tally → ContactFinding

-- ---- their order

-- the number of its line
abbrev pub first_line_of : ContactFinding → ℕ
first_line_of (no_contact line) = line
first_line_of (shared_email email seen) = seen.first_line
first_line_of (is_like likeness a p) = a.seen.first_line
first_line_of (git_answers a) = a.seen.first_line

abbrev pub likeness_rank : Likeness → ℕ
likeness_rank Email = 1
likeness_rank Name = 3
likeness_rank AlikeName = 4
likeness_rank Login = 5

-- those of one line come in this order
abbrev pub rank_of : ContactFinding → ℕ
rank_of (no_contact line) = 0
rank_of (shared_email email seen) = 2
rank_of (is_like likeness a p) = likeness_rank likeness
rank_of (git_answers a) = 6

abbrev pub finding_place : ContactFinding → ℕ × ℕ
finding_place f = (first_line_of f, rank_of f)

abbrev pub place_cmp : ℕ × ℕ → ℕ × ℕ → Ordering
place_cmp a b = ordering_then (nat_cmp a.0 b.0) (nat_cmp a.1 b.1)

-- ---- the findings about a group for which entries are suggested

-- an answer with its occurrences among these, if it is one of them
abbrev pub seen_answer : List Tally → Contact → Option Tally
seen_answer seen a = option_map (λ s. record { contact = a; seen = s }) (seen_where (same_contact a) seen)

abbrev pub seen_among : List Tally → List Tally → List Tally
seen_among seen answers = flat_map (λ a. option_to_list (seen_answer seen a.contact)) answers

abbrev pub best_for : Kind → Option Tally → Option Tally → Option Tally
best_for by_name best suggested = best
best_for _ best suggested = suggested

-- The answer that the others are compared with: the one that is suggested, but for one name the proper one by how often
-- they are seen.
abbrev pub compared_with : List Tally → Suggestion → List Tally → Option Tally
compared_with seen s answers = best_for s.kind (proper answers) (seen_answer seen s.proper)

-- the others are like the best one
abbrev pub others_like : Likeness → Option Tally → List Tally → List ContactFinding
others_like likeness None answers = []
others_like likeness (Some best) answers =
    map (λ a. is_like likeness a best) (filter (λ a. not (same_contact a.contact best.contact)) answers)

-- an email, as often as all of these answers come
abbrev pub several_people : Text → List Tally → List ContactFinding
several_people email answers = option_to_list (option_map (shared_email email) (seen_where (λ c. true) answers))

abbrev pub findings_for : Kind → Option Tally → List Tally → List ContactFinding
findings_for by_email best = others_like Email best
findings_for (by_shared_email email) best = several_people email
findings_for by_name best = others_like Name best
findings_for by_alike_names best = others_like AlikeName best
findings_for (by_login login) best = others_like Login best

-- with all answers as often as they are seen without any suggestion
abbrev pub group_findings : List Tally → Suggestion → List ContactFinding
group_findings seen s =
    let answers = seen_among seen s.answers in findings_for s.kind (compared_with seen s answers) answers

-- ---- all findings

-- about lines of contacts, for what is suggested
abbrev pub findings_about : List Suggestion → Histories → List Text → List ContactFinding
findings_about found h lines =
    let ts = tallied (contacts_from 1 lines) in
    map no_contact (no_contacts_from 1 lines) ++ flat_map (group_findings (map (answered h.ours) ts)) found
    ++ map git_answers (git_answers_otherwise h lines)

-- with suggestions by these classes
abbrev pub contact_findings : GroupClasses → List Text → Histories → List Text → List ContactFinding
contact_findings c buffers h lines =
    let ts = tallied (contacts_from 1 lines) in
    findings_about (suggestions (shared_emails h ts) c (lines_in buffers) h ts) h lines

-- `found` has the findings about the contacts on lines, with the mailmaps in buffers, in the order of their lines.
pub record AreContactFindings (buffers lines : List Text) (found : List ContactFinding) : Type 0 where
  pub classes : GroupClasses
  pub are_classes : let h = histories_of buffers in
      let ts = tallied (contacts_from 1 lines) in
      AreGroupClasses (shared_emails h ts) h ts classes
  pub whole : IsPermutation (contact_findings classes buffers (histories_of buffers) lines) found
  pub in_order : IsSortedByKey finding_place place_cmp found
