-- What is printed for an answer.
use Rattle.std.specs.Prelude.{Bool, true, List, [], None, Some, map}
use Rattle.std.specs.List.Sorted.{IsPermutation, IsStrictlySortedBy}
use Rattle.std.specs.Map.{keys_of}
use Rattle.mailmap_snapshot.specs.Entries.{Mapping}
use Rattle.mailmap_snapshot.specs.Folding.{Text}
use Rattle.std.specs.Ordering.{on}
use Rattle.std.specs.declared.cmp.Ordering.{Ordering}
use Rattle.mailmap_contacts.specs.Contacts.{Contact, contact_cmp, Tally, answer_to}
use Rattle.mailmap_contacts.specs.Counts.{SameTallies}
use Rattle.mailmap_contacts.specs.declared.occurrences.Occurrences.{Occurrences}
use Rattle.mailmap_shortlog.specs.Shortlog.{Counted, answer_text, order}
use Rattle.mailmap_shortlog.specs.declared.answer.Answer.{Answer}

abbrev pub printed : Answer → Text
printed a = elim a.email [
  | None ↦ a.name.now
  | Some email ↦ answer_text true (record { name = a.name.now; email = email.now })
]

-- a text, as something to be counted: a name without an email
abbrev pub alone : Text → Contact
alone text = record { name = text; email = [] }

-- the tally of the text that a contact counts for
abbrev pub text_tally : Bool → List Mapping → Tally → Tally
text_tally with_email h t = record { contact = alone (answer_text with_email (answer_to h t.contact)); seen = t.seen }

abbrev pub answer_cmp : Answer → Answer → Ordering
answer_cmp = on (λ a. alone (printed a)) contact_cmp

-- the views of an entry of the map
abbrev pub answer_tally : Answer × Occurrences → Tally
answer_tally e = record { contact = alone (printed e.0); seen = e.1 }

abbrev pub answer_counted : Answer × Occurrences → Counted
answer_counted e = record { text = printed e.0; count = e.1.count }

-- answers that have these tallies, in the order in which they are printed
pub record AreListed (by_count : Bool) (tallies : List Tally) (listed : List (Answer × Occurrences)) : Type 0 where
  pub answers : List (Answer × Occurrences)
  pub tallied : SameTallies (map answer_tally answers) tallies
  pub once : IsStrictlySortedBy answer_cmp (keys_of answers)
  pub moved : IsPermutation answers listed
  pub in_order : IsStrictlySortedBy (order by_count) (map answer_counted listed)
