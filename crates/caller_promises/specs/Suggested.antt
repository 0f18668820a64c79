-- Mailmaps with suggested lines appended, and what is promised of their answers.
use Rattle.std.specs.Prelude.{◌≡◌, Bool, List, [], ◌∷◌, ◌++◌, true}
use Rattle.std.specs.List.{AllByRecursion, flat_map}
use Rattle.bstr.specs.Text.{lines_of}
use Rattle.gix_mailmap.specs.Entries.{Mapping}
use Rattle.gix_mailmap.specs.Folding.{Text, folded}
use Rattle.gix_mailmap.specs.GitAnswers.{git_mappings}
use Rattle.gix_mailmap.specs.Lines.{mappings_of}
use Rattle.gix_mailmap.specs.CountedContacts.{Contact, Tally, answer_to, contacts_from, tallied}
use Rattle.mailmap_snapshot.specs.declared.actor.Signature.{Signature}
use Rattle.gix_mailmap.specs.Forms.{alike, git_answer_to, is_shared}
use Rattle.gix_mailmap.specs.GroupEntries.{Unites, contacts, uncut_email_class}
use Rattle.gix_mailmap.specs.Histories.{histories_of}
use Rattle.gix_mailmap.specs.Selections.{AllAgreeBut, Selection, Selects, after_emails, after_names}
use Rattle.gix_mailmap.specs.Selections.{by_email, by_login, by_name, has_cut_email, is_left_out}
use Rattle.gix_mailmap.specs.Selections.{is_left_out_later, uncut_class}
use Rattle.gix_mailmap.specs.Shared.{shared_emails}
use Rattle.gix_mailmap.specs.SuggestedText.{feed_after}
use Rattle.gix_mailmap.specs.Suggestions.{AreGroupClasses, GroupClasses, lines_in}
use Rattle.gix_mailmap.specs.Written.{ContactHoldsNoZero, selected_text}

-- ---- mailmaps and contacts

-- mailmaps, of which this is the last
abbrev pub with_last : List Text → Text → List Text
with_last others last = others ++ last ∷ []

abbrev pub mappings_in : List Text → List Mapping
mappings_in mailmaps = flat_map mappings_of mailmaps

abbrev pub git_mappings_in : List Text → List Mapping
git_mappings_in mailmaps = flat_map git_mappings mailmaps

-- the contacts on the lines of a text, each once, in the order in which they first come
abbrev pub contacts_in : Text → List Tally
contacts_in text = tallied (contacts_from 1 (lines_of text))

-- no name and no email of a contact on the lines holds a zero byte
abbrev pub HoldNoZero : Text → Type 0
HoldNoZero text = AllByRecursion (λ t. ContactHoldsNoZero t.contact) (contacts_from 1 (lines_of text))

-- the name and the email of a signature
abbrev pub contact_in : Signature → Contact
contact_in s = record { name = s.name.items; email = s.email.items }

-- ---- answers

-- this library and git answer a contact as before
abbrev pub AnswersStay : List Mapping → List Mapping → Contact → Type 0
AnswersStay h g c = (answer_to g c ≡ answer_to h c) × (git_answer_to g c ≡ git_answer_to h c)

-- The mappings g answer contacts as h does, but those whose answers have one email by the proper one of these answers,
-- here and in git. So all of one email are one. But nobody changes whose answer has no email, or one that several people
-- share, or one for which git would cut a line; and no two contacts get one answer unless their answers had one email.
pub record AreUnited (h g : List Mapping) (ts : List Tally) : Type 0 where
  pub emails : let shared = shared_emails (alike h) ts in Unites shared (uncut_email_class shared h ts) h ts g
  pub others : AllByRecursion (λ c. uncut_email_class (shared_emails (alike h) ts) h ts (answer_to h c) ≡ []
      → AnswersStay h g c) (contacts ts)
  pub at_shared : AllByRecursion (λ c. is_shared (shared_emails (alike h) ts) (answer_to h c).email ≡ true
      → AnswersStay h g c) (contacts ts)
  pub joined : AllByRecursion (λ b. AllByRecursion (λ c. answer_to g b ≡ answer_to g c
      → folded (answer_to h b).email ≡ folded (answer_to h c).email) (contacts ts)) (contacts ts)

-- With a text appended to the last mailmap, git reads all mailmaps as this library does, and both answer the contacts so.
abbrev pub UnitesAppended : List Text → Text → Text → Text → Type 0
UnitesAppended others last text contacts =
    let g = mappings_in (with_last others (last ++ text)) in
    (git_mappings_in (with_last others (last ++ text)) ≡ g)
    × AreUnited (mappings_in (with_last others last)) g (contacts_in contacts)

-- ---- with the marks deleted of some groups

-- what was suggested for contacts, without the marks before the lines of the groups whose classes pass: one test is for
-- the groups by name, and one for those by login
pub record IsEdited (mailmaps : List Text) (contacts : Text) (c : GroupClasses) (passes next_passes : Text → Bool)
    (text : Text) : Type 0 where
  pub are_classes : let h = histories_of mailmaps in
      AreGroupClasses (shared_emails h (contacts_in contacts)) h (contacts_in contacts) c
  pub is : let h = histories_of mailmaps in
      let ts = contacts_in contacts in
      text ≡ feed_after mailmaps ++ selected_text (shared_emails h ts) c passes next_passes (lines_in mailmaps) h ts

-- what is selected then
abbrev pub selection_of : List Text → List Tally → GroupClasses → (Text → Bool) → (Text → Bool) → Selection
selection_of mailmaps ts c passes next_passes = let h = mappings_in mailmaps in record {
  shared = shared_emails (alike h) ts;
  mappings = h;
  tallies = ts;
  classes = c;
  names_pass = passes;
  logins_pass = next_passes;
  seen = lines_in mailmaps;
}

-- no two answers by the mappings g have one email that one person has, and differ
abbrev pub EmailsAgree : Selection → List Mapping → Type 0
EmailsAgree s g = AllAgreeBut (has_cut_email s) (uncut_class (by_email s)) g (contacts s.tallies)

-- With an edited text appended to the last mailmap, git reads all as this library does. Contacts of a selected group by
-- login get its proper answer, here and in git, and others are answered as with the selected groups by name alone. With
-- these, contacts of such a group get its proper answer, and others are answered as with the entries for emails. All of
-- one email are still one.
pub record SelectsAppended (others : List Text) (last text contacts : Text) (c : GroupClasses)
    (passes next_passes : Text → Bool) : Type 0 where
  pub read : git_mappings_in (with_last others (last ++ text)) ≡ mappings_in (with_last others (last ++ text))
  pub by_name : let s = selection_of (with_last others last) (contacts_in contacts) c passes next_passes in
      Selects s.seen (is_left_out s) (by_name s) (after_emails s) (after_names s)
  pub by_login : let s = selection_of (with_last others last) (contacts_in contacts) c passes next_passes in
      Selects s.seen (is_left_out_later s) (by_login s) (after_names s) (mappings_in (with_last others (last ++ text)))
  pub emails : let s = selection_of (with_last others last) (contacts_in contacts) c passes next_passes in
      EmailsAgree s (mappings_in (with_last others (last ++ text)))
