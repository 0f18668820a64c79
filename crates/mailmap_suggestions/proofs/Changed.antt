-- What the code keeps of appended entries: what these change for one old email.
use Rattle.std.proofs.Common.{◌≡◌, true, false, List, [], ◌∷◌, Option, Some, refl, sym, rules, cond, ◌&&◌, ◌++◌, is_some, bytes_eq, Bor, arith}
use Rattle.std.specs.Option.{option_or, option_copied}
use Rattle.mailmap_entries.specs.Entries.{Mapping}
use Rattle.mailmap_entries.specs.Folding.{Text, folded}
use Rattle.mailmap_entries.specs.Semantics.{given_fields, last_fields, new_fields, is_accepted}
use Rattle.mailmap_entries.proofs.Building.{same_text}
use Rattle.mailmap_contacts.specs.Contacts.{Contact, answer_to, same_contact}
use Rattle.mailmap_entries.proofs.Parts.{last_of_one}
use Rattle.mailmap_suggestions.specs.Private.{fields_to, AreChangesBy, IsPlain, after, are_enough, given_in}
use Rattle.mailmap_suggestions.specs.Forms.{Histories, git_answer_to, is_answered, own_key, plus, name_unless_empty, named_form}
use Rattle.mailmap_entries.proofs.Joined.{never}
use Rattle.std.proofs.lemmas.Bool.{or_right}
use Rattle.std.specs.BTreeMap.{is_at}
use Rattle.std.specs.BTreeSet.{contains}
use Rattle.std.proofs.lemmas.Map.Text.{is_eq-slice_cmp}
use Rattle.mailmap_contacts.specs.Answers.{folded_cmp, tally_of}
use Rattle.mailmap_contacts.specs.declared.answers.Tally.{Tally as TheTally}
use Rattle.mailmap_contacts.specs.declared.folded.Folded.{Folded}
use Rattle.mailmap_suggestions.specs.declared.changes.Changes.{Changes}
use Rattle.mailmap_suggestions.proofs.Appended.{answer_is, git_is, given_joined, last_joined, no_given, no_own, none_of_key, one_of_key, own_fields, spelled, spelling_joined}

-- ==== answers after appended entries, by what these change for the contact's old email

module _ (h : List Mapping) (to : Contact) (t : TheTally) (a : Changes) (added : List Mapping) (changed : AreChangesBy to (folded t.email.now) added a) where
  abbrev who : Contact
  who = (tally_of t).contact

  abbrev key_of : Folded
  key_of = record { text = t.name }

  -- this library's answer and git's
  answers_after : (answer_to (h ++ added) who ≡ after a to t (answer_to h who) (is_some (own_fields h who)) (is_some (spelled h who)))
      × (git_answer_to (h ++ added) who ≡ after a to t (git_answer_to h who) (is_some (own_fields h who)) true)
  answers_after = (
    grind (arith, answer_is (h ++ added) who, answer_is h who, last_joined h added (own_key who), given_joined h added (folded who.email), spelling_joined h added (folded who.email), changed.owned key_of, changed.given, changed.spelled, no_own h who, no_given h (folded who.email)),
    grind (arith, git_is (h ++ added) who, git_is h who, last_joined h added (own_key who), given_joined h added (folded who.email), changed.owned key_of, changed.given),
  )

pub enough_is : (h : Histories) (to : Contact) (t : TheTally) (a : Changes) (added : List Mapping) → AreChangesBy to (folded t.email.now) added a
    → are_enough a h to t ≡ is_answered (plus h added) to (tally_of t).contact
unfolding are_enough
enough_is h to t a added changed =
    λ i. same_contact (sym (answers_after h.ours to t a added changed).0 i) to && same_contact (sym (answers_after h.gits to t a added changed).1 i) to

-- ==== what entries for one old email change, kept by old names

-- ---- one entry

pub changes_plain : (to : Contact) (email : Text) (x : Mapping) (a : Changes) → IsPlain email x → a.names.keys ≡ [] → given_in a ≡ new_fields x → option_copied a.spelling ≡ Some x.old_email → AreChangesBy to email (x ∷ []) a
changes_plain to email x a plain unnamed given spelled = record {
  given = search (rules, one_of_key, last_of_one);
  owned = λ q. search (rules, none_of_key, never);
  spelled = search (rules, same_text);
}

-- ---- one more entry with an old name

module _ (to c : Contact) where
  abbrev form : Mapping
  form = named_form to c

  good : is_accepted form ≡ true
  good = or_right (is_some (name_unless_empty to)) true refl

  given_still : (added : List Mapping) (email : Text) → given_fields (added ++ form ∷ []) email ≡ given_fields added email
  given_still added email = search (rules, given_joined)

  owned_same : (added : List Mapping) (name : Text) → folded c.name ≡ name → last_fields (added ++ form ∷ []) (folded c.email, Some name) ≡ Some (fields_to to)
  owned_same added name is = search (rules, last_joined, one_of_key, good)

  owned_other : (added : List Mapping) (name : Text) → bytes_eq (folded c.name) name ≡ false → last_fields (added ++ form ∷ []) (folded c.email, Some name) ≡ last_fields added (folded c.email, Some name)
  owned_other added name other = search (rules, last_joined, none_of_key, good, is_eq-slice_cmp, never)

  -- with the contact's old name, and its email if nothing was appended before
  pub changes_named : (added : List Mapping) (a b : Changes) (k : Folded) → k.text.now ≡ c.name → AreChangesBy to (folded c.email) added a
      → ((q : Folded) → contains folded_cmp b.names q ≡ cond (is_at (folded_cmp k) q) true (contains folded_cmp a.names q))
      → given_in b ≡ given_in a → option_copied b.spelling ≡ option_or (option_copied a.spelling) (Some c.email)
      → AreChangesBy to (folded c.email) (added ++ form ∷ []) b
  changes_named added a b k is before names given spelled =
      search (rules, given_still, owned_same, owned_other, spelling_joined, is_eq-slice_cmp)

pub spelled_or : (o : Option (Bor Text)) (email : Bor Text) → option_copied (option_or o (Some email)) ≡ option_or (option_copied o) (Some email.now)
spelled_or o email = grind arith
