-- Emails that several people share, as the code has them.
use Rattle.std.specs.Prelude.{◌≡◌, if◌then◌else◌, List, [], ◌∷◌, bytes_eq, map}
use Rattle.std.specs.BTreeSet.{BTreeSet, contains}
use Rattle.std.specs.Borrow.{Bor}
use Rattle.std.specs.Cmp.Lexicographic.{slice_cmp}
use Rattle.std.specs.List.{list_any}
use Rattle.std.specs.Ordering.{nat_cmp}
use Rattle.mailmap_contacts.specs.Answers.{folded_cmp}
use Rattle.mailmap_contacts.specs.Contacts.{Contact}
use Rattle.mailmap_contacts.specs.Folded.{folded_text}
use Rattle.mailmap_contacts.specs.declared.folded.Folded.{Folded}
use Rattle.mailmap_entries.specs.Folding.{Text, folded}
use Rattle.mailmap_names.specs.declared.names.Name.{Name}
use Rattle.mailmap_suggestions.specs.Forms.{distinct}
use Rattle.mailmap_suggestions.specs.Shared.{are_several}

abbrev pub folded_texts : List Folded → List Text
folded_texts emails = map folded_text emails

abbrev pub names_in : List Name → List Text
names_in names = map (λ n. n.text.now) names

-- the set has just these emails
abbrev pub IsIndexOf : List Folded → BTreeSet Folded → Type 0
IsIndexOf emails index =
    (key : Folded) → contains folded_cmp index key ≡ list_any (bytes_eq (folded_text key)) (folded_texts emails)

-- the names so far: all of them in a set, and each once in a list
pub record AreDistinct (names : List Text) (seen : BTreeSet (Bor Text)) (kept : List (Bor Text)) : Type 0 where
  pub all : (name : Bor Text) → contains (λ a b. slice_cmp nat_cmp a.now b.now) seen name
      ≡ list_any (bytes_eq name.now) names
  pub once : map (λ n. n.now) kept ≡ distinct names

-- the email of contacts that all have it, if they have the names of several people
abbrev pub several_email : List Contact → List Text
several_email [] = []
several_email (c ∷ cs) = if are_several (distinct (map (λ a. a.name) (c ∷ cs))) then folded c.email ∷ [] else []
