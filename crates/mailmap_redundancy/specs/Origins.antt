-- The entries behind the answer to a name and an email, and git's answer.
use Rattle.std.specs.Prelude.{◌++◌, if◌then◌else◌, List, [], ◌∷◌, filter, is_some, Option, Some, None, option_to_list}
use Rattle.std.specs.Prelude.{unwrap_or}
use Rattle.std.specs.Option.{option_and_then, option_or}
use Rattle.std.specs.Ordering.{eq_by_cmp}
use Rattle.mailmap_entries.specs.Entries.{Mapping}
use Rattle.mailmap_entries.specs.Folding.{Text, folded, text_cmp}
use Rattle.mailmap_entries.specs.Semantics.{Fields, first, given_fields, last, last_fields, respelled, unless_empty}
use Rattle.mailmap_redundancy.specs.Redundancy.{LocatedMapping, entries_of_key}

-- the entries of a folded email, accepted or not
abbrev pub entries_of_email : List LocatedMapping → Text → List LocatedMapping
entries_of_email xs email = filter (λ x. eq_by_cmp text_cmp email (folded x.entry.old_email)) xs

-- the last entry that sets a field
abbrev pub last_with : (Mapping → Option Text) → List LocatedMapping → Option LocatedMapping
last_with field xs = last (filter (λ x. is_some (field x.entry)) xs)

-- An entry with the name as its old name hides those without an old name: only the last such entry counts. If there is
-- none, all entries without an old name count.
abbrev pub last_or_all : Option LocatedMapping → List LocatedMapping → List LocatedMapping
last_or_all (Some x) others = x ∷ []
last_or_all None others = others

abbrev pub those_that_count : List LocatedMapping → Text → Text → List LocatedMapping
those_that_count kept name email = last_or_all (last (entries_of_key kept (folded email, Some (folded name))))
    (entries_of_key kept (folded email, None))

-- the entries that set the new name and the new email; if none sets an email, the first entry of the email, whose
-- spelling counts
pub record Origins : Type 0 where
  pub name : Option LocatedMapping
  pub email : Option LocatedMapping
  pub spelling : Option LocatedMapping

abbrev pub with_spelling : Option LocatedMapping → Option LocatedMapping → Option LocatedMapping → Origins
with_spelling name email first = record { name = name; email = email; spelling = if is_some email then None else first }

abbrev pub origins : List LocatedMapping → Text → Text → Origins
origins kept name email =
    let those = those_that_count kept name email in
    with_spelling (last_with (λ e. e.new_name) those) (last_with (λ e. e.new_email) those)
    (first (entries_of_email kept (folded email)))

-- the answer that origins make; a spelling equal to the email byte for byte changes nothing
abbrev pub given : Origins → Text → Option Fields
given g email = unless_empty (record {
  name = option_and_then (λ x. x.entry.new_name) g.name;
  email = option_or (option_and_then (λ x. x.entry.new_email) g.email)
      (option_and_then (λ x. respelled x.entry.old_email email) g.spelling);
})

-- the answer needs only these entries
abbrev pub needed : Origins → List LocatedMapping
needed g = option_to_list g.name ++ option_to_list g.email ++ option_to_list g.spelling

-- ---- git's answer

-- git's answer from entries; if they set no new email, the contact keeps its own, spelled as it is
abbrev pub git_answer_from : List Mapping → Text → Text → Option Fields
git_answer_from h name email = unless_empty
    (unwrap_or (last_fields h (folded email, Some (folded name))) (given_fields h (folded email)))

-- the answer that origins make in git
abbrev pub git_given : Origins → Option Fields
git_given g = unless_empty (record {
  name = option_and_then (λ x. x.entry.new_name) g.name;
  email = option_and_then (λ x. x.entry.new_email) g.email;
})
