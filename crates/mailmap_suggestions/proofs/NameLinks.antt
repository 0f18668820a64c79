-- The links of answers by their names.
use Rattle.std.proofs.Common.{◌≡◌, ◌∙◌, ◌&&◌, ◌++◌, Bool, true, false, List, [], ap, filter, flat_map, if◌then◌else◌, refl, sym}
use Rattle.std.proofs.lemmas.List.{map-append}
use Rattle.std.proofs.lemmas.List.Folds.{flat_map-map}
use Rattle.mailmap_contacts.specs.Contacts.{Contact, Tally}
use Rattle.mailmap_entries.specs.Folding.{Text}
use Rattle.mailmap_names.specs.Keys.{is_among, marks}
use Rattle.mailmap_suggestions.specs.Forms.{Histories}
use Rattle.mailmap_suggestions.specs.Links.{answered_by, name_marks, names_of, takes_part}
use Rattle.mailmap_suggestions.specs.LinkViews.{AreLinksOf, AreMembers, answer_in, contact_in, has_own, links_to, name_links_of}
use Rattle.mailmap_suggestions.specs.declared.members.Member.{Member}
use Rattle.mailmap_suggestions.proofs.MemberMarks.{all_parts, are_links, links_by}

-- all links of the contacts that take part
pub name_links_are_links : (shared : List Text) (h : Histories) (ts : List Tally) (ms ps : List Member) → AreMembers h ts ms
    → ps ≡ filter (λ m. takes_part shared h ts (answer_in m)) ms → AreLinksOf (name_marks shared h ts) ms (flat_map name_links_of ps)
name_links_are_links shared h ts ms ps are is =
    are_links h ts ms are part (takes_part shared h ts) (name_marks shared h ts) (λ m _. have (answer_in m)) (flat_map name_links_of ps)
    (ap (flat_map name_links_of) is ∙ (λ i. flat_map (links_is i) (filter (λ m. takes_part shared h ts (answer_in m)) ms)))
  where
    part : Contact → Contact → List Text
    part a c = marks c.name

    of_names : (a : Contact) → flat_map marks (names_of h ts a) ≡ all_parts h ts ms are part a
    of_names a = ap (λ l. marks a.name ++ l) (flat_map-map marks (λ (c : Contact). c.name) (answered_by h ts a))

    have : (a : Contact) (mark : Text) → is_among (name_marks shared h ts a) mark ≡ (takes_part shared h ts a && is_among (all_parts h ts ms are part a) mark)
    have a mark = by (takes_part shared h ts a)
      where
        by : (t : Bool) → is_among (if t then flat_map marks (names_of h ts a) else []) mark ≡ (t && is_among (all_parts h ts ms are part a) mark)
        by true = ap (λ l. is_among l mark) (of_names a)
        by false = refl

    links_is : name_links_of ≡ links_by h ts ms are part
    links_is i m = by (has_own m) i
      where
        by : (f : Bool) → ((if f then links_to m.first (marks (answer_in m).name) else []) ++ links_to m.first (marks (contact_in m).contact.name))
            ≡ links_to m.first ((if f then marks (answer_in m).name else []) ++ marks (contact_in m).contact.name)
        by true = sym (map-append (λ mark. (mark, m.first)) (marks (answer_in m).name) (marks (contact_in m).contact.name))
        by false = refl
