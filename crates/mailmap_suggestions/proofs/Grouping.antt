-- Contacts with their classes, and groups that have all contacts with their answers.
use Rattle.std.proofs.Common.{◌≡◌, ◌∙◌, ◌<◌, ◌==◌, ◌&&◌, ◌||◌, ℕ, Bool, true, false, true≢false, not, List, [], ◌∷◌, ap, arith, bytes_eq, filter, length, map, refl, subst, sym, ⊎_elim}
use Rattle.std.specs.Global.{Vec}
use Rattle.std.specs.List.{All, AllByRecursion, list_any}
use Rattle.std.proofs.lemmas.Bool.{cases_Bool}
use Rattle.std.proofs.lemmas.List.{length-map}
use Rattle.std.proofs.lemmas.List.Elements.{All-from_recursion, filter_agree}
use Rattle.std.proofs.lemmas.List.Quantifiers.{position-Some}
use Rattle.std.proofs.lemmas.Simd.{map-map}
use Rattle.mailmap_contacts.specs.declared.answers.Tally.{Tally as TheTally}
use Rattle.mailmap_contacts.specs.Answers.{tally_of}
use Rattle.mailmap_contacts.specs.Contacts.{Contact, Tally, answer_to, answered, same_contact, tallied}
use Rattle.mailmap_contacts.proofs.Entries.{same_is}
use Rattle.mailmap_contacts.proofs.Steps.{all_filtered}
use Rattle.mailmap_contacts.proofs.Tallied.{each_tallied}
use Rattle.mailmap_entries.specs.Folding.{Text}
use Rattle.mailmap_entries.proofs.Parts.{all_map, all_mapped, all_weaker, filter-filter, filter-map}
use Rattle.mailmap_suggestions.specs.Forests.{link_of, links_of}
use Rattle.mailmap_suggestions.specs.Forms.{Histories}
use Rattle.mailmap_suggestions.specs.GroupEntries.{are_alike, classes, contacts, groups, members}
use Rattle.mailmap_suggestions.specs.Links.{answered_by, answers}
use Rattle.mailmap_suggestions.specs.LinkViews.{AreLinksOf, AreMembers, AreWhole, answer_in}
use Rattle.mailmap_suggestions.specs.Private.{tallies_in, text_of}
use Rattle.mailmap_suggestions.specs.declared.classes.Link.{Link}
use Rattle.mailmap_suggestions.specs.declared.members.Member.{Member}
use Rattle.mailmap_suggestions.proofs.Distinct.{all_of}

any_of : {X : Type 0} (P : X → Type 0) (p : X → Bool) (xs : List X) → AllByRecursion P xs → list_any p xs ≡ true → (x : X) × (p x ≡ true) × P x
any_of P p [] all is = absurd (true≢false (sym is))
any_of P p (x ∷ xs) all is = ⊎_elim (λ yes. (x, yes, all.0)) (λ no. any_of P p xs all.1 (ap (λ b. b || list_any p xs) (sym no) ∙ is)) (cases_Bool (p x))

-- ---- contacts with their answers

module _ (h : Histories) (ts : List Tally) (ms : List Member) (are : AreMembers h ts ms) where
  firsts_below : AllByRecursion (λ m. m.first < length ms) ms
  firsts_below = all_weaker ms (λ m is. (position-Some (λ b. same_contact (answer_in b) (answer_in m)) ms m.first m is).0) are.firsts

  -- the first contact with an answer is one of them
  pub each_first : All (λ m. m.first < length ms) ms
  each_first = All-from_recursion (λ m. m.first < length ms) ms firsts_below

  -- and so is that of each link
  pub each_link : (marks_of : Contact → List Text) (links : List Link) → AreLinksOf marks_of ms (links_of links) → All (λ link. link.item < length ms) links
  each_link marks_of links all =
      All-from_recursion (λ link. link.item < length ms) links (all_map link_of (λ l. l.1 < length ms) links (all_weaker (links_of links) below all.only))
    where
      below : (l : Text × ℕ) → list_any (λ m. l.1 == m.first) ms ≡ true → l.1 < length ms
      below l is = let first = any_of (λ m. m.first < length ms) (λ m. l.1 == m.first) ms firsts_below is in grind (arith, first.1, first.2)

  -- the classes of their answers
  pub class_texts : (class : Contact → Text) → map (λ m. class (answer_in m)) ms ≡ map (text_of class h) ts
  class_texts class =
      sym (map-map (λ (t : Tally). class t.contact) (λ (m : Member). tally_of m.answer) ms)
      ∙ ap (map (λ (t : Tally). class t.contact)) are.answers ∙ map-map (λ (t : Tally). class t.contact) (answered h.ours) ts

-- lists with the same texts for their elements are equally long
pub same_length : {X Y : Type 0} (f : X → Text) (g : Y → Text) (xs : List X) (ys : List Y) → map f xs ≡ map g ys → length xs ≡ length ys
same_length f g xs ys is = sym (length-map xs f) ∙ ap length is ∙ length-map ys g

-- ---- groups

module _ (class : Contact → Text) (h : Histories) (ts : List Tally) where
  abbrev has_class : Text → Contact → Bool
  has_class k a = bytes_eq k (class a)

  answered_whole : (k : Text) (a : Contact) → has_class k a ≡ true → answered_by h (members class h ts k) a ≡ answered_by h ts a
  answered_whole k a is =
      let gets : Contact → Bool = λ c. same_contact (answer_to h.ours c) a in
      let has : Contact → Bool = λ c. has_class k (answer_to h.ours c) in
      ap (filter gets) (sym (filter-map has (λ (t : Tally). t.contact) ts)) ∙ filter-filter gets has (contacts ts)
      ∙ filter_agree (λ c. has c && gets c) gets (λ c. one (answer_to h.ours c)) (contacts ts)
    where
      one : (b : Contact) → (has_class k b && same_contact b a) ≡ same_contact b a
      one b = elim (same_contact b a) as (λ s. same_contact b a ≡ s → (has_class k b && s) ≡ s) [
        | true ↦ λ same. ap (λ t. t && true) (ap (has_class k) (same_is b a same) ∙ is)
        | false ↦ λ _. elim (has_class k b) as (λ t. (t && false) ≡ false) [ true ↦ refl | false ↦ refl ]
      ] refl

  have_class : (k : Text) → AllByRecursion (λ a. has_class k a ≡ true) (answers h (members class h ts k))
  have_class k =
      let us = members class h ts k in
      let P : Contact → Type 0 = λ a. has_class k a ≡ true in
      all_mapped (λ (t : Tally). t.contact) P (tallied (map (answered h.ours) us))
      (each_tallied P (map (answered h.ours) us)
      (all_mapped (answered h.ours) (λ (t : Tally). P t.contact) us
      (all_filtered (λ t. has_class k (answer_to h.ours t.contact)) (λ t. Unit {0}) (λ t. P (answer_to h.ours t.contact)) (λ t _ has. has) ts
      (all_of (λ t. Unit {0}) (λ t. tt) ts))))

  -- a group has all contacts with its answers
  groups_whole : AllByRecursion (AreWhole h ts) (groups class h ts)
  groups_whole =
      let keys = classes class h (contacts ts) in
      all_filtered (λ g. not (are_alike h (contacts g))) (AreWhole h ts) (AreWhole h ts) (λ g whole _. whole) (map (members class h ts) keys)
      (all_mapped (members class h ts) (AreWhole h ts) keys
      (all_of (λ k. AreWhole h ts (members class h ts k)) (λ k. all_weaker (answers h (members class h ts k)) (answered_whole k) (have_class k)) keys))

  pub each_whole : (gs : List (Vec TheTally)) → map tallies_in gs ≡ groups class h ts → All (λ g. AreWhole h ts (tallies_in g)) gs
  each_whole gs are = All-from_recursion (λ g. AreWhole h ts (tallies_in g)) gs
      (all_map tallies_in (AreWhole h ts) gs (subst (AllByRecursion (AreWhole h ts)) (sym are) groups_whole))
