-- What the contacts with an answer have, one by one, is what the answer has.
use Rattle.std.proofs.Common.{◌≡◌, ◌∙◌, ◌&&◌, ◌||◌, ◌==◌, ◌++◌, ℕ, Bool, true, false, not, true≢false, List, [], ◌∷◌, Some, ap, arith, bytes_eq, filter, flat_map, get_or, if◌then◌else◌, map, refl, subst, sym, ⊎_elim}
use Rattle.std.specs.Prelude.{position}
use Rattle.std.specs.List.{AllByRecursion, list_any}
use Rattle.std.proofs.lemmas.Bool.{and_from, and_parts, cases_Bool, eq-eqb, ne_eqb}
use Rattle.std.proofs.lemmas.List.Elements.{All-from_recursion}
use Rattle.std.proofs.lemmas.List.Folds.{list_any_at}
use Rattle.std.proofs.lemmas.List.Quantifiers.{position-Some}
use Rattle.std.proofs.lemmas.Option.{slice_get-get_or}
use Rattle.mailmap_contacts.proofs.Entries.{same_is}
use Rattle.mailmap_contacts.specs.Answers.{tally_of}
use Rattle.mailmap_contacts.specs.Contacts.{Contact, Tally, answer_to, answered, same_contact}
use Rattle.mailmap_entries.specs.Folding.{Text}
use Rattle.mailmap_entries.proofs.Parts.{all_mapped, all_weaker, any_either, list_any-append, list_any-map}
use Rattle.mailmap_names.specs.Keys.{is_among}
use Rattle.mailmap_suggestions.specs.Forms.{Histories}
use Rattle.mailmap_suggestions.specs.GroupEntries.{contacts}
use Rattle.mailmap_suggestions.specs.Links.{answered_by}
use Rattle.mailmap_suggestions.specs.LinkViews.{AreLinksOf, AreMembers, IsFirstOf, answer_in, contact_in, has_own, links_to}
use Rattle.mailmap_suggestions.specs.declared.members.Member.{Member}
use Rattle.mailmap_suggestions.proofs.Distinct.{◌∈◌, all_joined, all_of, at, each, from_filter}
use Rattle.mailmap_suggestions.proofs.ListTests.{and_any, any_alike, any_and, any_filter, any_in, any_joined, any_of}

abbrev pub is_same : Member → Member → Bool
is_same b m = same_contact (answer_in b) (answer_in m)

-- ---- the first contact with an answer

some_same : (a b : ℕ) → Some a ≡ Some b → a ≡ b
some_same a b is = cc

same_first : (ms : List Member) (b m : Member) → IsFirstOf ms b → IsFirstOf ms m → (b.first == m.first) ≡ is_same b m
same_first ms b m first_b first_m = ⊎_elim
    (λ yes. eq-eqb b.first m.first (some_same b.first m.first (sym first_b ∙ ap (λ a. position (λ (x : Member). same_contact (answer_in x) a) ms) (same_is (answer_in b) (answer_in m) yes) ∙ first_m)) ∙ sym yes)
    (λ no. ne_eqb b.first m.first (λ e. true≢false (sym (both e) ∙ no)) ∙ sym no)
    (cases_Bool (is_same b m))
  where
    both : b.first ≡ m.first → is_same b m ≡ true
    both e =
        let x : Member = get_or ms b.first b in
        let with_b : answer_in x ≡ answer_in b = same_is (answer_in x) (answer_in b) (position-Some (λ (x : Member). is_same x b) ms b.first b first_b).1 in
        let with_m : same_contact (answer_in x) (answer_in m) ≡ true = (position-Some (λ (x : Member). is_same x m) ms b.first b (first_m ∙ ap Some (sym e))).1 in
        ap (λ a. same_contact a (answer_in m)) (sym with_b) ∙ with_m

module _ (h : Histories) (ts : List Tally) (ms : List Member) (are : AreMembers h ts ms) where
  -- the first contact with an answer knows that it is
  has_first : (m : Member) → IsFirstOf ms m → list_any (λ b. is_same b m && b.is_first) ms ≡ true
  has_first m first =
      let found = position-Some (λ (b : Member). is_same b m) ms m.first m first in
      let b : Member = get_or ms m.first m in
      let first_b : IsFirstOf ms b = All-from_recursion (IsFirstOf ms) ms are.firsts m.first m found.0 in
      let number : (b.first == m.first) ≡ true = same_first ms b m first_b first ∙ found.1 in
      let is : b.is_first ≡ true = are.is_first m.first b (slice_get-get_or ms m.first m found.0) ∙ number in
      list_any_at (λ b. is_same b m && b.is_first) ms m.first m found.0 (and_from (is_same b m) b.is_first found.1 is)

  -- an answer is that to its contact
  answers_each : AllByRecursion (λ m. answer_in m ≡ answer_to h.ours (contact_in m).contact) ms
  answers_each = by ms (are.answers ∙ ap (map (answered h.ours)) (sym are.contacts))
    where
      tail : (x y : Tally) (xs ys : List Tally) → (x ∷ xs) ≡ (y ∷ ys) → (x ≡ y) × (xs ≡ ys)
      tail x y xs ys is = (cc, cc)

      by : (ms : List Member) → map (λ (m : Member). tally_of m.answer) ms ≡ map (answered h.ours) (map contact_in ms)
          → AllByRecursion (λ m. answer_in m ≡ answer_to h.ours (contact_in m).contact) ms
      by [] is = tt
      by (m ∷ ms) is =
          let both = tail (tally_of m.answer) (answered h.ours (contact_in m)) (map (λ (m : Member). tally_of m.answer) ms) (map (answered h.ours) (map contact_in ms)) is in
          (ap (λ (t : Tally). t.contact) both.0, by ms both.1)

  module _ (part : Contact → Contact → List Text) where
    -- what a contact has of an answer; the first contact with it, if it is another, also what the answer itself has
    abbrev pub parts_of : Member → List Text
    parts_of m = (if has_own m then part (answer_in m) (answer_in m) else []) ++ part (answer_in m) (contact_in m).contact

    abbrev pub all_parts : Contact → List Text
    all_parts a = flat_map (part a) (a ∷ answered_by h ts a)

    one_member : (a b c : Contact) (mark : Text) (own same : Bool) → same_contact b a ≡ same
        → (same && is_among ((if own then part b b else []) ++ part b c) mark)
        ≡ (((same && own) && is_among (part a a) mark) || (same && is_among (part a c) mark))
    one_member a b c mark own true is =
        ap (λ x. is_among ((if own then part x x else []) ++ part x c) mark) (same_is b a is)
        ∙ list_any-append (λ t. bytes_eq t mark) (if own then part a a else []) (part a c)
        ∙ ap (λ b. b || is_among (part a c) mark) (by own)
      where
        by : (f : Bool) → is_among (if f then part a a else []) mark ≡ ((true && f) && is_among (part a a) mark)
        by true = refl
        by false = refl
    one_member a b c mark own false is = refl

    of_contacts : (m : Member) (mark : Text)
        → list_any (λ b. is_same b m && is_among (part (answer_in m) (contact_in b).contact) mark) ms
        ≡ list_any (λ t. bytes_eq t mark) (flat_map (part (answer_in m)) (answered_by h ts (answer_in m)))
    of_contacts m mark =
        let a : Contact = answer_in m in
        let has : Contact → Bool = λ c. is_among (part a c) mark in
        let gets : Contact → Bool = λ c. same_contact (answer_to h.ours c) a in
        any_alike (λ b. is_same b m && has (contact_in b).contact) (λ b. gets (contact_in b).contact && has (contact_in b).contact) ms
        (all_weaker ms (λ b is. ap (λ x. same_contact x a && has (contact_in b).contact) is) answers_each)
        ∙ sym (list_any-map (λ (t : Tally). gets t.contact && has t.contact) contact_in ms)
        ∙ ap (list_any (λ (t : Tally). gets t.contact && has t.contact)) are.contacts
        ∙ sym (list_any-map (λ c. gets c && has c) (λ (t : Tally). t.contact) ts)
        ∙ sym (any_filter has gets (contacts ts))
        ∙ sym (any_joined (λ t. bytes_eq t mark) (part a) (answered_by h ts a))

    -- the first contact with an answer has what the answer has: as its own, or since it is the answer
    has_answer : (mark : Text) (m : Member) → IsFirstOf ms m → is_among (part (answer_in m) (answer_in m)) mark ≡ true
        → list_any (λ b. is_same b m && is_among (parts_of b) mark) ms ≡ true
    has_answer mark m first has =
        let found = any_of (λ b. is_same b m && b.is_first) ms (has_first m first) in
        let b : Member = found.0 in
        let both = and_parts (is_same b m) b.is_first found.2 in
        let mine : is_among (part (answer_in b) (answer_in b)) mark ≡ true = ap (λ x. is_among (part x x) mark) (same_is (answer_in b) (answer_in m) both.0) ∙ has in
        any_in (λ b. is_same b m && is_among (parts_of b) mark) ms b found.1
        (and_from (is_same b m) (is_among (parts_of b) mark) both.0 (either b both.1 mine))
      where
        last : (t : Bool) → (t || true) ≡ true
        last true = refl
        last false = refl

        either : (b : Member) → b.is_first ≡ true → is_among (part (answer_in b) (answer_in b)) mark ≡ true → is_among (parts_of b) mark ≡ true
        either b is_first mine = by (same_contact (answer_in b) (contact_in b).contact) refl
          where
            own : Text → Bool
            own t = bytes_eq t mark

            theirs : List Text
            theirs = part (answer_in b) (contact_in b).contact

            by : (s : Bool) → same_contact (answer_in b) (contact_in b).contact ≡ s → is_among (parts_of b) mark ≡ true
            by true is =
                list_any-append own (if has_own b then part (answer_in b) (answer_in b) else []) theirs
                ∙ ap (λ t. list_any own (if has_own b then part (answer_in b) (answer_in b) else []) || t)
                (ap (λ x. is_among (part (answer_in b) x) mark) (sym (same_is (answer_in b) (contact_in b).contact is)) ∙ mine)
                ∙ last (list_any own (if has_own b then part (answer_in b) (answer_in b) else []))
            by false is =
                ap (λ f. is_among ((if f then part (answer_in b) (answer_in b) else []) ++ theirs) mark) (λ i. is_first i && not (is i))
                ∙ list_any-append own (part (answer_in b) (answer_in b)) theirs ∙ ap (λ t. t || list_any own theirs) mine

    parts_at : (mark : Text) (m : Member) → IsFirstOf ms m
        → is_among (all_parts (answer_in m)) mark ≡ list_any (λ b. is_same b m && is_among (parts_of b) mark) ms
    parts_at mark m first =
        list_any-append (λ t. bytes_eq t mark) (part a a) (flat_map (part a) (answered_by h ts a)) ∙ ap (λ t. own || t) (sym (of_contacts m mark))
        ∙ by own refl
      where
        a : Contact
        a = answer_in m

        own : Bool
        own = is_among (part a a) mark

        theirs : Bool
        theirs = list_any (λ b. is_same b m && is_among (part a (contact_in b).contact) mark) ms

        some : Bool
        some = list_any (λ b. is_same b m && has_own b) ms

        each_is : list_any (λ b. is_same b m && is_among (parts_of b) mark) ms ≡ ((some && own) || theirs)
        each_is =
            any_alike (λ b. is_same b m && is_among (parts_of b) mark) (λ b. ((is_same b m && has_own b) && own) || (is_same b m && is_among (part a (contact_in b).contact) mark)) ms
            (all_of (λ b. (is_same b m && is_among (parts_of b) mark) ≡ (((is_same b m && has_own b) && own) || (is_same b m && is_among (part a (contact_in b).contact) mark)))
            (λ b. one_member a (answer_in b) (contact_in b).contact mark (has_own b) (is_same b m) refl) ms)
            ∙ sym (any_either (λ b. (is_same b m && has_own b) && own) (λ b. is_same b m && is_among (part a (contact_in b).contact) mark) ms)
            ∙ ap (λ t. t || theirs) (and_any (λ b. is_same b m && has_own b) own ms)

        gone : (s t : Bool) → ((s && false) || t) ≡ t
        gone s t = grind arith

        by : (t : Bool) → own ≡ t → (own || theirs) ≡ list_any (λ b. is_same b m && is_among (parts_of b) mark) ms
        by true is = ap (λ t. t || theirs) is ∙ sym (has_answer mark m first is)
        by false is = ap (λ t. t || theirs) is ∙ sym (each_is ∙ ap (λ t. (some && t) || theirs) is ∙ gone some theirs)

    -- what an answer has, in the parts of its contacts
    pub parts_among : (mark : Text) → AllByRecursion (λ m. is_among (all_parts (answer_in m)) mark ≡ list_any (λ b. is_same b m && is_among (parts_of b) mark) ms) ms
    parts_among mark = all_weaker ms (parts_at mark) are.firsts

    -- ---- links

    abbrev pub links_by : Member → List (Text × ℕ)
    links_by m = links_to m.first (parts_of m)

    any_link : (item number : ℕ) (mark : Text) (found : List Text)
        → list_any (λ l. bytes_eq l.0 mark && (l.1 == number)) (links_to item found) ≡ ((item == number) && is_among found mark)
    any_link item number mark found =
        list_any-map (λ (l : Text × ℕ). bytes_eq l.0 mark && (l.1 == number)) (λ mark. (mark, item)) found
        ∙ and_any (λ t. bytes_eq t mark) (item == number) found ∙ turned (is_among found mark) (item == number)
      where
        turned : (s t : Bool) → (s && t) ≡ (t && s)
        turned s t = grind arith

    module _ (takes : Contact → Bool) (marks_of : Contact → List Text)
        (have : (m : Member) → m ∈ ms → (mark : Text) → is_among (marks_of (answer_in m)) mark ≡ (takes (answer_in m) && is_among (all_parts (answer_in m)) mark)) where
      abbrev taken : List Member
      taken = filter (λ m. takes (answer_in m)) ms

      of_member : (b m : Member) (mark : Text) → (b.first == m.first) ≡ is_same b m
          → (takes (answer_in b) && list_any (λ l. bytes_eq l.0 mark && (l.1 == m.first)) (links_by b))
          ≡ (takes (answer_in m) && (is_same b m && is_among (parts_of b) mark))
      of_member b m mark number =
          ap (λ t. takes (answer_in b) && t) (any_link b.first m.first mark (parts_of b) ∙ ap (λ t. t && is_among (parts_of b) mark) number)
          ∙ by (is_same b m) refl
        where
          by : (s : Bool) → is_same b m ≡ s → (takes (answer_in b) && (s && is_among (parts_of b) mark)) ≡ (takes (answer_in m) && (s && is_among (parts_of b) mark))
          by true is = ap (λ a. takes a && is_among (parts_of b) mark) (same_is (answer_in b) (answer_in m) is)
          by false is = none (takes (answer_in b)) (takes (answer_in m))
            where
              none : (s t : Bool) → (s && false) ≡ (t && false)
              none s t = grind arith

      every_link : (m : Member) → m ∈ ms → (mark : Text)
          → list_any (λ l. bytes_eq l.0 mark && (l.1 == m.first)) (flat_map links_by taken) ≡ is_among (marks_of (answer_in m)) mark
      every_link m i mark =
          let first : IsFirstOf ms m = at (IsFirstOf ms) ms are.firsts m i in
          any_joined (λ l. bytes_eq l.0 mark && (l.1 == m.first)) links_by taken
          ∙ any_filter (λ b. list_any (λ l. bytes_eq l.0 mark && (l.1 == m.first)) (links_by b)) (λ b. takes (answer_in b)) ms
          ∙ any_alike (λ b. takes (answer_in b) && list_any (λ l. bytes_eq l.0 mark && (l.1 == m.first)) (links_by b))
          (λ b. takes (answer_in m) && (is_same b m && is_among (parts_of b) mark)) ms
          (all_weaker ms (λ b first_b. of_member b m mark (same_first ms b m first_b first)) are.firsts)
          ∙ any_and (takes (answer_in m)) (λ b. is_same b m && is_among (parts_of b) mark) ms
          ∙ ap (λ t. takes (answer_in m) && t) (sym (parts_at mark m first))
          ∙ sym (have m i mark)

      only_links : AllByRecursion (λ l. list_any (λ m. l.1 == m.first) ms ≡ true) (flat_map links_by taken)
      only_links = all_joined (λ (l : Text × ℕ). list_any (λ m. l.1 == m.first) ms ≡ true) links_by taken
          (each (λ b. AllByRecursion (λ l. list_any (λ m. l.1 == m.first) ms ≡ true) (links_by b)) taken (λ b i.
          let known : list_any (λ m. b.first == m.first) ms ≡ true =
          any_in (λ m. b.first == m.first) ms b (from_filter (λ m. takes (answer_in m)) ms b i).0 (eq-eqb b.first b.first refl) in
          all_mapped (λ mark. (mark, b.first)) (λ (l : Text × ℕ). list_any (λ m. l.1 == m.first) ms ≡ true) (parts_of b)
          (all_of (λ mark. list_any (λ m. b.first == m.first) ms ≡ true) (λ mark. known) (parts_of b))))

      -- the links of all that take part
      pub are_links : (links : List (Text × ℕ)) → links ≡ flat_map links_by taken → AreLinksOf marks_of ms links
      are_links links is = subst (AreLinksOf marks_of ms) (sym is) (record {
        every = each (λ m. (mark : Text) → list_any (λ l. bytes_eq l.0 mark && (l.1 == m.first)) (flat_map links_by taken) ≡ is_among (marks_of (answer_in m)) mark) ms every_link;
        only = only_links;
      })
