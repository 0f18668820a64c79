-- The keys of names and logins, with the answers that have them, and the links of answers by these.
use Rattle.std.proofs.Common.{◌≡◌, ◌∙◌, ◌&&◌, ◌||◌, ◌==◌, ◌++◌, ℕ, Bool, true, false, not, true≢false, List, [], ◌∷◌, Option, None, Some, ap, arith, bytes_eq, filter, flat_map, if◌then◌else◌, is_some, length, map, refl, sym, subst}
use Rattle.std.specs.List.{AllByRecursion, list_any}
use Rattle.std.proofs.lemmas.Bool.{and_from, and_parts, false_from_ne_true}
use Rattle.std.proofs.lemmas.Cmp.{nat_list_eq_equiv}
use Rattle.std.proofs.lemmas.List.Folds.{flat_map-map}
use Rattle.std.proofs.lemmas.Map.Views.{any-filter_same}
use Rattle.mailmap_contacts.specs.Answers.{tally_of}
use Rattle.mailmap_contacts.specs.Contacts.{Contact, Tally, answered, has_text, same_contact, tallied}
use Rattle.mailmap_contacts.proofs.Entries.{same_is}
use Rattle.mailmap_contacts.proofs.Tallied.{itself}
use Rattle.mailmap_entries.specs.Folding.{Text}
use Rattle.mailmap_entries.proofs.Parts.{all_weaker, any_either, list_any-append, list_any-map}
use Rattle.mailmap_names.specs.Keys.{first_words, is_among, keys}
use Rattle.mailmap_suggestions.specs.Forms.{Histories}
use Rattle.mailmap_suggestions.specs.Links.{all_name_keys, another_has, answered_by, answers, email_keys, emails_of, first_keys, is_first_name}
use Rattle.mailmap_suggestions.specs.Links.{login_marks, mail_keys, name_keys, names_of, participants, takes_part}
use Rattle.mailmap_suggestions.specs.LinkViews.{AreLinksOf, AreLoginKeys, AreMembers, HoldersOf, answer_in, contact_in, email_links_of, has_key, has_own}
use Rattle.mailmap_suggestions.specs.LinkViews.{holder_of, is_another, is_login_in, is_name_in, is_several, known_email_keys, links_to, name_key_links_of, own_and, pairs_by}
use Rattle.mailmap_suggestions.specs.declared.holders.Holder.{Holder}
use Rattle.mailmap_suggestions.specs.declared.holders.Holders.{Holders}
use Rattle.mailmap_suggestions.specs.declared.links.LoginKeys.{LoginKeys}
use Rattle.mailmap_suggestions.specs.declared.members.Member.{Member}
use Rattle.mailmap_suggestions.proofs.Distinct.{◌∈◌, all_of, same_bytes}
use Rattle.mailmap_suggestions.proofs.ListTests.{and_any, any_alike, any_and, any_filter, any_in, any_joined, any_of, any_pair}
use Rattle.mailmap_suggestions.proofs.MemberMarks.{all_parts, are_links, is_same, links_by, parts_among, parts_of}

-- ==== links in another order

none_fails : {X : Type 0} (test : X → Bool) (xs : List X) → AllByRecursion (λ x. test x ≡ true) xs → list_any (λ x. not (test x)) xs ≡ false
none_fails test [] all = refl
none_fails test (x ∷ xs) all = (λ i. not (all.0 i) || none_fails test xs all.1 i)

all_pass : {X : Type 0} (test : X → Bool) (xs : List X) → list_any (λ x. not (test x)) xs ≡ false → AllByRecursion (λ x. test x ≡ true) xs
all_pass test [] is = tt
all_pass test (x ∷ xs) is = by (test x) refl (all_pass test xs) is
  where
    by : (b : Bool) → test x ≡ b → (list_any (λ x. not (test x)) xs ≡ false → AllByRecursion (λ x. test x ≡ true) xs)
        → (not b || list_any (λ x. not (test x)) xs) ≡ false → (test x ≡ true) × AllByRecursion (λ x. test x ≡ true) xs
    by true same rest is = (same, rest is)
    by false same rest is = absurd (true≢false is)

same_links : (marks_of : Contact → List Text) (ms : List Member) (links others : List (Text × ℕ))
    → ((p : Text × ℕ → Bool) → list_any p links ≡ list_any p others) → AreLinksOf marks_of ms others → AreLinksOf marks_of ms links
same_links marks_of ms links others same are = record {
  every = all_weaker ms (λ m is mark. same (λ l. bytes_eq l.0 mark && (l.1 == m.first)) ∙ is mark) are.every;
  only = all_pass known links (same (λ l. not (known l)) ∙ none_fails known others are.only);
}
  where
    known : Text × ℕ → Bool
    known l = list_any (λ m. l.1 == m.first) ms

-- ==== answers, each once

turned : (a b : Contact) → same_contact a b ≡ same_contact b a
turned a b = λ i. nat_list_eq_equiv.symm a.name b.name i && nat_list_eq_equiv.symm a.email b.email i

any_tallied : (passes : Contact → Bool) (ts : List Tally) → list_any (λ t. passes t.contact) (tallied ts) ≡ list_any (λ t. passes t.contact) ts
any_tallied passes [] = refl
any_tallied passes (t ∷ ts) = by (passes t.contact) refl (any_tallied passes ts)
  where
    others : List Tally
    others = filter (λ u. not (same_contact t.contact u.contact)) (tallied ts)

    kept : passes t.contact ≡ false → (u : Tally) → (not (same_contact t.contact u.contact) && passes u.contact) ≡ passes u.contact
    kept fails u = elim (same_contact t.contact u.contact) as (λ s. same_contact t.contact u.contact ≡ s → (not s && passes u.contact) ≡ passes u.contact) [
      | true ↦ λ same. sym fails ∙ ap passes (same_is t.contact u.contact same)
      | false ↦ λ _. refl
    ] refl

    by : (b : Bool) → passes t.contact ≡ b → list_any (λ t. passes t.contact) (tallied ts) ≡ list_any (λ t. passes t.contact) ts
        → (b || list_any (λ t. passes t.contact) others) ≡ (b || list_any (λ t. passes t.contact) ts)
    by true is rest = refl
    by false is rest =
        any_filter (λ t. passes t.contact) (λ u. not (same_contact t.contact u.contact)) (tallied ts)
        ∙ any_alike (λ u. not (same_contact t.contact u.contact) && passes u.contact) (λ u. passes u.contact) (tallied ts)
        (all_of (λ u. (not (same_contact t.contact u.contact) && passes u.contact) ≡ passes u.contact) (kept is) (tallied ts))
        ∙ rest

-- ==== keys with the answers that have them

among_filter : (passes : Text → Bool) (mark : Text) (xs : List Text) → is_among (filter passes xs) mark ≡ (passes mark && is_among xs mark)
among_filter passes mark xs = any-filter_same (λ t. bytes_eq t mark) passes (passes mark) (λ t is. ap passes (same_bytes t mark is)) xs

-- another contact than this one
abbrev other_than : Contact → Contact
other_than a = record { name = 0 ∷ a.name; email = a.email }

is_other : (a : Contact) → same_contact a (other_than a) ≡ false
is_other a = ap (λ t. t && bytes_eq a.email a.email) (false_from_ne_true (bytes_eq a.name (0 ∷ a.name)) (λ same. longer (ap length (same_bytes a.name (0 ∷ a.name) same))))
  where
    longer : length a.name ≡ length (0 ∷ a.name) → ⊥
    longer e = omega arith

some_is : (o : Option Holder) (a : Contact) → is_another o a ≡ true → is_some o ≡ true
some_is None a is = is
some_is (Some holder) a is = refl

-- whether a key is that of an answer, and of another one
several_is : (has : Contact → Bool) (xs : List Contact) (o : Option Holder) → ((a : Contact) → is_another o a ≡ list_any (λ b. not (same_contact b a) && has b) xs)
    → is_several o ≡ list_any (λ a. has a && list_any (λ b. not (same_contact b a) && has b) xs) xs
several_is has xs None is =
    sym (any_alike (λ a. has a && list_any (λ b. not (same_contact b a) && has b) xs) (λ a. has a && false) xs
    (all_of (λ a. (has a && list_any (λ b. not (same_contact b a) && has b) xs) ≡ (has a && false)) (λ a. ap (λ t. has a && t) (sym (is a))) xs)
    ∙ and_any has false xs ∙ none (list_any has xs))
  where
    none : (b : Bool) → (b && false) ≡ false
    none true = refl
    none false = refl
several_is has xs (Some holder) is =
    by holder.is_one is
    ∙ sym (any_alike (λ a. has a && list_any (λ b. not (same_contact b a) && has b) xs) (λ a. has a && (not holder.is_one || not (same_contact first a))) xs
    (all_of (λ a. (has a && list_any (λ b. not (same_contact b a) && has b) xs) ≡ (has a && (not holder.is_one || not (same_contact first a)))) (λ a. ap (λ t. has a && t) (sym (is a))) xs))
  where
    first : Contact
    first = (tally_of holder.first.now).contact

    swapped : (s t : Bool) → (s && t) ≡ (t && s)
    swapped s t = grind arith

    by : (one : Bool) → ((a : Contact) → (not one || not (same_contact first a)) ≡ list_any (λ b. not (same_contact b a) && has b) xs)
        → not one ≡ list_any (λ a. has a && (not one || not (same_contact first a))) xs
    by true is =
        ap not (sym (itself first)) ∙ is first
        ∙ any_alike (λ b. not (same_contact b first) && has b) (λ a. has a && not (same_contact first a)) xs
        (all_of (λ b. (not (same_contact b first) && has b) ≡ (has b && not (same_contact first b)))
        (λ b. swapped (not (same_contact b first)) (has b) ∙ ap (λ t. has b && not t) (turned b first)) xs)
    by false is =
        let found = any_of (λ b. not (same_contact b first) && has b) xs (sym (is first)) in
        sym (any_in (λ a. has a && true) xs found.0 found.1 (swapped (has found.0) true ∙ (and_parts (not (same_contact found.0 first)) (has found.0) found.2).1))

module _ (h : Histories) (ts : List Tally) (ms : List Member) (are : AreMembers h ts ms) where
  any_answer : (passes : Contact → Bool) → list_any passes (answers h ts) ≡ list_any (λ m. passes (answer_in m)) ms
  any_answer passes =
      list_any-map passes (λ (t : Tally). t.contact) (tallied (map (answered h.ours) ts))
      ∙ any_tallied passes (map (answered h.ours) ts)
      ∙ ap (list_any (λ (t : Tally). passes t.contact)) (sym are.answers)
      ∙ list_any-map (λ (t : Tally). passes t.contact) (λ (m : Member). tally_of m.answer) ms

  module _ (keys_of : Contact → List Text) where
    abbrev part : Contact → Contact → List Text
    part a c = keys_of c

    any_pair_by : (m : Member) (key : Text) (a : Contact) → list_any (λ p. bytes_eq p.0 key && not (same_contact p.1 a)) (pairs_by keys_of m)
        ≡ (is_among (parts_of h ts ms are part m) key && not (same_contact (answer_in m) a))
    any_pair_by m key a =
        list_any-map (λ (p : Text × Contact). bytes_eq p.0 key && not (same_contact p.1 a)) (λ text. (text, answer_in m)) (parts_of h ts ms are part m)
        ∙ and_any (λ t. bytes_eq t key) (not (same_contact (answer_in m) a)) (parts_of h ts ms are part m)

    module _ (takes : Contact → Bool) (key : Text) (a : Contact) where
      abbrev has : Member → Bool
      has b = takes (answer_in b) && (is_among (parts_of h ts ms are part b) key && not (same_contact (answer_in b) a))

      one_answer : (m : Member)
          → (takes (answer_in m) && (not (same_contact (answer_in m) a) && list_any (λ b. is_same b m && is_among (parts_of h ts ms are part b) key) ms))
          ≡ list_any (λ b. is_same b m && has b) ms
      one_answer m =
          let is_other : Bool = not (same_contact (answer_in m) a) in
          let of_same : Member → Bool = λ b. is_same b m && is_among (parts_of h ts ms are part b) key in
          ap (λ t. takes (answer_in m) && t) (sym (any_and is_other of_same ms))
          ∙ sym (any_and (takes (answer_in m)) (λ b. is_other && of_same b) ms)
          ∙ any_alike (λ b. takes (answer_in m) && (is_other && of_same b)) (λ b. is_same b m && has b) ms
          (all_of (λ b. (takes (answer_in m) && (is_other && of_same b)) ≡ (is_same b m && has b)) (λ b. one b (is_same b m) refl) ms)
        where
          moved : (t o s : Bool) → (t && (o && (true && s))) ≡ (t && (s && o))
          moved t o s = grind arith

          none : (t o : Bool) → (t && (o && false)) ≡ false
          none t o = grind arith

          one : (b : Member) (same : Bool) → is_same b m ≡ same
              → (takes (answer_in m) && (not (same_contact (answer_in m) a) && (same && is_among (parts_of h ts ms are part b) key))) ≡ (same && has b)
          one b true is =
              ap (λ x. takes x && (not (same_contact x a) && (true && is_among (parts_of h ts ms are part b) key))) (sym (same_is (answer_in b) (answer_in m) is))
              ∙ moved (takes (answer_in b)) (not (same_contact (answer_in b) a)) (is_among (parts_of h ts ms are part b) key)
          one b false is = none (takes (answer_in m)) (not (same_contact (answer_in m) a))

      another_is : another_has (all_parts h ts ms are part) (filter takes (answers h ts)) a key ≡ list_any has ms
      another_is =
          let every : Contact → Bool = λ b. not (same_contact b a) && is_among (all_parts h ts ms are part b) key in
          any_filter every takes (answers h ts)
          ∙ any_answer (λ b. takes b && every b)
          ∙ any_alike (λ m. takes (answer_in m) && every (answer_in m)) (λ m. list_any (λ b. is_same b m && has b) ms) ms
          (all_weaker ms (λ m is. ap (λ t. takes (answer_in m) && (not (same_contact (answer_in m) a) && t)) is ∙ one_answer m) (parts_among h ts ms are part key))
          ∙ any_pair is_same has (λ m. itself (answer_in m)) ms

      holders_are : (found : Holders) → HoldersOf (flat_map (pairs_by keys_of) (filter (λ m. takes (answer_in m)) ms)) found
          → is_another (holder_of found key) a ≡ another_has (all_parts h ts ms are part) (filter takes (answers h ts)) a key
      holders_are found all =
          let test : Text × Contact → Bool = λ p. bytes_eq p.0 key && not (same_contact p.1 a) in
          all key a
          ∙ any_joined test (pairs_by keys_of) (filter (λ m. takes (answer_in m)) ms)
          ∙ any_filter (λ m. list_any test (pairs_by keys_of m)) (λ m. takes (answer_in m)) ms
          ∙ any_alike (λ m. takes (answer_in m) && list_any test (pairs_by keys_of m)) has ms
          (all_of (λ m. (takes (answer_in m) && list_any test (pairs_by keys_of m)) ≡ has m) (λ m. ap (λ t. takes (answer_in m) && t) (any_pair_by m key a)) ms)
          ∙ sym another_is

  -- of the names of an answer, or of its emails
  of_names : (keys_of : Text → List Text) (a : Contact) → all_parts h ts ms are (λ a c. keys_of c.name) a ≡ flat_map keys_of (names_of h ts a)
  of_names keys_of a = ap (λ l. keys_of a.name ++ l) (sym (flat_map-map keys_of (λ (c : Contact). c.name) (answered_by h ts a)))

  of_emails : (keys_of : Text → List Text) (a : Contact) → all_parts h ts ms are (λ a c. keys_of c.email) a ≡ flat_map keys_of (emails_of h ts a)
  of_emails keys_of a = ap (λ l. keys_of a.email ++ l) (sym (flat_map-map keys_of (λ (c : Contact). c.email) (answered_by h ts a)))

  module _ (shared : List Text) (ps : List Member) (taken : ps ≡ filter (λ m. takes_part shared h ts (answer_in m)) ms) where
    abbrev mailed : Contact → Bool
    mailed a = has_text a.email

    names_are : (found : Holders) → HoldersOf (flat_map (pairs_by (λ c. keys c.name)) ps) found → (key : Text) (a : Contact)
        → is_another (holder_of found key) a ≡ another_has (all_name_keys h ts) (participants shared h ts) a key
    names_are found all key a =
        holders_are (λ c. keys c.name) (takes_part shared h ts) key a found (subst (λ l. HoldersOf (flat_map (pairs_by (λ c. keys c.name)) l) found) taken all)
        ∙ (λ i. another_has (λ b. of_names keys b i) (participants shared h ts) a key)

    -- of keys that names have
    logins_are : (names found : Holders) → HoldersOf (flat_map (pairs_by (λ c. known_email_keys shared names c.email)) ps) found → (key : Text) (a : Contact)
        → has_key names key ≡ true → is_another (holder_of found key) a ≡ another_has (mail_keys shared h ts) (participants shared h ts) a key
    logins_are names found all key a known =
        holders_are (λ c. known_email_keys shared names c.email) (takes_part shared h ts) key a found (subst (λ l. HoldersOf (flat_map (pairs_by (λ c. known_email_keys shared names c.email)) l) found) taken all)
        ∙ (λ i. another_has (λ b. of_emails (known_email_keys shared names) b i) (participants shared h ts) a key)
        ∙ any_alike (λ b. not (same_contact b a) && is_among (flat_map (known_email_keys shared names) (emails_of h ts b)) key)
        (λ b. not (same_contact b a) && is_among (mail_keys shared h ts b) key) (participants shared h ts)
        (all_of (λ b. (not (same_contact b a) && is_among (flat_map (known_email_keys shared names) (emails_of h ts b)) key)
        ≡ (not (same_contact b a) && is_among (mail_keys shared h ts b) key))
        (λ b. ap (λ t. not (same_contact b a) && t) (among_known (emails_of h ts b))) (participants shared h ts))
      where
        is_key : Text → Bool
        is_key t = bytes_eq t key

        among_known : (emails : List Text) → is_among (flat_map (known_email_keys shared names) emails) key ≡ is_among (flat_map (email_keys shared) emails) key
        among_known emails =
            any_joined is_key (known_email_keys shared names) emails
            ∙ any_alike (λ email. is_among (known_email_keys shared names email) key) (λ email. is_among (email_keys shared email) key) emails
            (all_of (λ email. is_among (known_email_keys shared names email) key ≡ is_among (email_keys shared email) key)
            (λ email. among_filter (has_key names) key (email_keys shared email) ∙ ap (λ t. t && is_among (email_keys shared email) key) known) emails)
            ∙ sym (any_joined is_key (email_keys shared) emails)

    first_names_are : (found : Holders) → HoldersOf (flat_map (pairs_by (λ c. first_words c.name)) (filter (λ m. mailed (answer_in m)) ms)) found
        → (key : Text) → is_several (holder_of found key) ≡ is_first_name h ts key
    first_names_are found all key =
        several_is (λ a. is_among (first_keys h ts a) key) (filter mailed (answers h ts)) (holder_of found key) (λ a.
        holders_are (λ c. first_words c.name) mailed key a found all
        ∙ (λ i. another_has (λ b. of_names first_words b i) (filter mailed (answers h ts)) a key))

    pub keys_are : (found : LoginKeys) → HoldersOf (flat_map (pairs_by (λ c. keys c.name)) ps) found.names
        → HoldersOf (flat_map (pairs_by (λ c. known_email_keys shared found.names c.email)) ps) found.logins
        → HoldersOf (flat_map (pairs_by (λ c. first_words c.name)) (filter (λ m. mailed (answer_in m)) ms)) found.first_names
        → AreLoginKeys shared h ts found
    keys_are found names logins first_names = record {
      names = names_are found.names names;
      logins = logins_are found.names found.logins logins;
      first_names = first_names_are found.first_names first_names;
    }

    -- ==== links

    module _ (found : LoginKeys) (are_keys : AreLoginKeys shared h ts found) where
      abbrev others : List Contact
      others = participants shared h ts

      abbrev login_part : Contact → Contact → List Text
      login_part a c = filter (is_login_in found a) (keys c.name) ++ filter (is_name_in found a) (email_keys shared c.email)

      -- the keys of names that aren't first names
      among_names : (a : Contact) (mark : Text) → is_among (name_keys h ts a) mark ≡ (not (is_first_name h ts mark) && is_among (all_name_keys h ts a) mark)
      among_names a mark = among_filter (λ key. not (is_first_name h ts key)) mark (all_name_keys h ts a)

      another_name : (a : Contact) (mark : Text)
          → another_has (name_keys h ts) others a mark ≡ (not (is_first_name h ts mark) && another_has (all_name_keys h ts) others a mark)
      another_name a mark =
          let is_last : Bool = not (is_first_name h ts mark) in
          any_alike (λ b. not (same_contact b a) && is_among (name_keys h ts b) mark) (λ b. is_last && (not (same_contact b a) && is_among (all_name_keys h ts b) mark)) others
          (all_of (λ b. (not (same_contact b a) && is_among (name_keys h ts b) mark) ≡ (is_last && (not (same_contact b a) && is_among (all_name_keys h ts b) mark)))
          (λ b. ap (λ t. not (same_contact b a) && t) (among_names b mark) ∙ moved (not (same_contact b a)) is_last (is_among (all_name_keys h ts b) mark)) others)
          ∙ any_and is_last (λ b. not (same_contact b a) && is_among (all_name_keys h ts b) mark) others
        where
          moved : (s t u : Bool) → (s && (t && u)) ≡ (t && (s && u))
          moved s t u = grind arith

      -- a name of an answer that takes part has its keys
      is_known : (m : Member) → m ∈ ms → takes_part shared h ts (answer_in m) ≡ true → (mark : Text) → is_among (all_name_keys h ts (answer_in m)) mark ≡ true → has_key found.names mark ≡ true
      is_known m i takes mark among =
          let a : Contact = answer_in m in
          let has : Contact → Bool = λ b. not (same_contact b (other_than a)) && is_among (all_name_keys h ts b) mark in
          some_is (holder_of found.names mark) (other_than a)
          (are_keys.names mark (other_than a) ∙ any_filter has (takes_part shared h ts) (answers h ts)
          ∙ any_answer (λ b. takes_part shared h ts b && has b)
          ∙ any_in (λ b. takes_part shared h ts (answer_in b) && has (answer_in b)) ms m i
          (and_from (takes_part shared h ts a) (has a) takes (and_from (not (same_contact a (other_than a))) (is_among (all_name_keys h ts a) mark) (ap not (is_other a)) among)))

      login_is : (a : Contact) (mark : Text) → has_key found.names mark ≡ true
          → is_login_in found a mark ≡ (not (is_first_name h ts mark) && another_has (mail_keys shared h ts) others a mark)
      login_is a mark known = λ i. not (are_keys.first_names mark i) && are_keys.logins mark a known i

      name_is : (a : Contact) (mark : Text) → is_name_in found a mark ≡ another_has (name_keys h ts) others a mark
      name_is a mark = (λ i. not (are_keys.first_names mark i) && are_keys.names mark a i) ∙ sym (another_name a mark)

      part_is : (a : Contact) (mark : Text) (c : Contact) → is_among (login_part a c) mark
          ≡ ((is_login_in found a mark && is_among (keys c.name) mark) || (is_name_in found a mark && is_among (email_keys shared c.email) mark))
      part_is a mark c =
          list_any-append (λ t. bytes_eq t mark) (filter (is_login_in found a) (keys c.name)) (filter (is_name_in found a) (email_keys shared c.email))
          ∙ (λ i. among_filter (is_login_in found a) mark (keys c.name) i || among_filter (is_name_in found a) mark (email_keys shared c.email) i)

      -- what some contacts have
      any_key : (passes : Bool) (keys_of : Contact → List Text) (mark : Text) (a : Contact)
          → list_any (λ c. passes && is_among (keys_of c) mark) (a ∷ answered_by h ts a) ≡ (passes && is_among (all_parts h ts ms are (λ a c. keys_of c) a) mark)
      any_key passes keys_of mark a =
          any_and passes (λ c. is_among (keys_of c) mark) (a ∷ answered_by h ts a)
          ∙ ap (λ t. passes && t) (sym (any_joined (λ t. bytes_eq t mark) keys_of (a ∷ answered_by h ts a)))

      parts_are : (a : Contact) (mark : Text) → is_among (all_parts h ts ms are login_part a) mark
          ≡ ((is_login_in found a mark && is_among (all_name_keys h ts a) mark) || (is_name_in found a mark && is_among (mail_keys shared h ts a) mark))
      parts_are a mark =
          let cs : List Contact = a ∷ answered_by h ts a in
          let by_name : Contact → Bool = λ c. is_login_in found a mark && is_among (keys c.name) mark in
          let by_email : Contact → Bool = λ c. is_name_in found a mark && is_among (email_keys shared c.email) mark in
          any_joined (λ t. bytes_eq t mark) (login_part a) cs
          ∙ any_alike (λ c. is_among (login_part a c) mark) (λ c. by_name c || by_email c) cs
          (all_of (λ c. is_among (login_part a c) mark ≡ (by_name c || by_email c)) (part_is a mark) cs)
          ∙ sym (any_either by_name by_email cs)
          ∙ (λ i. any_key (is_login_in found a mark) (λ c. keys c.name) mark a i || any_key (is_name_in found a mark) (λ c. email_keys shared c.email) mark a i)
          ∙ (λ i. (is_login_in found a mark && is_among (of_names keys a i) mark) || (is_name_in found a mark && is_among (of_emails (email_keys shared) a i) mark))

      marks_are : (a : Contact) (mark : Text) → (is_among (all_name_keys h ts a) mark ≡ true → has_key found.names mark ≡ true)
          → is_among (filter (another_has (mail_keys shared h ts) others a) (name_keys h ts a) ++ filter (another_has (name_keys h ts) others a) (mail_keys shared h ts a)) mark
          ≡ is_among (all_parts h ts ms are login_part a) mark
      marks_are a mark known =
          let has_login : Bool = another_has (mail_keys shared h ts) others a mark in
          list_any-append (λ t. bytes_eq t mark) (filter (another_has (mail_keys shared h ts) others a) (name_keys h ts a)) (filter (another_has (name_keys h ts) others a) (mail_keys shared h ts a))
          ∙ (λ i. among_filter (another_has (mail_keys shared h ts) others a) mark (name_keys h ts a) i || among_filter (another_has (name_keys h ts) others a) mark (mail_keys shared h ts a) i)
          ∙ (λ i. (has_login && among_names a mark i) || (sym (name_is a mark) i && is_among (mail_keys shared h ts a) mark))
          ∙ ap (λ t. t || (is_name_in found a mark && is_among (mail_keys shared h ts a) mark)) (by (is_among (all_name_keys h ts a) mark) refl)
          ∙ sym (parts_are a mark)
        where
          moved : (s t : Bool) → (s && (t && true)) ≡ ((t && s) && true)
          moved s t = grind arith

          none : (s t u : Bool) → (s && (t && false)) ≡ (u && false)
          none s t u = grind arith

          by : (among : Bool) → is_among (all_name_keys h ts a) mark ≡ among
              → (another_has (mail_keys shared h ts) others a mark && (not (is_first_name h ts mark) && among)) ≡ (is_login_in found a mark && among)
          by true is = moved (another_has (mail_keys shared h ts) others a mark) (not (is_first_name h ts mark)) ∙ ap (λ t. t && true) (sym (login_is a mark (known is)))
          by false is = none (another_has (mail_keys shared h ts) others a mark) (not (is_first_name h ts mark)) (is_login_in found a mark)

      have_login : (m : Member) → m ∈ ms → (mark : Text)
          → is_among (login_marks shared h ts (answer_in m)) mark ≡ (takes_part shared h ts (answer_in m) && is_among (all_parts h ts ms are login_part (answer_in m)) mark)
      have_login m within mark = by (takes_part shared h ts a) refl
        where
          a : Contact
          a = answer_in m

          by : (t : Bool) → takes_part shared h ts a ≡ t → is_among (if t then filter (another_has (mail_keys shared h ts) others a) (name_keys h ts a) ++ filter (another_has (name_keys h ts) others a) (mail_keys shared h ts a) else []) mark
              ≡ (t && is_among (all_parts h ts ms are login_part a) mark)
          by true is = marks_are a mark (is_known m within is mark)
          by false is = refl

      -- a key that is a name has one
      known_name : (a : Contact) (key : Text) (t : Bool) → (has_key found.names key && (is_name_in found a key && t)) ≡ (is_name_in found a key && t)
      known_name a key t = by (holder_of found.names key) (not (is_several (holder_of found.first_names key)))
        where
          none : (b t : Bool) → false ≡ ((b && false) && t)
          none b t = grind arith

          by : (o : Option Holder) (b : Bool) → (is_some o && ((b && is_another o a) && t)) ≡ ((b && is_another o a) && t)
          by None b = none b t
          by (Some holder) b = refl

      module _ (p : Text × ℕ → Bool) (m : Member) where
        abbrev passes : Text → Bool
        passes key = p (key, m.first)

        abbrev by_name : Text → Bool
        by_name key = is_login_in found (answer_in m) key && passes key

        abbrev by_email : Text → Bool
        by_email key = is_name_in found (answer_in m) key && passes key

        abbrev any_by_name : Contact → Bool
        any_by_name c = list_any by_name (keys c.name)

        abbrev any_by_email : Contact → Bool
        any_by_email c = list_any by_email (email_keys shared c.email)

        any_known : (c : Contact) → list_any by_email (known_email_keys shared found.names c.email) ≡ any_by_email c
        any_known c =
            any_filter by_email (has_key found.names) (email_keys shared c.email)
            ∙ any_alike (λ key. has_key found.names key && by_email key) by_email (email_keys shared c.email)
            (all_of (λ key. (has_key found.names key && by_email key) ≡ by_email key) (λ key. known_name (answer_in m) key (passes key)) (email_keys shared c.email))

        any_own : (test : Text → Bool) (keys_of : Contact → List Text)
            → list_any test (own_and keys_of m) ≡ ((has_own m && list_any test (keys_of (answer_in m))) || list_any test (keys_of (contact_in m).contact))
        any_own test keys_of = by (has_own m)
          where
            by : (f : Bool) → list_any test ((if f then keys_of (answer_in m) else []) ++ keys_of (contact_in m).contact)
                ≡ ((f && list_any test (keys_of (answer_in m))) || list_any test (keys_of (contact_in m).contact))
            by true = list_any-append test (keys_of (answer_in m)) (keys_of (contact_in m).contact)
            by false = refl

        -- the links to an answer by some of the keys
        any_linked : (test : Text → Bool) (keys_of : Contact → List Text) → list_any p (links_to m.first (filter test (own_and keys_of m)))
            ≡ ((has_own m && list_any (λ key. test key && passes key) (keys_of (answer_in m))) || list_any (λ key. test key && passes key) (keys_of (contact_in m).contact))
        any_linked test keys_of =
            list_any-map p (λ key. (key, m.first)) (filter test (own_and keys_of m))
            ∙ any_filter passes test (own_and keys_of m)
            ∙ any_own (λ key. test key && passes key) keys_of

        any_part : (c : Contact) → list_any passes (login_part (answer_in m) c) ≡ (any_by_name c || any_by_email c)
        any_part c =
            list_any-append passes (filter (is_login_in found (answer_in m)) (keys c.name)) (filter (is_name_in found (answer_in m)) (email_keys shared c.email))
            ∙ (λ i. any_filter passes (is_login_in found (answer_in m)) (keys c.name) i || any_filter passes (is_name_in found (answer_in m)) (email_keys shared c.email) i)

        each_link : (list_any p (email_links_of shared found.names found.first_names m) || list_any p (name_key_links_of found m))
            ≡ list_any p (links_by h ts ms are login_part m)
        each_link =
            (λ i. any_linked (is_name_in found (answer_in m)) (λ c. known_email_keys shared found.names c.email) i || any_linked (is_login_in found (answer_in m)) (λ c. keys c.name) i)
            ∙ (λ i. ((has_own m && any_known (answer_in m) i) || any_known (contact_in m).contact i) || ((has_own m && any_by_name (answer_in m)) || any_by_name (contact_in m).contact))
            ∙ mixed (has_own m) (any_by_email (answer_in m)) (any_by_email (contact_in m).contact) (any_by_name (answer_in m)) (any_by_name (contact_in m).contact)
            ∙ (λ i. (has_own m && sym (any_part (answer_in m)) i) || sym (any_part (contact_in m).contact) i)
            ∙ sym (any_own passes (login_part (answer_in m)))
            ∙ sym (list_any-map p (λ key. (key, m.first)) (own_and (login_part (answer_in m)) m))
          where
            mixed : (o e f n q : Bool) → (((o && e) || f) || ((o && n) || q)) ≡ ((o && (n || e)) || (q || f))
            mixed o e f n q = grind arith

      -- the links of all contacts that take part, first those by emails
      pub login_links_are_links : (links : List (Text × ℕ))
          → links ≡ flat_map (email_links_of shared found.names found.first_names) ps ++ flat_map (name_key_links_of found) ps
          → AreLinksOf (login_marks shared h ts) ms links
      login_links_are_links links is =
          same_links (login_marks shared h ts) ms links (flat_map (links_by h ts ms are login_part) ps)
          (λ p. ap (list_any p) is
          ∙ list_any-append p (flat_map (email_links_of shared found.names found.first_names) ps) (flat_map (name_key_links_of found) ps)
          ∙ (λ i. any_joined p (email_links_of shared found.names found.first_names) ps i || any_joined p (name_key_links_of found) ps i)
          ∙ any_either (λ m. list_any p (email_links_of shared found.names found.first_names m)) (λ m. list_any p (name_key_links_of found m)) ps
          ∙ any_alike (λ m. list_any p (email_links_of shared found.names found.first_names m) || list_any p (name_key_links_of found m))
          (λ m. list_any p (links_by h ts ms are login_part m)) ps
          (all_of (λ m. (list_any p (email_links_of shared found.names found.first_names m) || list_any p (name_key_links_of found m))
          ≡ list_any p (links_by h ts ms are login_part m)) (each_link p) ps)
          ∙ sym (any_joined p (links_by h ts ms are login_part) ps))
          (are_links h ts ms are login_part (takes_part shared h ts) (login_marks shared h ts) have_login (flat_map (links_by h ts ms are login_part) ps)
          (ap (flat_map (links_by h ts ms are login_part)) taken))
