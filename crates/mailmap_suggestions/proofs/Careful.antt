-- Classes of answers with alike names are careful with emails that several people share.
use Rattle.std.proofs.Common.{◌≡◌, ◌≢◌, ◌∙◌, ◌&&◌, ◌||◌, Bool, true, false, true≢false, not, List, [], ◌∷◌, ◌++◌, filter, map, bytes_eq, if◌then◌else◌, refl, sym, ap, subst, ⊎_elim, inl, inr, codes, Some}
use Rattle.std.specs.List.{AllByRecursion, flat_map, list_all, list_any}
use Rattle.std.proofs.lemmas.Bool.{and_parts, false_from_ne_true, or_right, true_from_ne_false}
use Rattle.mailmap_entries.specs.Entries.{Mapping}
use Rattle.mailmap_entries.specs.Folding.{Text, folded}
use Rattle.mailmap_entries.proofs.Parts.{all_map, all_mapped}
use Rattle.mailmap_contacts.specs.Contacts.{Contact, Tally, answer_to, answered, has_text, same_contact, tallied}
use Rattle.mailmap_contacts.proofs.Steps.{all_filtered, all_unfiltered}
use Rattle.mailmap_contacts.proofs.Tallied.{each_tallied, each_untallied}
use Rattle.mailmap_names.specs.Keys.{has_common, is_among, marks}
use Rattle.mailmap_suggestions.specs.Forms.{alike, is_shared, own_key}
use Rattle.mailmap_suggestions.specs.GroupEntries.{HasNoEmptyName, are_cut, contacts, with_classes, with_emails}
use Rattle.mailmap_suggestions.specs.Links.{AreClassesBy, another_has, answered_by, answers, are_like, has_email, is_spelled_once, login_marks, mail_keys, name_keys, name_marks, names_of, participants, takes_part}
use Rattle.mailmap_suggestions.proofs.Appended.{IsCareful, linked_name, unnamed_contact}
use Rattle.mailmap_suggestions.proofs.Distinct.{◌∈◌, any_at, at, each, each_pair, equal_bytes, in_filter, in_joined, same_bytes}
use Rattle.mailmap_suggestions.proofs.United.{active_some, changed, cut_before, cut_class, cut_email, cut_same, either_same, is_active, lines, neither, never, one_class, right_false, shared_uncut, touched_answers, unblocked, unchanged, wanted}

-- ---- lists

all_true : {X : Type 0} (p : X → Bool) (xs : List X) → list_all p xs ≡ true → AllByRecursion (λ x. p x ≡ true) xs
all_true p [] is = tt
all_true p (x ∷ xs) is = let parts = and_parts (p x) (list_all p xs) is in (parts.0, all_true p xs parts.1)

in_mapped : {X Y : Type 0} (f : X → Y) (xs : List X) (x : X) → x ∈ xs → f x ∈ map f xs
in_mapped f [] x i = absurd i
in_mapped f (z ∷ xs) x i = ⊎_elim (λ same. inl (ap f same)) (λ later. inr (in_mapped f xs x later)) i

in_common : (texts others : List Text) (t : Text) → t ∈ texts → t ∈ others → has_common texts others ≡ true
in_common texts others t i j = any_at (is_among others) texts t i (any_at (λ u. bytes_eq u t) others t j (equal_bytes t t refl))

-- ---- marks of names

abbrev name_mark : Text → Text
name_mark name = codes "n" ++ folded name

in_marks : (name : Text) → name ≢ [] → name_mark name ∈ marks name
unfolding marks
in_marks [] some = absurd (some refl)
in_marks (b ∷ rest) some = inl refl

-- empty names have none
no_marks : (ns : List Text) → AllByRecursion (λ n. n ≡ []) ns → flat_map marks ns ≡ []
unfolding marks
no_marks [] none = refl
no_marks (n ∷ ns) none = ap (λ m. marks m ++ flat_map marks ns) none.0 ∙ no_marks ns none.1

some_text : (t : Text) → has_text t ≡ true → t ≢ []
some_text t is none = true≢false (sym is ∙ ap has_text none)

same_self : (c : Contact) → same_contact c c ≡ true
same_self c = λ i. equal_bytes c.name c.name refl i && equal_bytes c.email c.email refl i

or_rest : (b x : Bool) → b ≡ true → (not b || x) ≡ true → x ≡ true
or_rest true x is whole = whole
or_rest false x is whole = absurd (true≢false (sym is))

one_name : (a b : Text) → Some a ≡ Some b → a ≡ b
one_name a b e = cc

true_all : {X : Type 0} (p : X → Bool) (xs : List X) → AllByRecursion (λ x. p x ≡ true) xs → list_all p xs ≡ true
true_all p [] all = refl
true_all p (x ∷ xs) all = λ i. all.0 i && true_all p xs all.1 i

pub text_some : (t : Text) → t ≢ [] → has_text t ≡ true
text_some [] some = absurd (some refl)
text_some (b ∷ t) some = refl

-- ==== answers that take part

module _ (shared : List Text) (h : List Mapping) (ts : List Tally) where
  abbrev pub answer : Contact → Contact
  answer c = answer_to h c

  abbrev pub takes : Contact → Bool
  takes a = takes_part shared (alike h) ts a

  -- what holds of all answers
  from_answers : (P : Contact → Type 0) → AllByRecursion P (answers (alike h) ts) → AllByRecursion (λ c. P (answer c)) (contacts ts)
  from_answers P all = all_mapped (λ (t : Tally). t.contact) (λ c. P (answer_to h c)) ts
      (all_map (answered h) (λ (t : Tally). P t.contact) ts (each_untallied P (map (answered h) ts) (all_map (λ (t : Tally). t.contact) P (tallied (map (answered h) ts)) all)))

  to_answers : (P : Contact → Type 0) → AllByRecursion (λ c. P (answer c)) (contacts ts) → AllByRecursion P (answers (alike h) ts)
  to_answers P all = all_mapped (λ (t : Tally). t.contact) P (tallied (map (answered h) ts))
      (each_tallied P (map (answered h) ts) (all_mapped (answered h) (λ (t : Tally). P t.contact) ts (all_map (λ (t : Tally). t.contact) (λ c. P (answer_to h c)) ts all)))

  abbrev alike_answers : Contact → List Contact
  alike_answers a = filter (λ d. are_like (answer d) a) (contacts ts)

  -- if several people share its email
  taken : (a : Contact) → is_shared shared a.email ≡ true → takes a ≡ true → (list_all (λ d. has_text d.name) (alike_answers a) && is_spelled_once (alike h) ts a.email) ≡ true
  taken a many is = or_rest (is_shared shared a.email) _ many (and_parts (has_text a.email) (not (is_shared shared a.email) || (list_all (λ d. has_text d.name) (alike_answers a) && is_spelled_once (alike h) ts a.email)) is).1

  one_spelling : (a c : Contact) → is_shared shared a.email ≡ true → takes a ≡ true → c ∈ contacts ts → folded a.email ≡ folded (answer c).email → a.email ≡ (answer c).email
  one_spelling a c many is j same =
      let once = (and_parts (list_all (λ d. has_text d.name) (alike_answers a)) (is_spelled_once (alike h) ts a.email) (taken a many is)).1 in
      let all = all_unfiltered (has_email a.email) (λ d. bytes_eq d.email a.email ≡ true) (answers (alike h) ts) (all_true (λ d. bytes_eq d.email a.email) (filter (has_email a.email) (answers (alike h) ts)) once) in
      sym (same_bytes (answer c).email a.email (at _ (contacts ts) (from_answers _ all) c j (equal_bytes (folded (answer c).email) (folded a.email) (sym same))))

  all_named : (a : Contact) → is_shared shared a.email ≡ true → takes a ≡ true → (c : Contact) → c ∈ contacts ts → are_like (answer c) a ≡ true → c.name ≢ []
  all_named a many is c i like =
      let names = (and_parts (list_all (λ d. has_text d.name) (alike_answers a)) (is_spelled_once (alike h) ts a.email) (taken a many is)).0 in
      some_text c.name (at _ (alike_answers a) (all_true (λ d. has_text d.name) (alike_answers a) names) c (in_filter (λ d. are_like (answer d) a) (contacts ts) c i like))

  named : (c : Contact) → c ∈ contacts ts → is_shared shared (answer c).email ≡ true → takes (answer c) ≡ true → c.name ≢ []
  named c i many is = all_named (answer c) many is c i (λ k. equal_bytes (folded (answer c).name) (folded (answer c).name) refl k && equal_bytes (folded (answer c).email) (folded (answer c).email) refl k)

  -- answers that differ in the case of the name alone take part together
  takes_by : Text → Text → Bool
  takes_by email name = has_text email && (not (is_shared shared email)
      || (list_all (λ d. has_text d.name) (filter (λ d. bytes_eq (folded (answer d).name) name && bytes_eq (folded (answer d).email) (folded email)) (contacts ts)) && is_spelled_once (alike h) ts email))

  takes_same : (a b : Contact) → a.email ≡ b.email → folded a.name ≡ folded b.name → takes a ≡ takes b
  unfolding takes_by
  takes_same a b emails names = λ i. takes_by (emails i) (names i)

  -- classes only of answers that take part
  module _ (class : Contact → Text) (no_part : (c : Contact) → c ∈ contacts ts → takes (answer c) ≡ false → class (answer c) ≡ []) where
    some_class : (c : Contact) → c ∈ contacts ts → class (answer c) ≢ [] → takes (answer c) ≡ true
    some_class c i some = true_from_ne_false (takes (answer c)) (λ out. some (no_part c i out))

    pub careful_if : (out : Contact → Bool) → ((b c : Contact) → b ∈ contacts ts → c ∈ contacts ts → out c ≡ false → is_shared shared (answer b).email ≡ true → own_key b ≡ own_key c → class (answer b) ≡ class (answer c))
        → IsCareful shared class out h ts
    careful_if out one_key = record {
      emails = each _ (contacts ts) (λ c i none. no_part c i (ap (λ e. has_text e && (not (is_shared shared e) || (list_all (λ d. has_text d.name) (alike_answers (answer c)) && is_spelled_once (alike h) ts e))) none));
      keys = each_pair _ (contacts ts) one_key;
      spelled = each_pair _ (contacts ts) (λ b c i j many some same. one_spelling (answer b) c many (some_class b i some) j same);
      names = each _ (contacts ts) (λ c i many some. named c i many (some_class c i some));
    }

-- ==== classes of answers with alike names

module _ (shared : List Text) (h : List Mapping) (ts : List Tally) (class : Contact → Text) (are : AreClassesBy (name_marks shared (alike h) ts) (answers (alike h) ts) class) where
  abbrev by : Contact → Contact
  by c = answer_to h c

  abbrev marks_of : Contact → List Text
  marks_of = name_marks shared (alike h) ts

  abbrev part : Contact → Bool
  part = takes shared h ts

  unmarked : (c : Contact) → c ∈ contacts ts → marks_of (by c) ≡ [] → class (by c) ≡ []
  unmarked c i none = (at _ (contacts ts) (from_answers shared h ts _ are.unmarked) c i).1 none

  pub no_part : (c : Contact) → c ∈ contacts ts → part (by c) ≡ false → class (by c) ≡ []
  no_part c i out = unmarked c i (ap (λ b. if b then flat_map marks (names_of (alike h) ts (by c)) else []) out)

  joined : (b c : Contact) → b ∈ contacts ts → c ∈ contacts ts → has_common (marks_of (by b)) (marks_of (by c)) ≡ true → class (by b) ≡ class (by c)
  joined b c i j common = at _ (contacts ts) (from_answers shared h ts _ (at _ (contacts ts) (from_answers shared h ts _ are.joined) b i)) c j common

  marked : (c : Contact) → c ∈ contacts ts → c.name ≢ [] → part (by c) ≡ true → name_mark c.name ∈ marks_of (by c)
  marked c i some is = subst (λ b. name_mark c.name ∈ (if b then flat_map marks (names_of (alike h) ts (by c)) else [])) (sym is)
      (in_joined marks (names_of (alike h) ts (by c)) c.name (name_mark c.name)
      (inr (in_mapped (λ (d : Contact). d.name) (answered_by (alike h) ts (by c)) c (in_filter (λ d. same_contact (by d) (by c)) (contacts ts) c i (same_self (by c)))))
      (in_marks c.name some))

  -- an answer with a shared email that takes part has a class
  pub taking_class : (c : Contact) → c ∈ contacts ts → is_shared shared (by c).email ≡ true → part (by c) ≡ true → class (by c) ≢ []
  taking_class c i many is none = subst (λ l. name_mark c.name ∈ l) ((at _ (contacts ts) (from_answers shared h ts _ are.unmarked) c i).0 none) (marked c i (named shared h ts c i many is) is)

  one_key : (b c : Contact) → b ∈ contacts ts → c ∈ contacts ts → is_shared shared (by b).email ≡ true → own_key b ≡ own_key c → class (by b) ≡ class (by c)
  one_key b c i j many keys = elim (part (by b)) as (λ t. part (by b) ≡ t → class (by b) ≡ class (by c)) [
    | true ↦ λ is.
        let also : part (by c) ≡ true = sym (takes_same shared h ts (by b) (by c) (one_spelling shared h ts (by b) c many is j emails) names) ∙ is in
        joined b c i j (in_common (marks_of (by b)) (marks_of (by c)) (name_mark b.name) (marked b i (named shared h ts b i many is) is)
        (subst (λ m. m ∈ marks_of (by c)) (ap (λ n. codes "n" ++ n) (sym (one_name (folded b.name) (folded c.name) (ap (λ k. k.1) keys)))) (marked c j (named shared h ts c j shared_too also) also)))
    | false ↦ λ out.
        let neither : part (by c) ≡ false = false_from_ne_true (part (by c)) (λ is. true≢false (sym is
        ∙ takes_same shared h ts (by c) (by b) (one_spelling shared h ts (by c) b shared_too is i (sym emails)) (sym names) ∙ out)) in
        no_part b i out ∙ sym (no_part c j neither)
  ] refl
    where
      emails : folded (by b).email ≡ folded (by c).email
      emails = touched_answers shared h b c (inl keys)

      names : folded (by b).name ≡ folded (by c).name
      names = linked_name h b c keys

      shared_too : is_shared shared (by c).email ≡ true
      shared_too = ap (λ e. list_any (bytes_eq e) shared) (sym emails) ∙ many

  own_marked : (c : Contact) → (by c).name ≢ [] → part (by c) ≡ true → name_mark (by c).name ∈ marks_of (by c)
  own_marked c some is = subst (λ b. name_mark (by c).name ∈ (if b then flat_map marks (names_of (alike h) ts (by c)) else [])) (sym is)
      (in_joined marks (names_of (alike h) ts (by c)) (by c).name (name_mark (by c).name) (inl refl) (in_marks (by c).name some))

  -- answers with one name that have a class have one
  pub named_alike : (b c : Contact) → b ∈ contacts ts → c ∈ contacts ts → (by b).name ≡ (by c).name → (by b).name ≢ [] → class (by b) ≢ [] → class (by c) ≢ [] → class (by b) ≡ class (by c)
  named_alike b c i j same some first second = joined b c i j (in_common (marks_of (by b)) (marks_of (by c)) (name_mark (by b).name)
      (own_marked b some (some_class shared h ts class no_part b i first))
      (subst (λ n. name_mark n ∈ marks_of (by c)) (sym same) (own_marked c (λ none. some (same ∙ none)) (some_class shared h ts class no_part c j second))))

  pub careful : IsCareful shared class never h ts
  careful = careful_if shared h ts class no_part never (λ b c i j o. one_key b c i j)

  -- an answer without a name has no class
  pub unnamed : AllByRecursion HasNoEmptyName h → (c : Contact) → c ∈ contacts ts → (by c).name ≡ [] → class (by c) ≡ []
  unnamed all c i empty = unmarked c i (ap (λ l. if part (by c) then l else []) (no_marks (names_of (alike h) ts (by c)) (empty, names)) ∙ either_same (part (by c)) [])
    where
      same_name : (d : Contact) → d ∈ contacts ts → same_contact (by d) (by c) ≡ true → d.name ≡ []
      same_name d j same = unnamed_contact h d all (same_bytes (by d).name (by c).name (and_parts (bytes_eq (by d).name (by c).name) (bytes_eq (by d).email (by c).email) same).0 ∙ empty)

      names : AllByRecursion (λ n. n ≡ []) (map (λ (d : Contact). d.name) (answered_by (alike h) ts (by c)))
      names = all_mapped (λ (d : Contact). d.name) (λ n. n ≡ []) (answered_by (alike h) ts (by c))
          (all_filtered (λ d. same_contact (by d) (by c)) (λ d. same_contact (by d) (by c) ≡ true → d.name ≡ []) (λ d. d.name ≡ []) (λ d f same. f same) (contacts ts) (each _ (contacts ts) same_name))

-- ==== then classes of answers that logins link

module _ (shared : List Text) (h : List Mapping) (ts : List Tally) (all_named_h : AllByRecursion HasNoEmptyName h) (class next : Contact → Text)
    (by_names : AreClassesBy (name_marks shared (alike (with_emails shared h ts)) ts) (answers (alike (with_emails shared h ts)) ts) class)
    (by_logins : AreClassesBy (login_marks shared (alike (with_classes shared class (with_emails shared h ts) ts)) ts) (answers (alike (with_classes shared class (with_emails shared h ts) ts)) ts) next) where
  abbrev g : List Mapping
  g = with_emails shared h ts

  abbrev f : List Mapping
  f = with_classes shared class g ts

  abbrev careful_g : IsCareful shared class never g ts
  careful_g = careful shared g ts class by_names

  abbrev now : Contact → Contact
  now c = answer_to g c

  abbrev later : Contact → Contact
  later c = answer_to f c

  abbrev block : Contact → Bool
  block c = is_active shared g g ts class (class (now c))

  abbrev out_email : Contact → Bool
  out_email = cut_email shared h ts all_named_h

  abbrev out : Contact → Bool
  out = cut_before shared h ts all_named_h class careful_g

  changed_to : (c : Contact) → c ∈ contacts ts → out_email c ≡ false → block c ≡ true → later c ≡ wanted shared g g ts class (class (now c))
  changed_to = changed shared h ts all_named_h class careful_g

  same_later : (c : Contact) → c ∈ contacts ts → out_email c ≡ false → block c ≡ false → later c ≡ now c
  same_later = unchanged shared h ts all_named_h class careful_g

  uncut_shared : (c : Contact) → c ∈ contacts ts → is_shared shared (now c).email ≡ true → out_email c ≡ false
  uncut_shared = shared_uncut shared h ts all_named_h

  in_class : (c : Contact) → block c ≡ true → class (now c) ≢ []
  in_class c on = active_some shared g g ts class (class (now c)) on

  no_login : (c : Contact) → c ∈ contacts ts → takes shared f ts (later c) ≡ false → next (later c) ≡ []
  no_login c i out = (at _ (contacts ts) (from_answers shared f ts _ by_logins.unmarked) c i).1
      (ap (λ b. if b then filter (another_has (mail_keys shared (alike f) ts) (participants shared (alike f) ts) (later c)) (name_keys (alike f) ts (later c))
      ++ filter (another_has (name_keys (alike f) ts) (participants shared (alike f) ts) (later c)) (mail_keys shared (alike f) ts (later c)) else []) out)

  -- what takes part later did so before
  module _ (b : Contact) (i : b ∈ contacts ts) (b_is : later b ≡ now b) (many : is_shared shared (now b).email ≡ true) (is : takes shared f ts (now b) ≡ true) where
    names_before : (d : Contact) → d ∈ contacts ts → (t : Bool) → block d ≡ t → are_like (now d) (now b) ≡ true → has_text d.name ≡ true
    names_before d j true on like =
        let emails = same_bytes (folded (now d).email) (folded (now b).email) (and_parts (bytes_eq (folded (now d).name) (folded (now b).name)) (bytes_eq (folded (now d).email) (folded (now b).email)) like).1 in
        text_some d.name (at _ (contacts ts) careful_g.names d j (ap (λ e. list_any (bytes_eq e) shared) emails ∙ many) (in_class d on))
    names_before d j false off like =
        let emails = same_bytes (folded (now d).email) (folded (now b).email) (and_parts (bytes_eq (folded (now d).name) (folded (now b).name)) (bytes_eq (folded (now d).email) (folded (now b).email)) like).1 in
        let d_is = same_later d j (uncut_shared d j (ap (λ e. list_any (bytes_eq e) shared) emails ∙ many)) off in
        text_some d.name (all_named shared f ts (now b) many is d j (ap (λ a. are_like a (now b)) d_is ∙ like))

    spelled_before : (d : Contact) → d ∈ contacts ts → (t : Bool) → block d ≡ t → has_email (now b).email (now d) ≡ true → bytes_eq (now d).email (now b).email ≡ true
    spelled_before d j true on has =
        let emails = same_bytes (folded (now d).email) (folded (now b).email) has in
        equal_bytes (now d).email (now b).email (at _ (contacts ts) (at _ (contacts ts) careful_g.spelled d j) b i (ap (λ e. list_any (bytes_eq e) shared) emails ∙ many) (in_class d on) emails)
    spelled_before d j false off has =
        let emails = same_bytes (folded (now d).email) (folded (now b).email) has in
        let d_is = ap (λ (a : Contact). a.email) (same_later d j (uncut_shared d j (ap (λ e. list_any (bytes_eq e) shared) emails ∙ many)) off) in
        equal_bytes (now d).email (now b).email (sym d_is ∙ sym (one_spelling shared f ts (now b) d many is j (sym emails ∙ ap folded (sym d_is))))

    takes_before : takes shared g ts (now b) ≡ true
    takes_before =
        let mailed = (and_parts (has_text (now b).email) (not (is_shared shared (now b).email) || (list_all (λ d. has_text d.name) (filter (λ d. are_like (later d) (now b)) (contacts ts)) && is_spelled_once (alike f) ts (now b).email)) is).0 in
        let names = true_all (λ d. has_text d.name) (filter (λ d. are_like (now d) (now b)) (contacts ts)) (all_filtered (λ d. are_like (now d) (now b)) (λ d. are_like (now d) (now b) ≡ true → has_text d.name ≡ true) (λ d. has_text d.name ≡ true)
        (λ d f like. f like) (contacts ts) (each _ (contacts ts) (λ d j. names_before d j (block d) refl))) in
        let once = true_all (λ d. bytes_eq d.email (now b).email) (filter (has_email (now b).email) (answers (alike g) ts)) (all_filtered (has_email (now b).email) (λ d. has_email (now b).email d ≡ true → bytes_eq d.email (now b).email ≡ true) (λ d. bytes_eq d.email (now b).email ≡ true)
        (λ d f has. f has) (answers (alike g) ts) (to_answers shared g ts _ (each _ (contacts ts) (λ d j. spelled_before d j (block d) refl)))) in
        λ k. mailed k && or_right (not (is_shared shared (now b).email)) (list_all (λ d. has_text d.name) (filter (λ d. are_like (now d) (now b)) (contacts ts)) && is_spelled_once (alike g) ts (now b).email) (λ l. names l && once l) k

  -- who takes no part before takes none later
  gone : (c : Contact) → c ∈ contacts ts → later c ≡ now c → is_shared shared (now c).email ≡ true → takes shared g ts (now c) ≡ false → next (later c) ≡ []
  gone c i c_is many out = no_login c i (false_from_ne_true (takes shared f ts (later c)) (λ is. true≢false (sym (takes_before c i c_is many (ap (takes shared f ts) (sym c_is) ∙ is)) ∙ out)))

  both_same : (b c : Contact) → b ∈ contacts ts → c ∈ contacts ts → cut_class shared g g ts class c ≡ false → later b ≡ now b → later c ≡ now c → block b ≡ false → is_shared shared (now b).email ≡ true → is_shared shared (now c).email ≡ true → class (now b) ≡ class (now c)
      → (t : Bool) → takes shared g ts (now b) ≡ t → next (later b) ≡ next (later c)
  both_same b c i j o b_is c_is off many c_many same true is =
      let some = taking_class shared g ts class by_names b i many is in
      let k = class (now b) in
      let whole : are_cut (lines shared g g ts class k) ≡ false = right_false (not (bytes_eq k [])) (are_cut (lines shared g g ts class k)) (ap not (false_from_ne_true (bytes_eq k []) (λ e. some (same_bytes k [] e))))
      (ap (λ k. not (bytes_eq k []) && are_cut (lines shared g g ts class k)) same ∙ o) in
      ap next (b_is ∙ unblocked shared h ts all_named_h class careful_g b c i j same some whole off ∙ sym c_is)
  both_same b c i j o b_is c_is off many c_many same false out =
      let none : class (now c) ≡ [] = sym same ∙ no_part shared g ts class by_names b i out in
      gone b i b_is many out ∙ sym (gone c j c_is c_many (false_from_ne_true (takes shared g ts (now c)) (λ is. taking_class shared g ts class by_names c j c_many is none)))

  login_key : (b c : Contact) → b ∈ contacts ts → c ∈ contacts ts → out c ≡ false → (t : Bool) → block b ≡ t → is_shared shared (later b).email ≡ true → own_key b ≡ own_key c → next (later b) ≡ next (later c)
  login_key b c i j o t is many keys = by t is
    where
      c_whole : out_email c ≡ false
      c_whole = (neither (out_email c) (cut_class shared g g ts class c) o).0

      b_whole : out_email b ≡ false
      b_whole = cut_same shared h ts all_named_h b c i j (touched_answers shared g b c (inl keys)) ∙ c_whole

      same : class (now b) ≡ class (now c)
      same = one_class shared h ts all_named_h class careful_g b c i j c_whole (inl keys)

      by : (t : Bool) → block b ≡ t → next (later b) ≡ next (later c)
      by true on = ap next (changed_to b i b_whole on ∙ ap (wanted shared g g ts class) same ∙ sym (changed_to c j c_whole (ap (is_active shared g g ts class) (sym same) ∙ on)))
      by false off =
          let b_is = same_later b i b_whole off in
          let c_is = same_later c j c_whole (ap (is_active shared g g ts class) (sym same) ∙ off) in
          let b_many : is_shared shared (now b).email ≡ true = ap (λ (a : Contact). is_shared shared a.email) (sym b_is) ∙ many in
          let c_many : is_shared shared (now c).email ≡ true = ap (λ e. list_any (bytes_eq e) shared) (sym (touched_answers shared g b c (inl keys))) ∙ b_many in
          both_same b c i j (neither (out_email c) (cut_class shared g g ts class c) o).1 b_is c_is off b_many c_many same (takes shared g ts (now b)) refl

  pub careful_logins : IsCareful shared next out f ts
  careful_logins = careful_if shared f ts next no_login out (λ b c i j o many keys. login_key b c i j o (block b) refl many keys)
