-- Contacts with their answers, one more at a time, and which of the answers take part.
use Rattle.std.proofs.Common.{◌≡◌, ◌∙◌, ◌+◌, ◌<◌, ◌++◌, ◌&&◌, ◌||◌, ◌==◌, ℕ, Bool, true, false, cond, not, List, [], ◌∷◌, Option, None, Some, Bor, Ordering, ap, append-nil, arith, bytes_eq, filter, get_or, length, map, option_copied, refl, subst, sym, take, true≢false, unwrap_or}
use Rattle.std.specs.Prelude.{position}
use Rattle.std.specs.BTreeMap.{BTreeMap, get, is_at}
use Rattle.std.specs.BTreeSet.{BTreeSet, contains}
use Rattle.std.specs.List.{AllByRecursion, Contains, list_all, list_any}
use Rattle.std.specs.Option.{option_or}
use Rattle.std.specs.Ordering.{ordering_then}
use Rattle.std.proofs.lemmas.Bool.{eqb-true}
use Rattle.std.proofs.lemmas.Cmp.{nat_list_eq_equiv}
use Rattle.std.proofs.lemmas.List.{length-map, length-take, map-append}
use Rattle.std.proofs.lemmas.List.Elements.{All-contains, All-from_recursion, filter_more}
use Rattle.std.proofs.lemmas.List.Folds.{list_all-map, list_any_more}
use Rattle.std.proofs.lemmas.Map.Text.{is_eq-slice_cmp}
use Rattle.std.proofs.lemmas.Simd.{map-map}
use Rattle.mailmap_contacts.specs.declared.answers.Tally.{Tally as TheTally}
use Rattle.mailmap_contacts.specs.Answers.{answer_key, folded_cmp, tally_of}
use Rattle.mailmap_contacts.specs.Contacts.{Contact, Tally, answer_to, answered, has_text, same_contact, tallied}
use Rattle.mailmap_contacts.specs.Folded.{folded_text}
use Rattle.mailmap_contacts.specs.declared.folded.Folded.{Folded}
use Rattle.mailmap_contacts.proofs.Entries.{key_cmp, same_by_cmp, same_is, then_eq}
use Rattle.mailmap_contacts.proofs.Steps.{all_filtered, all_unfiltered, mapped_more}
use Rattle.mailmap_contacts.proofs.Tallied.{each_tallied, each_untallied, itself}
use Rattle.mailmap_entries.specs.Folding.{Text, folded}
use Rattle.mailmap_entries.specs.Semantics.{first}
use Rattle.mailmap_entries.proofs.Parts.{all_append, all_map, all_mapped, all_weaker, filter-map, list_any-map}
use Rattle.mailmap_suggestions.specs.Forms.{Histories}
use Rattle.mailmap_suggestions.specs.GroupEntries.{contacts}
use Rattle.mailmap_suggestions.specs.Keys.{key_cmp as email_cmp, key_text}
use Rattle.mailmap_suggestions.specs.Links.{are_like, has_email, is_spelled_once}
use Rattle.mailmap_suggestions.specs.LinkViews.{AreMembers, AreRespelled, AreUnnamed, IsFirstOf, answer_in, contact_in, folded_answer, pair_cmp}
use Rattle.mailmap_suggestions.specs.declared.keys.Key.{Key}
use Rattle.mailmap_suggestions.specs.declared.members.Member.{Member}
use Rattle.mailmap_suggestions.proofs.Distinct.{◌∈◌, at, each, equal_bytes, in_filter}
use Rattle.mailmap_suggestions.proofs.Spelled.{AreSpelled, any_alike, any_of_email, any_two, all_pass, differ_any, each_alike, each_passes, each_push, folded_again, is_unlike, firsts_more, not_all, others_more, position_push, same_bools, spellings_of, unwrap_now}

-- ---- contacts with their answers

and_false : (b : Bool) → false ≡ (b && false)
and_false true = refl
and_false false = refl

-- an answer after its email
abbrev AnswerKey : Type 0
AnswerKey = Key × (Bor Text × Bor Text)

abbrev answer_cmp : AnswerKey → AnswerKey → Ordering
answer_cmp a b = ordering_then (email_cmp a.0 b.0) (key_cmp answer_key a.1 b.1)

abbrev IsWithEmail : AnswerKey → Type 0
IsWithEmail key = key_text key.0 ≡ folded (answer_key key.1).email

-- the index of the first contact with each answer
abbrev pub AreFirsts : List Member → BTreeMap AnswerKey ℕ → Type 0
AreFirsts ms firsts = (key : AnswerKey) → IsWithEmail key → get answer_cmp firsts key ≡ position (λ b. same_contact (answer_in b) (answer_key key.1)) ms

same_answer : (key q : AnswerKey) → IsWithEmail key → IsWithEmail q → is_at (answer_cmp key) q ≡ same_contact (answer_key key.1) (answer_key q.1)
same_answer key q of_key of_q =
    then_eq (email_cmp key.0 q.0) (key_cmp answer_key key.1 q.1)
    ∙ (λ i. is_eq-slice_cmp (key_text key.0) (key_text q.0) i && same_by_cmp (answer_key key.1) (answer_key q.1) i)
    ∙ by (same_contact (answer_key key.1) (answer_key q.1)) refl
  where
    by : (b : Bool) → same_contact (answer_key key.1) (answer_key q.1) ≡ b → (bytes_eq (key_text key.0) (key_text q.0) && b) ≡ b
    by true is = ap (λ t. t && true) (equal_bytes (key_text key.0) (key_text q.0)
        (of_key ∙ ap (λ (a : Contact). folded a.email) (same_is (answer_key key.1) (answer_key q.1) is) ∙ sym of_q))
    by false is = sym (and_false (bytes_eq (key_text key.0) (key_text q.0)))

some_at : (o : Option ℕ) (n : ℕ) → Some (unwrap_or o n) ≡ option_or o (Some n)
some_at None n = refl
some_at (Some i) n = refl

or_nothing : (o : Option ℕ) → o ≡ option_or o None
or_nothing None = refl
or_nothing (Some i) = refl

index_more : (ms : List Member) (m : Member) (key : AnswerKey) (old new : BTreeMap AnswerKey ℕ) (at : ℕ) → IsWithEmail key
    → answer_in m ≡ answer_key key.1 → AreFirsts ms old → at ≡ unwrap_or (get answer_cmp old key) (length ms)
    → ((q : AnswerKey) → get answer_cmp new q ≡ cond (is_at (answer_cmp key) q) (Some at) (get answer_cmp old q))
    → AreFirsts (ms ++ m ∷ []) new
index_more ms m key old new at of_key mine are at_is put q of_q =
    put q ∙ ap (λ t. cond t (Some at) (get answer_cmp old q)) (same_answer key q of_key of_q)
    ∙ by (same_contact (answer_key key.1) (answer_key q.1)) refl
    ∙ ap (λ a. option_or (position (λ b. same_contact (answer_in b) (answer_key q.1)) ms) (cond (same_contact a (answer_key q.1)) (Some (length ms)) None)) (sym mine)
    ∙ sym (position_push (λ b. same_contact (answer_in b) (answer_key q.1)) ms m)
  where
    by : (t : Bool) → same_contact (answer_key key.1) (answer_key q.1) ≡ t → cond t (Some at) (get answer_cmp old q)
        ≡ option_or (position (λ b. same_contact (answer_in b) (answer_key q.1)) ms) (cond (same_contact (answer_key key.1) (answer_key q.1)) (Some (length ms)) None)
    by true is =
        ap (λ n. Some n) (at_is ∙ ap (λ o. unwrap_or o (length ms)) (are key of_key)) ∙ some_at (position (λ b. same_contact (answer_in b) (answer_key key.1)) ms) (length ms)
        ∙ ap (λ a. option_or (position (λ b. same_contact (answer_in b) a) ms) (Some (length ms))) (same_is (answer_key key.1) (answer_key q.1) is)
        ∙ ap (λ t. option_or (position (λ b. same_contact (answer_in b) (answer_key q.1)) ms) (cond t (Some (length ms)) None)) (sym is)
    by false is =
        are q of_q ∙ or_nothing (position (λ b. same_contact (answer_in b) (answer_key q.1)) ms)
        ∙ ap (λ t. option_or (position (λ b. same_contact (answer_in b) (answer_key q.1)) ms) (cond t (Some (length ms)) None)) (sym is)

pub members_more : (h : Histories) (ts : List Tally) (t : Tally) (ms : List Member) (m : Member) (o : Option ℕ) → AreMembers h ts ms
    → contact_in m ≡ t → tally_of m.answer ≡ answered h.ours t → o ≡ position (λ b. same_contact (answer_in b) (answer_in m)) ms
    → m.first ≡ unwrap_or o (length ms) → m.is_first ≡ (m.first == length ms) → AreMembers h (ts ++ t ∷ []) (ms ++ m ∷ [])
members_more h ts t ms m o are contact answer found first is_first = record {
  contacts = map-append contact_in ms (m ∷ []) ∙ (λ i. are.contacts i ++ contact i ∷ []);
  answers = map-append (λ (m : Member). tally_of m.answer) ms (m ∷ []) ∙ (λ i. are.answers i ++ answer i ∷ [])
      ∙ sym (map-append (answered h.ours) ts (t ∷ []));
  firsts = all_append (IsFirstOf (ms ++ m ∷ [])) ms (m ∷ [])
      (all_weaker ms (λ b is. position_push (λ a. same_contact (answer_in a) (answer_in b)) ms m
      ∙ ap (λ o. option_or o (cond (same_contact (answer_in m) (answer_in b)) (Some (length ms)) None)) is) are.firsts) (
        position_push (λ a. same_contact (answer_in a) (answer_in m)) ms m
            ∙ ap (λ t. option_or (position (λ a. same_contact (answer_in a) (answer_in m)) ms) (cond t (Some (length ms)) None)) (itself (answer_in m))
            ∙ ap (λ o. option_or o (Some (length ms))) (sym found) ∙ sym (some_at o (length ms)) ∙ ap (λ n. Some n) (sym first),
        tt,
      );
  is_first = each_push (λ i x. x.is_first ≡ (x.first == i)) ms m are.is_first is_first;
}

pub member_pushed : (h : Histories) (cs : List TheTally) (k : ℕ) (d : TheTally) (ms all : List Member) (m : Member) (key : Key) (firsts new : BTreeMap AnswerKey ℕ)
    → k < length cs → AreMembers h (map tally_of (take k cs)) ms → AreFirsts ms firsts → all ≡ ms ++ m ∷ []
    → contact_in m ≡ tally_of (get_or cs k d) → tally_of m.answer ≡ answered h.ours (tally_of (get_or cs k d)) → key_text key ≡ folded m.answer.email.now
    → m.first ≡ unwrap_or (get answer_cmp firsts (key, (m.answer.name, m.answer.email))) k → m.is_first ≡ (m.first == k)
    → ((q : AnswerKey) → get answer_cmp new q
    ≡ cond (is_at (answer_cmp (key, (m.answer.name, m.answer.email))) q) (Some m.first) (get answer_cmp firsts q))
    → AreMembers h (map tally_of (take (k + 1) cs)) all × AreFirsts all new
member_pushed h cs k d ms all m key firsts new lt are found all_is contact answer of_key first is_first put =
    let count : length ms ≡ k = omega (arith, lt, length-map ms contact_in, ap length are.contacts, length-map (take k cs) tally_of, length-take k cs) in
    let first_is : m.first ≡ unwrap_or (get answer_cmp firsts (key, (m.answer.name, m.answer.email))) (length ms) =
    first ∙ ap (unwrap_or (get answer_cmp firsts (key, (m.answer.name, m.answer.email)))) (sym count) in (
      subst (λ ts. AreMembers h ts all) (sym (mapped_more tally_of cs k d lt)) (subst (AreMembers h (map tally_of (take k cs) ++ tally_of (get_or cs k d) ∷ [])) (sym all_is)
          (members_more h (map tally_of (take k cs)) (tally_of (get_or cs k d)) ms m (get answer_cmp firsts (key, (m.answer.name, m.answer.email))) are contact answer
          (found (key, (m.answer.name, m.answer.email)) of_key) first_is (is_first ∙ ap (λ n. m.first == n) (sym count)))),
      subst (λ l. AreFirsts l new) (sym all_is) (index_more ms m (key, (m.answer.name, m.answer.email)) firsts new m.first of_key refl found first_is put),
    )

-- the answer of each is that to its contact
pub each_answer : (h : Histories) (ts : List Tally) (ms : List Member) → AreMembers h ts ms
    → AllByRecursion (λ m. answer_in m ≡ answer_to h.ours (contact_in m).contact) ms
each_answer h ts ms are =
    all_weaker ms (λ m is. ap (λ (t : Tally). t.contact) is)
    (each_alike (λ (m : Member). tally_of m.answer) contact_in (answered h.ours) ms (are.answers ∙ ap (map (answered h.ours)) (sym are.contacts)))

pub in_list : (ms : List Member) (m : Member) → Contains ms m → m ∈ ms
in_list ms m among = All-contains (λ x. x ∈ ms) ms m (All-from_recursion (λ x. x ∈ ms) ms (each (λ x. x ∈ ms) ms (λ x i. i))) among

-- ---- contacts without names

-- whether a contact with an answer that is like this one has no name
abbrev pub is_unnamed : Contact → Member → Bool
is_unnamed a m = not (has_text (contact_in m).contact.name) && are_like (answer_in m) a

or_cond : (t b : Bool) → cond t true b ≡ (b || t)
or_cond true true = refl
or_cond true false = refl
or_cond false true = refl
or_cond false false = refl

or_false : (b : Bool) → b ≡ (b || false)
or_false true = refl
or_false false = refl

and_true : (b : Bool) → b ≡ (b && true)
and_true true = refl
and_true false = refl

pub is_pair : (key q : Folded × Folded) (a : Contact) → folded_text key.0 ≡ folded a.name → folded_text key.1 ≡ folded a.email
    → is_at (pair_cmp key) q ≡ are_like a (folded_answer q)
is_pair key q a name email =
    then_eq (folded_cmp key.0 q.0) (folded_cmp key.1 q.1)
    ∙ (λ i. is_eq-slice_cmp (folded_text key.0) (folded_text q.0) i && is_eq-slice_cmp (folded_text key.1) (folded_text q.1) i)
    ∙ (λ i. bytes_eq (name i) (sym (folded_again q.0.text.now) i) && bytes_eq (email i) (sym (folded_again q.1.text.now) i))

pub unnamed_more : (ms : List Member) (k : ℕ) (m : Member) (key : Folded × Folded) (old new : BTreeSet (Folded × Folded)) → k < length ms
    → has_text (contact_in (get_or ms k m)).contact.name ≡ false
    → folded_text key.0 ≡ folded (answer_in (get_or ms k m)).name → folded_text key.1 ≡ folded (answer_in (get_or ms k m)).email
    → AreUnnamed (take k ms) old → ((q : Folded × Folded) → contains pair_cmp new q ≡ cond (is_at (pair_cmp key) q) true (contains pair_cmp old q))
    → AreUnnamed (take (k + 1) ms) new
unnamed_more ms k m key old new lt none name email are put q =
    put q ∙ or_cond (is_at (pair_cmp key) q) (contains pair_cmp old q) ∙ (λ i. are q i || is_pair key q (answer_in (get_or ms k m)) name email i)
    ∙ ap (λ t. list_any (is_unnamed (folded_answer q)) (take k ms) || (not t && are_like (answer_in (get_or ms k m)) (folded_answer q))) (sym none)
    ∙ sym (list_any_more (is_unnamed (folded_answer q)) ms k m lt)

pub named_more : (ms : List Member) (k : ℕ) (m : Member) (found : BTreeSet (Folded × Folded)) → k < length ms
    → has_text (contact_in (get_or ms k m)).contact.name ≡ true → AreUnnamed (take k ms) found → AreUnnamed (take (k + 1) ms) found
named_more ms k m found lt some are q =
    are q ∙ or_false (list_any (is_unnamed (folded_answer q)) (take k ms))
    ∙ ap (λ t. list_any (is_unnamed (folded_answer q)) (take k ms) || (not t && are_like (answer_in (get_or ms k m)) (folded_answer q))) (sym some)
    ∙ sym (list_any_more (is_unnamed (folded_answer q)) ms k m lt)

all_named : (h : Histories) (a : Contact) (ts : List Tally) → list_any (λ t. not (has_text t.contact.name) && are_like (answer_to h.ours t.contact) a) ts
    ≡ not (list_all (λ c. has_text c.name) (filter (λ c. are_like (answer_to h.ours c) a) (contacts ts)))
all_named h a [] = refl
all_named h a (t ∷ ts) = grind (arith, all_named h a ts)

-- which answers have them
pub unnamed_is : (h : Histories) (ts : List Tally) (ms : List Member) (found : BTreeSet (Folded × Folded)) (a : Contact) (key : Folded × Folded)
    → AreMembers h ts ms → AreUnnamed ms found → folded_text key.0 ≡ folded a.name → folded_text key.1 ≡ folded a.email
    → contains pair_cmp found key ≡ not (list_all (λ c. has_text c.name) (filter (λ c. are_like (answer_to h.ours c) a) (contacts ts)))
unnamed_is h ts ms found a key are unnamed name email =
    unnamed key
    ∙ any_alike (is_unnamed (folded_answer key)) (λ m. is_like (contact_in m)) ms
    (all_weaker ms (λ m is i. not (has_text (contact_in m).contact.name) && like (answer_in m) (answer_to h.ours (contact_in m).contact) is i) (each_answer h ts ms are))
    ∙ sym (list_any-map is_like contact_in ms) ∙ ap (list_any is_like) are.contacts ∙ all_named h a ts
  where
    is_like : Tally → Bool
    is_like t = not (has_text t.contact.name) && are_like (answer_to h.ours t.contact) a

    like : (b c : Contact) → b ≡ c → are_like b (folded_answer key) ≡ are_like c a
    like b c is = λ i. bytes_eq (folded (is i).name) ((ap folded name ∙ folded_again a.name) i) && bytes_eq (folded (is i).email) ((ap folded email ∙ folded_again a.email) i)

-- ---- emails with several spellings

abbrev pub emails_in : List Member → List Text
emails_in ms = map (λ m. (answer_in m).email) ms

members_differ : (ms : List Member) (key : Text)
    → list_any (λ m. bytes_eq (folded (answer_in m).email) key && list_any (λ b. bytes_eq (folded (answer_in b).email) key && not (bytes_eq (answer_in b).email (answer_in m).email)) ms) ms
    ≡ list_any (λ e. bytes_eq (folded e) key && list_any (λ b. bytes_eq (folded b) key && not (bytes_eq b e)) (emails_in ms)) (emails_in ms)
members_differ ms key =
    (λ i. list_any (λ m. bytes_eq (folded (answer_in m).email) key
    && sym (list_any-map (λ b. bytes_eq (folded b) key && not (bytes_eq b (answer_in m).email)) (λ m. (answer_in m).email) ms) i) ms)
    ∙ sym (list_any-map (λ e. bytes_eq (folded e) key && list_any (λ b. bytes_eq (folded b) key && not (bytes_eq b e)) (emails_in ms)) (λ m. (answer_in m).email) ms)

-- one more email
module _ (ms : List Member) (k : ℕ) (d : Member) (key : Folded) (s text : Bor Text) (o : Option (Bor Text)) (old new : BTreeMap Folded (Bor Text)) (found more : BTreeSet Folded)
    (within : k < length ms) (before : AreSpelled (emails_in (take k ms)) old found)
    (put : (q : Folded) → get folded_cmp new q ≡ cond (is_at (folded_cmp key) q) (Some s) (get folded_cmp old q))
    (spelling : s ≡ unwrap_or o text) (seen : o ≡ get folded_cmp old key)
    (text_is : text.now ≡ (answer_in (get_or ms k d)).email) (key_is : folded_text key ≡ folded (answer_in (get_or ms k d)).email) where
  spelled_by : ((q : Folded) → contains folded_cmp more q ≡ (contains folded_cmp found q || (is_at (folded_cmp key) q && not (bytes_eq text.now s.now))))
      → AreSpelled (emails_in (take (k + 1) ms)) new more
  spelled_by others =
      let email = (answer_in (get_or ms k d)).email in
      let first_is : s.now ≡ unwrap_or (first (spellings_of (folded email) (emails_in (take k ms)))) email =
      ap (λ (b : Bor Text). b.now) spelling ∙ unwrap_now o text ∙ ap (λ p. unwrap_or (option_copied p) text.now) seen
      ∙ (λ i. unwrap_or ((before.firsts key ∙ ap (λ n. first (spellings_of n (emails_in (take k ms)))) key_is) i) (text_is i)) in
      subst (λ l. AreSpelled l new more) (sym (mapped_more (λ (m : Member). (answer_in m).email) ms k d within)) (record {
        firsts = firsts_more (emails_in (take k ms)) email key key_is s.now first_is old new s before.firsts refl put;
        others = others_more (emails_in (take k ms)) email key key_is s.now first_is found more before.others
            (λ q. others q ∙ ap (λ t. contains folded_cmp found q || (is_at (folded_cmp key) q && not (bytes_eq t s.now))) text_is);
      })

  pub spelled_other : (unlike : Bool) → unlike ≡ not (bytes_eq s.now text.now) → unlike ≡ true
      → ((q : Folded) → contains folded_cmp more q ≡ cond (is_at (folded_cmp key) q) true (contains folded_cmp found q))
      → AreSpelled (emails_in (take (k + 1) ms)) new more
  spelled_other unlike ne passes listed = spelled_by (λ q. listed q ∙ or_cond (is_at (folded_cmp key) q) (contains folded_cmp found q)
      ∙ ap (λ t. contains folded_cmp found q || t) (and_true (is_at (folded_cmp key) q))
      ∙ ap (λ t. contains folded_cmp found q || (is_at (folded_cmp key) q && t)) (sym passes ∙ ne ∙ ap not (nat_list_eq_equiv.symm s.now text.now)))

  pub spelled_same : (unlike : Bool) → unlike ≡ not (bytes_eq s.now text.now) → unlike ≡ false → more ≡ found
      → AreSpelled (emails_in (take (k + 1) ms)) new more
  spelled_same unlike ne fails same = spelled_by (λ q. ap (λ f. contains folded_cmp f q) same ∙ or_false (contains folded_cmp found q)
      ∙ ap (λ t. contains folded_cmp found q || t) (and_false (is_at (folded_cmp key) q))
      ∙ ap (λ t. contains folded_cmp found q || (is_at (folded_cmp key) q && t)) (sym fails ∙ ne ∙ ap not (nat_list_eq_equiv.symm s.now text.now)))

-- as the members have them
pub respelled_are : (ms : List Member) (firsts : BTreeMap Folded (Bor Text)) (others : BTreeSet Folded) → AreSpelled (emails_in ms) firsts others → AreRespelled ms others
respelled_are ms firsts others are key =
    are.others key ∙ differ_any (spellings_of (folded_text key) (emails_in ms)) ∙ sym (any_of_email (folded_text key) (emails_in ms)) ∙ sym (members_differ ms (folded_text key))

-- ---- answers that are spelled in one way

all_passing : {X : Type 0} (p f : X → Bool) (xs : List X) → list_all f (filter p xs) ≡ true → AllByRecursion (λ x. p x ≡ true → f x ≡ true) xs
all_passing p f xs passes = all_unfiltered p (λ x. f x ≡ true) xs (each_passes f (filter p xs) passes)

passing_all : {X : Type 0} (p f : X → Bool) (xs : List X) → AllByRecursion (λ x. p x ≡ true → f x ≡ true) xs → list_all f (filter p xs) ≡ true
passing_all p f xs all = all_pass f (filter p xs) (all_filtered p (λ x. p x ≡ true → f x ≡ true) (λ x. f x ≡ true) (λ x passes is. passes is) xs all)

-- all contacts pass a test if each of them does once
all_once : (p f : Contact → Bool) (us : List Tally) → list_all f (filter p (contacts (tallied us))) ≡ list_all f (filter p (contacts us))
all_once p f us = same_bools (list_all f (filter p (contacts (tallied us)))) (list_all f (filter p (contacts us)))
    (λ passes. passing_all p f (contacts us) (all_mapped contact P us (each_untallied P us (all_map contact P (tallied us) (all_passing p f (contacts (tallied us)) passes)))))
    (λ passes. passing_all p f (contacts (tallied us)) (all_mapped contact P (tallied us) (each_tallied P us (all_map contact P us (all_passing p f (contacts us) passes)))))
  where
    contact : Tally → Contact
    contact t = t.contact

    P : Contact → Type 0
    P c = p c ≡ true → f c ≡ true

-- as the members have them
spelled_is : (h : Histories) (ts : List Tally) (ms : List Member) (email : Text) → AreMembers h ts ms
    → is_spelled_once h ts email ≡ list_all (λ e. bytes_eq e email) (spellings_of (folded email) (emails_in ms))
spelled_is h ts ms email are =
    all_once (has_email email) is_same (map (answered h.ours) ts)
    ∙ ap (λ l. list_all is_same (filter (has_email email) (contacts l))) (sym are.answers)
    ∙ ap (λ l. list_all is_same (filter (has_email email) l)) (map-map (λ (t : Tally). t.contact) (λ (m : Member). tally_of m.answer) ms)
    ∙ ap (list_all is_same) (filter-map (has_email email) answer_in ms)
    ∙ list_all-map is_same answer_in (filter (λ m. has_email email (answer_in m)) ms)
    ∙ sym (list_all-map (λ e. bytes_eq e email) email_in (filter (λ m. has_email email (answer_in m)) ms))
    ∙ sym (ap (list_all (λ e. bytes_eq e email)) (filter-map (λ e. bytes_eq (folded e) (folded email)) email_in ms))
  where
    is_same : Contact → Bool
    is_same a = bytes_eq a.email email

    email_in : Member → Text
    email_in m = (answer_in m).email

-- which emails answers spell in several ways
pub respelled_is : (h : Histories) (ts : List Tally) (ms : List Member) (found : BTreeSet Folded) (m : Member) (key : Folded)
    → AreMembers h ts ms → AreRespelled ms found → m ∈ ms → folded_text key ≡ folded (answer_in m).email
    → contains folded_cmp found key ≡ not (is_spelled_once h ts (answer_in m).email)
respelled_is h ts ms found m key are respelled among is =
    let email = (answer_in m).email in
    let es = emails_in ms in
    let spelled = spellings_of (folded email) es in
    let has : email ∈ es = at (λ b. (answer_in b).email ∈ es) ms (all_map (λ (b : Member). (answer_in b).email) (λ e. e ∈ es) ms (each (λ e. e ∈ es) es (λ e i. i))) m among in
    respelled key ∙ members_differ ms (folded_text key) ∙ any_of_email (folded_text key) es
    ∙ ap (λ k. list_any (λ e. is_unlike e (spellings_of k es)) (spellings_of k es)) is
    ∙ any_two spelled email (in_filter (λ e. bytes_eq (folded e) (folded email)) es email has (equal_bytes (folded email) (folded email) refl))
    ∙ sym (not_all (λ e. bytes_eq e email) spelled) ∙ ap not (sym (spelled_is h ts ms email are))

-- ---- which take part

-- an email of several people, with lines that are needed, and spelled in one way
pub is_apart : (named once found : Bool) → found ≡ not named → found ≡ false → (others : Bool) → others ≡ not once → not others ≡ (named && once)
is_apart true once found is none others spelled = ap not spelled ∙ grind arith
is_apart false once found is none others spelled = absurd (true≢false (sym is ∙ none))

pub not_apart : (named once found : Bool) → found ≡ not named → found ≡ true → not found ≡ (named && once)
not_apart true once found is some = absurd (true≢false (sym some ∙ is))
not_apart false once found is some = ap not some

pub if_shared : (mailed shared apart : Bool) → mailed ≡ true → shared ≡ true → apart ≡ (mailed && (not shared || apart))
if_shared mailed shared apart some many = grind (arith, some, many)

pub none_in : {X : Type 0} (xs : List X) → (length xs == 0) ≡ true → xs ≡ []
none_in [] is = refl
none_in (x ∷ xs) is = let none : length (x ∷ xs) ≡ 0 = eqb-true (length (x ∷ xs)) 0 is in absurd (omega arith)

-- one more that passes, or doesn't
pub filter_yes : {X : Type 0} (p : X → Bool) (xs : List X) (k : ℕ) (d : X) (old new : List X) → k < length xs → old ≡ filter p (take k xs)
    → p (get_or xs k d) ≡ true → new ≡ old ++ get_or xs k d ∷ [] → new ≡ filter p (take (k + 1) xs)
filter_yes p xs k d old new lt is passes more =
    more ∙ ap (λ l. l ++ get_or xs k d ∷ []) is ∙ ap (λ b. filter p (take k xs) ++ cond b (get_or xs k d ∷ []) []) (sym passes) ∙ sym (filter_more p xs k d lt)

pub filter_no : {X : Type 0} (p : X → Bool) (xs : List X) (k : ℕ) (d : X) (old : List X) → k < length xs → old ≡ filter p (take k xs)
    → p (get_or xs k d) ≡ false → old ≡ filter p (take (k + 1) xs)
filter_no p xs k d old lt is fails =
    is ∙ sym (append-nil (filter p (take k xs))) ∙ ap (λ b. filter p (take k xs) ++ cond b (get_or xs k d ∷ []) []) (sym fails) ∙ sym (filter_more p xs k d lt)
