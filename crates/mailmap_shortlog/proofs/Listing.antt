-- From counted contacts to the listing of their answers.
use Rattle.std.proofs.Common.{◌≡◌, ◌∙◌, ◌+◌, ◌<◌, ℕ, zero, suc, Bool, true, false, cond, Contains, IsPermutation, Option, None, Some, List, [], ◌∷◌, ◌++◌, Result, Ok, Err, OnErr, ap, arith, bytes_eq, flat_map, get_or, length, map, refl, subst, sym, unwrap_or}
use Rattle.std.specs.Prelude.{count_by, is_some, option_map}
use Rattle.std.specs.List.{AllByRecursion, cons_option, filter_map}
use Rattle.std.specs.List.Sorted.{IsStrictlySortedBy}
use Rattle.std.specs.Map.{keys_of}
use Rattle.std.proofs.Math.Bool.{and-true}
use Rattle.std.proofs.lemmas.Cmp.{nat_list_eq_equiv}
use Rattle.std.proofs.lemmas.List.Elements.{All-contains_itself, recursion_from_All}
use Rattle.std.proofs.lemmas.List.Sums.{sum_by-cons}
use Rattle.std.proofs.lemmas.Result.{on_ok_weaker}
use Rattle.bstr.specs.Text.{lines_of}
use Rattle.mailmap_snapshot.specs.Entries.{Mapping}
use Rattle.mailmap_snapshot.specs.Folding.{Text}
use Rattle.mailmap_snapshot.specs.Lines.{contact_in, mappings_of}
use Rattle.mailmap_snapshot.specs.Semantics.{IsNormal, fields_for, no_fields}
use Rattle.mailmap_entries.proofs.Alike.{alike_answer}
use Rattle.mailmap_entries.proofs.Normal.{alike_normal}
use Rattle.mailmap_entries.proofs.Parts.{all_map, all_mapped, all_weaker}
use Rattle.std.specs.Result.{IsErrOf}
use Rattle.command_line.specs.declared.failure.Failure.TheVariants.{Output}
use Rattle.command_line.specs.Printing.{LeavesText}
use Rattle.command_line.specs.declared.failure.Failure.{Failure}
use Rattle.mailmap_contacts.specs.Contacts.{AreTallies, Contact, Tally, answer_to, both_seen, contact_on, contacts_from, once, read_by, same_contact, seen_where, tally_on, trimmed}
use Rattle.mailmap_contacts.specs.Counts.{AreContactsOf, SameTallies, Tallied}
use Rattle.mailmap_contacts.specs.declared.occurrences.Occurrences.{Occurrences}
use Rattle.mailmap_contacts.proofs.RawContacts.{trimmed_same}
use Rattle.mailmap_contacts.proofs.Steps.{permuted, permuted_back}
use Rattle.mailmap_contacts.proofs.Sums.{mapped, same_mapped, seen-mapped}
use Rattle.mailmap_contacts.proofs.Tallied.{at_seen, map_tallies, of_tallies}
use Rattle.mailmap_shortlog.specs.Answers.{alone, answer_cmp, answer_counted, answer_tally, printed, text_tally}
use Rattle.mailmap_shortlog.specs.Shortlog.{IsCountedList, IsShortlog, answer_text, answers_counted, counted_text, line_counted, order, times}
use Rattle.mailmap_shortlog.specs.declared.answer.Answer.{Answer}

-- ---- how often a text comes

-- something comes so often, if at all
abbrev Comes : Option Occurrences → ℕ → Type 0
Comes None n = n ≡ 0
Comes (Some s) n = (s.count ≡ n) × (0 < n)

abbrev one : Bool → ℕ
one b = cond b 1 0

comes_more : (b : Bool) (line : ℕ) (o : Option Occurrences) (n : ℕ) → Comes o n
    → Comes (both_seen (cond b (Some (once line)) None) o) (one b + n)
comes_more true line None n comes = (omega arith, omega arith)
comes_more true line (Some s) n comes = (omega arith, omega arith)
comes_more false line o n comes = let same : n ≡ 0 + n = omega arith in subst (Comes o) same comes

comes_some : (o : Option Occurrences) (n : ℕ) → Comes o n → 0 < n → is_some o ≡ true
comes_some None n comes lt = absurd (omega arith)
comes_some (Some s) n comes lt = refl

occurs : (a : Text) (ts : List Text) (k : ℕ) → k < length ts → get_or ts k a ≡ a → 0 < times a ts
occurs a [] k lt e = absurd (omega (arith, lt))
occurs a (t ∷ ts) zero lt e =
    let mine : ◌≡◌ {A = ℕ} (one (bytes_eq t a)) 1 = ap one (ap (λ x. bytes_eq x a) e ∙ nat_list_eq_equiv.refl a) in
    omega (arith, sum_by-cons (λ x. one (bytes_eq x a)) t ts, mine)
occurs a (t ∷ ts) (suc k) lt e =
    omega (arith, sum_by-cons (λ x. one (bytes_eq x a)) t ts, occurs a ts k (omega (arith, lt)) e)

-- a name without an email is the same as another if their texts are
same_alone : (a t : Text) → same_contact (alone a) (alone t) ≡ bytes_eq t a
same_alone a t = and-true (bytes_eq a t) ∙ nat_list_eq_equiv.symm a t

module _ (with_email : Bool) (h : List Mapping) where
  abbrev text_for : Contact → Text
  text_for c = answer_text with_email (answer_to h c)

  abbrev texts_of : List Text → List Text
  texts_of lines = filter_map (line_counted with_email h) lines

  on_lines : (test : Text → Bool) (n : ℕ) (lines : List Text)
      → Comes (seen_where (λ c. test (text_for c)) (contacts_from n lines)) (count_by test (texts_of lines))
  on_lines test n [] = refl
  on_lines test n (line ∷ lines) = by (contact_on (contact_in line)) (on_lines test (n + 1) lines)
    where
      by : (o : Option Contact) → Comes (seen_where (λ c. test (text_for c)) (contacts_from (n + 1) lines))
          (count_by test (texts_of lines))
          → Comes (seen_where (λ c. test (text_for c)) (tally_on o (once n) ++ contacts_from (n + 1) lines))
          (count_by test (cons_option (option_map text_for o) (texts_of lines)))
      by None comes = comes
      by (Some c) comes = rw sum_by-cons (comes_more (test (text_for c)) n _ _ comes)

  abbrev tallied_texts : List Text → List Tally
  tallied_texts lines = map (text_tally with_email h) (contacts_from 1 lines)

  text_comes : (a : Text) (lines : List Text)
      → Comes (seen_where (same_contact (alone a)) (tallied_texts lines)) (times a (texts_of lines))
  text_comes a lines = rw (seen-mapped (λ c. alone (text_for c)) (same_contact (alone a)) (contacts_from 1 lines))
      (simp same_alone (on_lines (λ t. bytes_eq t a) 1 lines))

  -- the tallies of the texts, sorted by text or by count, are the listing
  listing : (by_count : Bool) (lines : List Text) (es listed : List (Answer × Occurrences))
      → AreTallies (tallied_texts lines) (map answer_tally es)
      → IsPermutation es listed → IsStrictlySortedBy (order by_count) (map answer_counted listed)
      → IsCountedList by_count (texts_of lines) (map answer_counted listed)
  listing by_count lines es listed are moved up =
      let L : List Text = map (λ c. c.text) (map answer_counted listed) in
      let P : Answer × Occurrences → Type 0 =
      λ e. (e.1.count ≡ times (printed e.0) (texts_of lines)) × (0 < e.1.count) in
      let all : AllByRecursion (λ e. Contains L (printed e.0)) listed =
      all_map answer_counted (λ c. Contains L c.text) listed
      (all_map (λ c. c.text) (Contains L) (map answer_counted listed)
      (recursion_from_All (Contains L) L (All-contains_itself L))) in
      let tallies = of_tallies (tallied_texts lines) (map answer_tally es) are in
      let there = tallies.has (λ c. Contains L c.name) (all_mapped answer_tally (λ u. Contains L u.contact.name) es
      (permuted_back es listed moved (λ e. Contains L (printed e.0)) all)) in
      record {
        every = λ a among. at_seen (λ c. Contains L c.name) (alone a) (tallied_texts lines) there
            (comes_some (seen_where (same_contact (alone a)) (tallied_texts lines)) (times a (texts_of lines))
            (text_comes a lines) (occurs a (texts_of lines) among.0 among.1 among.2));
        each = all_mapped answer_counted (λ c. (c.count ≡ times c.text (texts_of lines)) × (0 < c.count)) listed
            (permuted es listed moved P (all_weaker es
            (λ e is. let comes = subst (λ o. Comes o (times (printed e.0) (texts_of lines))) is
            (text_comes (printed e.0) lines) in (comes.0, omega (arith, comes.0, comes.1)))
            (all_map answer_tally (λ u. seen_where (same_contact u.contact) (tallied_texts lines) ≡ Some u.seen) es
            are.each)));
        in_order = up;
      }

-- the answers are the same by a normal list as by the entries that it is the normal list of
same_answer : (h n : List Mapping) → IsNormal h n → (c : Contact) → answer_to n c ≡ answer_to h c
same_answer h n normal c =
    let fields : fields_for n c.name c.email ≡ fields_for h c.name c.email =
    ap (λ o. unwrap_or o no_fields) (sym (alike_answer h n c.name c.email (alike_normal h n normal))) in
    λ i. record { name = unwrap_or (fields i).name c.name; email = unwrap_or (fields i).email c.email }

-- the listing that is made of counted contacts with a snapshot of the mailmaps is their shortlog
pub shortlog_made : (by_count with_email : Bool) (buffers : List Text) (snapshot : List Mapping)
    → IsNormal (flat_map mappings_of buffers) snapshot
    → (text : Text) (contacts : Tallied) (es listed : List (Answer × Occurrences))
    → AreContactsOf (lines_of text) contacts
    → SameTallies (map answer_tally es) (map (text_tally with_email snapshot) (map (read_by trimmed) contacts.tallies))
    → IsStrictlySortedBy answer_cmp (keys_of es) → IsPermutation es listed
    → IsStrictlySortedBy (order by_count) (map answer_counted listed)
    → IsShortlog by_count (answers_counted with_email buffers text) (flat_map counted_text (map answer_counted listed))
shortlog_made by_count with_email buffers snapshot normal text contacts es listed are same once moved up =
    let h = flat_map mappings_of buffers in
    let lines = lines_of text in
    let ours : SameTallies (map answer_tally es) (tallied_texts with_email h lines) = λ test. same test
    ∙ (λ i. seen_where test (map (mapped (λ c. alone (answer_text with_email (same_answer h snapshot normal c i))))
    (map (read_by trimmed) contacts.tallies))) ∙ same_mapped (λ c. alone (answer_text with_email (answer_to h c)))
    (map (read_by trimmed) contacts.tallies) (contacts_from 1 lines) (trimmed_same lines contacts are) test in (
      map answer_counted listed,
      listing with_email h by_count lines es listed
          (map_tallies (λ (a : Answer). alone (printed a)) es (tallied_texts with_email h lines)
          (map answer_tally es) once refl ours) moved up,
      refl,
    )

-- ---- what a run leaves

pub err_then : {T E : Type 0} (r : Result T E) (e : E) (P : Type 0) → OnErr r P → r ≡ Err e → P
err_then (Ok x) e P p failed = absurd (cc)
err_then (Err x) e P p failed = p

-- what it leaves is a text of another kind
pub leaves_ok : {W T U : Type 0} {P : List ℕ → Type 0} {contents : W → Option (List ℕ)} {old new : W} {x : T} (y : U)
    → LeavesText P contents old new (Ok x) → LeavesText P contents old new (Ok y)
leaves_ok y left = record { prints = left.prints; breaks_off = λ failed. cc; silent = λ is. cc }

is_output : {T : Type 0} (e : Failure) → IsErrOf {T = T} (Err e) Output → e ≡ Output
is_output e failed = cc

pub leaves_err : {W T U : Type 0} {P : List ℕ → Type 0} {contents : W → Option (List ℕ)} {old new : W} {e : Failure}
    → LeavesText {T = T} P contents old new (Err e) → LeavesText {T = U} P contents old new (Err e)
leaves_err {e = e} left = record {
  prints = tt;
  breaks_off = λ failed. left.breaks_off (ap Err (is_output e failed));
  silent = λ is other. left.silent refl (λ failed. other (ap Err (is_output e failed)));
}

pub leaves_weaker : {W T : Type 0} {P Q : List ℕ → Type 0} {contents : W → Option (List ℕ)} {old new : W}
    {r : Result T Failure} → ((text : List ℕ) → P text → Q text) → LeavesText P contents old new r
    → LeavesText Q contents old new r
leaves_weaker {r = r} f left = record {
  prints = on_ok_weaker r (λ printed. (printed.0, f printed.0 printed.1, printed.2)) left.prints;
  breaks_off = λ failed. let part = left.breaks_off failed in (part.0, f part.0 part.1, part.2);
  silent = left.silent;
}
