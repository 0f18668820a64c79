-- What is computed for a line is what the definition by cases describes.
use Rattle.std.proofs.Common.{◌≡◌, ◌≢◌, ◌⊎◌, ℕ, true, false, Option, Some, Ok, [], ◌∷◌, refl, sym, ap, subst, ◌∙◌, inl, inr, ⊎_elim, arith}
use Rattle.std.proofs.lemmas.Bool.{cond-true, cond-false, eqb-true, cases_Bool}
use Rattle.mailmap_entries.specs.Folding.{Text}
use Rattle.mailmap_grammar.specs.Trimming.{trim, IsTrimmed}
use Rattle.mailmap_grammar.specs.Lines.{Reading, ParsedContact, Absent, Unclosed, Closed, cut, trimmed_contact, fault, nothing_to_map, by_both, by_name, two_contacts, strict_contacts, first_contact, is_comment, unless_blank, reading_by, line_reading, strict_line_reading, reading, strict_reading, HoldsNo, IsUnclosed, IsContact, NoContact, IsSecondRead, second, name_alone, neither, IsSecondReadStrictly, open_second, as_lenient, IsFirstRead, no_bracket, open_first, blank_email, first, IsComment, IsReadBy, comment, blank, non_blank, IsRead, IsReadStrictly}
use Rattle.mailmap_grammar.proofs.Cut.{unclosed-cut, kind, absent_kind, unclosed_kind, closed_kind, cut-absent, cut-unclosed, cut-cut_at_closing}
use Rattle.mailmap_grammar.proofs.Trimmed.{trimmed-same, trimmed-made}

contact-cut : (s name email rest : Text) → IsContact s name email rest → trimmed_contact (cut s) ≡ Closed name email rest
contact-cut s name email rest h =
    let is_name : name ≡ trim h.before = trimmed-same _ _ h.is_name in
    let is_email : email ≡ trim h.between = trimmed-same _ _ h.is_email in
    ap trimmed_contact (cut-cut_at_closing _ _ _ _ h.is_cut) ∙ rw (← is_name, ← is_email) refl

-- what a text begins with, by its contact
abbrev Begins : Text → ParsedContact → Type 0
Begins s Absent = HoldsNo 60 s
Begins s Unclosed = IsUnclosed s
Begins s (Closed name email rest) = IsContact s name email rest

begins : (s : Text) → Begins s (trimmed_contact (cut s))
begins s =
    let P : ParsedContact → Type 0 = λ k. Begins s (trimmed_contact k) in
    elim (kind s) [
      | absent_kind h e ↦ subst P (sym e) h
      | unclosed_kind h e ↦ subst P (sym e) h
      | closed_kind a b c h e ↦ subst P (sym e)
          (record { before = a; between = b; is_cut = h; is_name = trimmed-made a (trim a) refl; is_email = trimmed-made b (trim b) refl })
    ]

cut-begins : (s : Text) (h : ParsedContact) → Begins s h → trimmed_contact (cut s) ≡ h
cut-begins s Absent h = ap trimmed_contact (cut-absent s h)
cut-begins s Unclosed h = ap trimmed_contact (cut-unclosed s h)
cut-begins s (Closed name email rest) h = contact-cut s name email rest h

no_contact : (s : Text) → NoContact s → (trimmed_contact (cut s) ≡ Absent) ⊎ (trimmed_contact (cut s) ≡ Unclosed)
no_contact s h = ⊎_elim (λ a. inl (ap trimmed_contact (cut-absent s a))) (λ u. inr (ap trimmed_contact (cut-unclosed s u))) h

some : (b : ℕ) (s : Text) → (b ∷ s) ≢ []
some b s e = cc

-- ---- the second contact

pub both-closed : (n : ℕ) (t name email a b c : Text) → two_contacts n t name email (Closed a b c) ≡ Ok (by_both name email a b)
both-closed n t name email a b c = grind arith

second-made : (n : ℕ) (t name email rest : Text) (h : ParsedContact) → Begins rest h → IsSecondRead n t name email rest (two_contacts n t name email h)
second-made n t [] email rest Absent none = neither (inl none) refl refl
second-made n t [] email rest Unclosed none = neither (inr none) refl refl
second-made n t (x ∷ name) email rest Absent none = name_alone (inl none) (some x name) refl
second-made n t (x ∷ name) email rest Unclosed none = name_alone (inr none) (some x name) refl
second-made n t name email rest (Closed a b c) contact = second a b c contact (both-closed n t name email a b c)

pub alone-none : (n : ℕ) (t name email : Text) (h : ParsedContact) → (h ≡ Absent) ⊎ (h ≡ Unclosed) → name ≢ [] → two_contacts n t name email h ≡ Ok (by_name name email)
alone-none n t name email h is other = grind arith

neither-none : (n : ℕ) (t name email : Text) (h : ParsedContact) → (h ≡ Absent) ⊎ (h ≡ Unclosed) → name ≡ [] → two_contacts n t name email h ≡ fault nothing_to_map n t
neither-none n t name email h is same = grind arith

second-same : (n : ℕ) (t name email rest : Text) (r : Reading) → IsSecondRead n t name email rest r → two_contacts n t name email (trimmed_contact (cut rest)) ≡ r
second-same n t name email rest r h = elim h [
  | second a b c contact is ↦ ap (two_contacts n t name email) (contact-cut rest a b c contact) ∙ both-closed n t name email a b c ∙ sym is
  | name_alone none other is ↦ alone-none n t name email (trimmed_contact (cut rest)) (no_contact rest none) other ∙ sym is
  | neither none same is ↦ neither-none n t name email (trimmed_contact (cut rest)) (no_contact rest none) same ∙ sym is
]

-- unless the second contact is unclosed, strict parsing gives the same as lenient parsing
pub strict-other : (n : ℕ) (t name email rest : Text) (h : ParsedContact) → h ≢ Unclosed → strict_contacts n t name email rest h ≡ two_contacts n t name email h
strict-other n t name email rest h other = grind arith

untrimmed : (h : ParsedContact) → trimmed_contact h ≡ Unclosed → h ≡ Unclosed
untrimmed h e = grind arith

strict-second-made : (n : ℕ) (t name email rest : Text) (h : ParsedContact) → Begins rest h → IsSecondReadStrictly n t name email rest (strict_contacts n t name email rest h)
strict-second-made n t name email rest Absent h =
    as_lenient (λ u. let w : Absent ≡ Unclosed = sym (cut-begins rest Absent h) ∙ cut-begins rest Unclosed u in absurd (cc)) (second-made n t name email rest Absent h)
strict-second-made n t name email rest Unclosed h = open_second h refl
strict-second-made n t name email rest (Closed a b c) h =
    let other = λ (u : IsUnclosed rest). let w : Closed a b c ≡ Unclosed = sym (contact-cut rest a b c h) ∙ cut-begins rest Unclosed u in absurd (cc) in
    as_lenient other (second-made n t name email rest (Closed a b c) h)

strict-second-same : (n : ℕ) (t name email rest : Text) (r : Reading) → IsSecondReadStrictly n t name email rest r → strict_contacts n t name email rest (trimmed_contact (cut rest)) ≡ r
strict-second-same n t name email rest r h = elim h [
  | open_second u is ↦ ap (λ k. strict_contacts n t name email rest (trimmed_contact k)) (cut-unclosed rest u) ∙ sym is
  | as_lenient not s ↦ strict-other n t name email rest _ (λ u. not (unclosed-cut rest (untrimmed (cut rest) u))) ∙ second-same n t name email rest r s
]

-- ---- the first contact

pub with_email : (both : Text → Text → Text → Reading) (n : ℕ) (t name email rest : Text) → email ≢ [] → first_contact both n t (Closed name email rest) ≡ both name email rest
with_email both n t name email rest other = grind arith

module _ (both : Text → Text → Text → Reading) (Second : Text → Text → Text → Reading → Type 0) (n : ℕ) (t : Text) where
  first-made : ((name email rest : Text) → Second name email rest (both name email rest)) → (h : ParsedContact) → Begins t h → IsFirstRead Second n t (first_contact both n t h)
  first-made made Absent h = no_bracket h refl
  first-made made Unclosed h = open_first h refl
  first-made made (Closed name [] rest) h = blank_email name rest h refl
  first-made made (Closed name (x ∷ email) rest) h = first name (x ∷ email) rest h (some x email) (made name (x ∷ email) rest)

  first-same : ((name email rest : Text) (r : Reading) → Second name email rest r → both name email rest ≡ r) → (r : Reading) → IsFirstRead Second n t r → first_contact both n t (trimmed_contact (cut t)) ≡ r
  first-same same r h = elim h [
    | no_bracket a is ↦ ap (λ k. first_contact both n t (trimmed_contact k)) (cut-absent t a) ∙ sym is
    | open_first u is ↦ ap (λ k. first_contact both n t (trimmed_contact k)) (cut-unclosed t u) ∙ sym is
    | blank_email name rest contact is ↦ ap (first_contact both n t) (contact-cut t name [] rest contact) ∙ sym is
    | first name email rest contact other s ↦ ap (first_contact both n t) (contact-cut t name email rest contact) ∙ with_email both n t name email rest other ∙ same name email rest r s
  ]

-- ---- the line

commented : (line : Text) → is_comment line ≡ true → IsComment line
commented [] e = cc
commented (b ∷ s) e = (s, ap (λ x. x ∷ s) (eqb-true b 35 e))

comment-test : (line : Text) → IsComment line → is_comment line ≡ true
comment-test line h = ap is_comment h.1

pub some_said : (says : ℕ → Text → Reading) (n : ℕ) (t : Text) → t ≢ [] → unless_blank says n t ≡ Some (says n t)
some_said says n t other = grind arith

module _ (says : ℕ → Text → Reading) (Says : Text → Reading → Type 0) (n : ℕ) (line : Text) where
  line-none : ((t : Text) → Says t (says n t)) → (IsComment line → ⊥) → (t : Text) → IsTrimmed line t → IsReadBy Says line (unless_blank says n t)
  line-none made plain [] is = blank plain is refl
  line-none made plain (b ∷ t) is = non_blank (b ∷ t) (says n (b ∷ t)) plain is (some b t) (made (b ∷ t)) refl

  line-made : ((t : Text) → Says t (says n t)) → (o : Option Reading) → reading_by says n line ≡ o → IsReadBy Says line o
  line-made made o e =
      let P : Option Reading → Type 0 = IsReadBy Says line in
      ⊎_elim (λ yes. comment (commented line yes) (sym e ∙ cond-true _ _ _ yes)) (λ not.
      let none : IsComment line → ⊥ = λ h. let w : true ≡ false = sym (comment-test line h) ∙ not in absurd (cc) in
      subst P (sym (cond-false _ _ _ not) ∙ e) (line-none made none (trim line) (trimmed-made line (trim line) refl)))
      (cases_Bool (is_comment line))

  not_comment : (IsComment line → ⊥) → is_comment line ≡ false
  not_comment plain = ⊎_elim (λ yes. absurd (plain (commented line yes))) (λ e. e) (cases_Bool (is_comment line))

  line-same : ((t : Text) (r : Reading) → Says t r → says n t ≡ r) → (o : Option Reading) → IsReadBy Says line o → reading_by says n line ≡ o
  line-same same o h = elim h [
    | comment is e ↦ cond-true _ _ _ (comment-test line is) ∙ sym e
    | blank plain is e ↦ cond-false _ _ _ (not_comment plain) ∙ ap (unless_blank says n) (sym (trimmed-same line [] is)) ∙ sym e
    | non_blank t r plain is other s e ↦ cond-false _ _ _ (not_comment plain) ∙ ap (unless_blank says n) (sym (trimmed-same line t is)) ∙ some_said says n t other ∙ ap (λ x. Some x) (same t r s) ∙ sym e
  ]

pub reading-made : (n : ℕ) (line : Text) (o : Option Reading) → reading n line ≡ o → IsRead n line o
reading-made n line o =
    let second = λ (t name email rest : Text). second-made n t name email rest (trimmed_contact (cut rest)) (begins rest) in
    line-made line_reading _ n line (λ t. first-made _ (IsSecondRead n t) n t (second t) (trimmed_contact (cut t)) (begins t)) o

pub reading-same : (n : ℕ) (line : Text) (o : Option Reading) → IsRead n line o → reading n line ≡ o
reading-same n line o = line-same line_reading _ n line (λ t r. first-same _ (IsSecondRead n t) n t (λ name email rest r. second-same n t name email rest r) r) o

pub strict_reading-made : (n : ℕ) (line : Text) (o : Option Reading) → strict_reading n line ≡ o → IsReadStrictly n line o
strict_reading-made n line o =
    let second = λ (t name email rest : Text). strict-second-made n t name email rest (trimmed_contact (cut rest)) (begins rest) in
    line-made strict_line_reading _ n line (λ t. first-made _ (IsSecondReadStrictly n t) n t (second t) (trimmed_contact (cut t)) (begins t)) o

pub strict_reading-same : (n : ℕ) (line : Text) (o : Option Reading) → IsReadStrictly n line o → strict_reading n line ≡ o
strict_reading-same n line o = line-same strict_line_reading _ n line (λ t r. first-same _ (IsSecondReadStrictly n t) n t (λ name email rest r. strict-second-same n t name email rest r) r) o
