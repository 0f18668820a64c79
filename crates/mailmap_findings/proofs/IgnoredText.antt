-- A line means the same without its ignored text.
use Rattle.std.proofs.Common.{◌≡◌, ◌≢◌, ℕ, true, false, true≢false, Some, Ok, [], ◌∷◌, ◌++◌, length, length-append, append_assoc, inl, ⊎_elim, refl, sym, ap, subst, ◌∙◌, arith}
use Rattle.std.specs.Char.{encode_utf8}
use Rattle.std.specs.Str.{encode_utf8_all}
use Rattle.mailmap_entries.specs.Entries.{Mapping}
use Rattle.mailmap_entries.specs.Folding.{Text}
use Rattle.mailmap_grammar.specs.Lines.{Absent, Closed, IsComment, IsContact, IsSecondReadStrictly, IsUnclosed, NoContact, Reading, Unclosed, after_second, as_lenient, blank, blank_email, by_both, by_name, comment, cut, first, name_alone, neither, no_bracket, non_blank, open_first, open_second, second, strict_reading}
use Rattle.mailmap_grammar.specs.Trimming.{EndsWhite, IsTrimmed, trim}
use Rattle.mailmap_grammar.proofs.Cut.{cut-absent, cut-cut_at_closing, cut-unclosed}
use Rattle.mailmap_grammar.proofs.Grammar.{strict_reading-made, strict_reading-same}
use Rattle.mailmap_grammar.proofs.Trimmed.{trim-whites_end, trim-whites_start, trimmed-made, trimmed-same}
use Rattle.mailmap_findings.specs.Findings.{ignored}
use Rattle.mailmap_findings.specs.IgnoredText.{ReadsWithoutIgnored}
use Rattle.mailmap_grammar.proofs.WhiteEnds.{BeginsWhite-trimmed, EndsWhite-ascii, trim-nil, trim-stays, trim-trim}

-- ---- a line split into what counts and the rest

same_comment : (p q x y : Text) (b : ℕ) → IsComment ((p ++ b ∷ q) ++ x) → IsComment ((p ++ b ∷ q) ++ y)
same_comment [] q x y b (after, is) = let first : b ≡ 35 = cc in (q ++ y, ap (λ c. c ∷ (q ++ y)) first)
same_comment (z ∷ p) q x y b (after, is) = let first : z ≡ 35 = cc in ((p ++ b ∷ q) ++ y, ap (λ c. c ∷ ((p ++ b ∷ q) ++ y)) first)

-- the line without the rest, which leaves what counts
record Without (line counts rest : Text) : Type 0 where
  front : Text
  back : Text
  whole : line ≡ front ++ (trim rest ++ back)
  blank : trim back ≡ []
  comment : IsComment (front ++ back) → IsComment line
  left : trim (front ++ back) ≡ counts

-- what counts doesn't begin with white space if the line doesn't, and ends with `>`
stays : (line a u k rest : Text) → trim line ≡ (a ++ 60 ∷ u) ++ rest → a ++ 60 ∷ u ≡ k ++ 62 ∷ [] → trim (a ++ 60 ∷ u) ≡ a ++ 60 ∷ u
stays line a u k rest parts closed = trim-stays (a ++ 60 ∷ u)
    (λ h. BeginsWhite-trimmed (trim line) (sym (trim-trim line))
    (h.0, h.1 ++ rest, h.2, parts ∙ ap (λ s. s ++ rest) h.3 ∙ append_assoc (encode_utf8 h.0) h.1 rest))
    (λ h. let visible : false ≡ true = EndsWhite-ascii 62 k (omega arith) (subst EndsWhite closed h) in true≢false (sym visible))

without : (line a u k rest : Text) → trim line ≡ (a ++ 60 ∷ u) ++ rest → a ++ 60 ∷ u ≡ k ++ 62 ∷ [] → Without line (a ++ 60 ∷ u) rest
without line a u k rest parts closed =
    let outer = trimmed-made line (trim line) refl in
    let inner = trimmed-made rest (trim rest) refl in
    let w1 : Text = encode_utf8_all outer.1.white in
    let w2 : Text = encode_utf8_all outer.2.white in
    let v1 : Text = encode_utf8_all inner.1.white in
    let v2 : Text = encode_utf8_all inner.2.white in
    let counts : Text = a ++ 60 ∷ u in
    let front : Text = w1 ++ (counts ++ v1) in
    let back : Text = v2 ++ w2 in
    let line_is : line ≡ w1 ++ (trim line ++ w2) = outer.1.whole ∙ ap (λ s. w1 ++ s) outer.2.whole in
    let rest_is : rest ≡ v1 ++ (trim rest ++ v2) = inner.1.whole ∙ ap (λ s. v1 ++ s) inner.2.whole in
    let moved : w1 ++ ((counts ++ (v1 ++ (trim rest ++ v2))) ++ w2) ≡ front ++ (trim rest ++ back) = move w1 counts v1 (trim rest) v2 w2 in
    let whole : line ≡ front ++ (trim rest ++ back) = line_is ∙ ap (λ s. w1 ++ (s ++ w2)) (parts ∙ ap (λ s. counts ++ s) rest_is) ∙ moved in
    let first : front ≡ (w1 ++ a) ++ 60 ∷ (u ++ v1) = begin w1 a u v1 in
    let sides : front ++ back ≡ w1 ++ (((counts ++ v1) ++ v2) ++ w2) = side w1 (counts ++ v1) v2 w2 in
    record {
      front = front;
      back = back;
      whole = whole;
      blank = trim-whites_end outer.2.white v2 outer.2.are_white ∙ trim-whites_end inner.2.white [] inner.2.are_white ∙ trim-nil;
      comment = λ h. subst IsComment (sym whole) (rw first (same_comment (w1 ++ a) (u ++ v1) back (trim rest ++ back) 60 (rw first at h)));
      left = ap trim sides ∙ trim-whites_start outer.1.white (((counts ++ v1) ++ v2) ++ w2) outer.1.are_white
          ∙ trim-whites_end outer.2.white ((counts ++ v1) ++ v2) outer.2.are_white
          ∙ trim-whites_end inner.2.white (counts ++ v1) inner.2.are_white ∙ trim-whites_end inner.1.white counts inner.1.are_white
          ∙ stays line a u k rest parts closed;
    }
  where
    move : (w x v t y z : Text) → w ++ ((x ++ (v ++ (t ++ y))) ++ z) ≡ (w ++ (x ++ v)) ++ (t ++ (y ++ z))
    move w x v t y z = simp append_assoc

    begin : (w x y v : Text) → w ++ ((x ++ 60 ∷ y) ++ v) ≡ (w ++ x) ++ 60 ∷ (y ++ v)
    begin w x y v = simp append_assoc

    side : (w x y z : Text) → (w ++ x) ++ (y ++ z) ≡ w ++ ((x ++ y) ++ z)
    side w x y z = simp append_assoc

-- ---- the reading of the line

-- the same contact, followed by another text
followed : {s name email rest : Text} (c : IsContact s name email rest) (tail : Text) → IsContact (c.before ++ 60 ∷ (c.between ++ 62 ∷ tail)) name email tail
followed c tail = record {
  before = c.before;
  between = c.between;
  is_cut = record { whole = refl; no_opening = c.is_cut.no_opening; no_closing = c.is_cut.no_closing };
  is_name = c.is_name;
  is_email = c.is_email;
}

contact_cut : {s name email rest : Text} (c : IsContact s name email rest) → cut s ≡ Closed c.before c.between rest
contact_cut c = cut-cut_at_closing _ _ _ _ c.is_cut

module _ (n : ℕ) (line : Text) (e : Mapping) (plain : IsComment line → ⊥) (t : Text) (trimmed : IsTrimmed line t) {name email rest : Text} (c : IsContact t name email rest) (some : email ≢ []) where
  -- without the text after `tail`, which is what is left of the text after the first contact
  made : (tail k after : Text) → rest ≡ tail ++ after → c.before ++ 60 ∷ (c.between ++ 62 ∷ tail) ≡ k ++ 62 ∷ []
      → IsSecondReadStrictly n (c.before ++ 60 ∷ (c.between ++ 62 ∷ tail)) name email tail (Ok e) → after_second rest (cut rest) ≡ after → after_second tail (cut tail) ≡ [] → ReadsWithoutIgnored n line e
  made tail k after parts closed reads is none =
      let counts : Text = c.before ++ 60 ∷ (c.between ++ 62 ∷ tail) in
      let same : t ≡ trim line = trimmed-same line t trimmed in
      let whole : trim line ≡ counts ++ after = sym same ∙ c.is_cut.whole ∙ rw parts (simp append_assoc) in
      let w = without line c.before (c.between ++ 62 ∷ tail) k after whole closed in
      let left_out : ignored line ≡ trim after = rw (← same, contact_cut c, is) refl in
      record {
        front = w.front;
        back = w.back;
        whole = rw left_out w.whole;
        blank = w.blank;
        reads = strict_reading-same n (w.front ++ w.back) _ (non_blank counts (Ok e) (λ h. plain (w.comment h)) (trimmed-made _ counts (sym w.left))
            (λ empty. absurd (omega (arith, ap length empty, length-append c.before (60 ∷ (c.between ++ 62 ∷ tail))))) (first name email tail (followed c tail) some reads) refl);
        none = rw (w.left, contact_cut (followed c tail), none) trim-nil;
      }

  -- a line with one contact
  one : NoContact rest → name ≢ [] → ◌≡◌ {A = Reading} (Ok e) (Ok (by_name name email)) → ReadsWithoutIgnored n line e
  one none named is =
      let closed : IsUnclosed [] → ⊥ = λ u. let wrong : Absent ≡ Unclosed = sym (cut-absent [] tt) ∙ cut-unclosed [] u in cc in
      made [] (c.before ++ 60 ∷ c.between) rest refl (simp append_assoc) (as_lenient closed (name_alone (inl tt) named is))
      (⊎_elim (λ h. ap (after_second rest) (cut-absent rest h)) (λ u. ap (after_second rest) (cut-unclosed rest u)) none)
      (ap (after_second []) (cut-absent [] tt))

  -- a line with two contacts
  two : {old_name old_email more : Text} → IsContact rest old_name old_email more → ◌≡◌ {A = Reading} (Ok e) (Ok (by_both name email old_name old_email)) → ReadsWithoutIgnored n line e
  unfolding followed
  two {old_name = old_name} {old_email = old_email} {more = more} d is =
      let tail : Text = d.before ++ 60 ∷ (d.between ++ 62 ∷ []) in
      let cut_tail = contact_cut (followed d []) in
      let closed : IsUnclosed tail → ⊥ = λ u. let wrong : Closed d.before d.between [] ≡ Unclosed = sym cut_tail ∙ cut-unclosed tail u in cc in
      made tail (c.before ++ 60 ∷ (c.between ++ 62 ∷ (d.before ++ 60 ∷ d.between))) more (d.is_cut.whole ∙ simp append_assoc) (simp append_assoc)
      (as_lenient closed (second old_name old_email [] (followed d []) is)) (ap (after_second rest) (contact_cut d)) (ap (after_second tail) cut_tail)

pub reads_without : (n : ℕ) (line : Text) (e : Mapping) → strict_reading n line ≡ Some (Ok e) → ReadsWithoutIgnored n line e
reads_without n line e is = elim (strict_reading-made n line (Some (Ok e)) is) [
  | comment begins none ↦ absurd (cc)
  | blank plain trimmed none ↦ absurd (cc)
  | non_blank t r plain trimmed some reads same ↦
      let read : r ≡ Ok e = cc in
      elim reads [
        | no_bracket h fault ↦ absurd (cc)
        | open_first h fault ↦ absurd (cc)
        | blank_email name rest c fault ↦ absurd (cc)
        | first name email rest c some s ↦ elim s [
          | open_second h fault ↦ absurd (cc)
          | as_lenient closed s ↦ elim s [
            | second old_name old_email more d says ↦ two n line e plain t trimmed c some d (sym read ∙ says)
            | name_alone none named says ↦ one n line e plain t trimmed c some none named (sym read ∙ says)
            | neither none empty fault ↦ absurd (cc)
          ]
        ]
      ]
]
