-- The texts of entries and of faults are at their places.
use Rattle.std.proofs.Common.{◌≡◌, ◌+◌, ◌∙◌, ◌++◌, ◌∷◌, ℕ, [], Ok, Err, Option, None, Some, option_map, take, drop, length, length-append, take-append-drop, take_all, append_assoc, refl, sym, ap, subst, arith, unwrap_or, ⊎_elim}
use Rattle.std.proofs.lemmas.List.{take-append-le}
use Rattle.std.proofs.Math.Seq.{drop-append_seam}
use Rattle.std.specs.Char.{is_whitespace}
use Rattle.bstr.specs.Trim.{kept_end, kept_start}
use Rattle.bstr.specs.Utf8.{pieces, spans_from}
use Rattle.mailmap_entries.specs.Folding.{Text}
use Rattle.mailmap_grammar.specs.Lines.{IsContact, IsCut, IsFirstRead, IsRead, IsSecondRead, NoContact, Reading, by_both, by_name, comment, blank, non_blank, no_bracket, open_first, blank_email, first, second, name_alone, neither, cut, non_empty, reading}
use Rattle.mailmap_grammar.specs.Trimming.{trim}
use Rattle.mailmap_grammar.proofs.Cut.{cut-absent, cut-cut_at_closing, cut-unclosed}
use Rattle.mailmap_grammar.proofs.Grammar.{reading-made}
use Rattle.mailmap_grammar.proofs.Trimmed.{trimmed-same}
use Rattle.gix_mailmap_c.specs.Places.{AreAt, HasTexts, IsHeld, IsPartAt, PlacedContact, parsed_reading, place_of, placed_contact, places_in, text_at, with_first, with_second}
use Rattle.gix_mailmap_c.specs.declared.parsing.Parsed.{Parsed}

-- ---- contacts

abbrev contact : ℕ → Text → Text → Text → PlacedContact
contact start a b c = record {
  name = place_of start a;
  email = place_of (start + length a + 1) b;
  rest = c;
  end = start + length a + length b + 2;
}

given : (t : Text) → unwrap_or (non_empty t) [] ≡ t
given [] = refl
given (b ∷ t) = refl

none_placed : (start : ℕ) (rest : Text) → NoContact rest → placed_contact start (cut rest) ≡ None
none_placed start rest none = ⊎_elim (λ h. ap (placed_contact start) (cut-absent rest h)) (λ h. ap (placed_contact start) (cut-unclosed rest h)) none

-- ---- parts of parts

module _ (text : Text) where
  front : (start : ℕ) (a b : Text) → IsPartAt text start (a ++ b) → IsPartAt text start a
  front start a b p = record {
    before = p.before;
    after = b ++ p.after;
    whole = p.whole ∙ ap (λ r. p.before ++ r) (append_assoc a b p.after);
    begins = p.begins;
  }

  back : (start end : ℕ) (a b : Text) → end ≡ start + length a → IsPartAt text start (a ++ b) → IsPartAt text end b
  back start end a b is p = record {
    before = p.before ++ a;
    after = p.after;
    whole = p.whole ∙ ap (λ r. p.before ++ r) (append_assoc a b p.after) ∙ sym (append_assoc p.before a (b ++ p.after));
    begins = omega (arith, length-append p.before a, p.begins, is);
  }

  read : (start : ℕ) (part : Text) → IsPartAt text start part → take (length part) (drop start text) ≡ part
  read start part p =
      let tail : drop start text ≡ part ++ p.after = ap (λ k. drop k text) (sym p.begins) ∙ ap (drop (length p.before)) p.whole ∙ drop-append_seam p.before (part ++ p.after) in
      ap (take (length part)) tail ∙ take-append-le (length part) part p.after (omega arith) ∙ take_all (length part) part (omega arith)

  trimmed : (start : ℕ) (part : Text) → IsPartAt text start part → IsPartAt text (place_of start part).start (trim part)
  unfolding trim
  trimmed start part p =
      let n = kept_start is_whitespace (length part) (spans_from 0 (pieces part)) in
      let left = drop n part in
      let m = kept_end is_whitespace 0 (spans_from 0 (pieces left)) in
      let lead = take n part in
      let whole : lead ++ left ≡ part = take-append-drop n part in
      let len : length part ≡ length lead + length left = ap length (sym whole) ∙ length-append lead left in
      let rest = back start (place_of start part).start lead left (omega (arith, len)) (subst (IsPartAt text start) (sym whole) p) in
      front (place_of start part).start (take m left) (drop m left) (subst (IsPartAt text (place_of start part).start) (sym (take-append-drop m left)) rest)

  held : (start : ℕ) (part : Text) → IsPartAt text start part → text_at text (place_of start part) ≡ trim part
  held start part p = read (place_of start part).start (trim part) (trimmed start part p)

  -- the parts of a text that begins with a contact
  record PartsAt (start : ℕ) (a b c : Text) : Type 0 where
    name : IsPartAt text start a
    email : IsPartAt text (start + length a + 1) b
    rest : IsPartAt text (start + length a + length b + 2) c

  parts_at : (start : ℕ) (s a b c : Text) → IsCut s a b c → IsPartAt text start s → PartsAt start a b c
  parts_at start s a b c is p =
      let all = subst (IsPartAt text start) is.whole p in
      let opened = back start (start + length a) a (60 ∷ (b ++ 62 ∷ c)) refl all in
      let inner = back (start + length a) (start + length a + 1) (60 ∷ []) (b ++ 62 ∷ c) refl opened in
      let closed = back (start + length a + 1) (start + length a + 1 + length b) b (62 ∷ c) refl inner in
      record {
        name = front start a (60 ∷ (b ++ 62 ∷ c)) all;
        email = front (start + length a + 1) b (62 ∷ c) inner;
        rest = back (start + length a + 1 + length b) (start + length a + length b + 2) (62 ∷ []) c (omega arith) closed;
      }

  -- ---- entries

  with_two : (start : ℕ) (t name email rest old_name old_email tail : Text) (one : IsContact t name email rest) (two : IsContact rest old_name old_email tail)
      → IsPartAt text start t → AreAt text (by_both name email old_name old_email) (places_in start t)
  with_two start t name email rest old_name old_email tail one two p =
      let at = parts_at start t one.before one.between rest one.is_cut p in
      let end = start + length one.before + length one.between + 2 in
      let more = parts_at end rest two.before two.between tail two.is_cut at.rest in
      let here = contact start one.before one.between rest in
      let is : places_in start t ≡ with_second here (placed_contact end (cut rest)) =
      ap (λ k. with_first (placed_contact start k)) (cut-cut_at_closing t one.before one.between rest one.is_cut) in
      let is_two : with_second here (placed_contact end (cut rest)) ≡ with_second here (Some (contact end two.before two.between tail)) =
      ap (λ k. with_second here (placed_contact end k)) (cut-cut_at_closing rest two.before two.between tail two.is_cut) in
      subst (AreAt text (by_both name email old_name old_email)) (sym (is ∙ is_two)) (record {
        new_name = held start one.before at.name ∙ sym (trimmed-same _ _ one.is_name) ∙ sym (given name);
        new_email = held (start + length one.before + 1) one.between at.email ∙ sym (trimmed-same _ _ one.is_email);
        old_name = held end two.before more.name ∙ sym (trimmed-same _ _ two.is_name) ∙ sym (given old_name);
        old_email = held (end + length two.before + 1) two.between more.email ∙ sym (trimmed-same _ _ two.is_email);
      })

  with_one : (start : ℕ) (t name email rest : Text) (one : IsContact t name email rest) → NoContact rest
      → IsPartAt text start t → AreAt text (by_name name email) (places_in start t)
  with_one start t name email rest one none p =
      let at = parts_at start t one.before one.between rest one.is_cut p in
      let end = start + length one.before + length one.between + 2 in
      let here = contact start one.before one.between rest in
      let is : places_in start t ≡ with_second here (placed_contact end (cut rest)) =
      ap (λ k. with_first (placed_contact start k)) (cut-cut_at_closing t one.before one.between rest one.is_cut) in
      let is_one : with_second here (placed_contact end (cut rest)) ≡ with_second here None = ap (with_second here) (none_placed end rest none) in
      subst (AreAt text (by_name name email)) (sym (is ∙ is_one)) (record {
        new_name = held start one.before at.name ∙ sym (trimmed-same _ _ one.is_name);
        new_email = refl;
        old_name = refl;
        old_email = held (start + length one.before + 1) one.between at.email ∙ sym (trimmed-same _ _ one.is_email);
      })

  -- ---- lines

  module _ (start number : ℕ) (line : Text) (p : IsPartAt text start line) where
    abbrev Holds : Reading → Type 0
    Holds r = HasTexts text r (parsed_reading start number line r)

    faulty : (t : Text) → t ≡ trim line → text_at text (place_of start line) ≡ t
    faulty t is = held start line p ∙ sym is

    second_held : (t name email rest : Text) (r : Reading) → t ≡ trim line → IsContact t name email rest → IsSecondRead number t name email rest r → Holds r
    second_held t name email rest r is one h =
        let at : IsPartAt text (place_of start line).start t = subst (IsPartAt text (place_of start line).start) (sym is) (trimmed start line p) in
        elim h [
          | second old_name old_email tail two e ↦ subst Holds (sym e)
              (subst (λ s. AreAt text (by_both name email old_name old_email) (places_in (place_of start line).start s)) is (with_two (place_of start line).start t name email rest old_name old_email tail one two at))
          | name_alone none other e ↦ subst Holds (sym e)
              (subst (λ s. AreAt text (by_name name email) (places_in (place_of start line).start s)) is (with_one (place_of start line).start t name email rest one none at))
          | neither none same e ↦ subst Holds (sym e) (faulty t is)
        ]

    first_held : (t : Text) (r : Reading) → t ≡ trim line → IsFirstRead (IsSecondRead number t) number t r → Holds r
    first_held t r is h = elim h [
      | no_bracket none e ↦ subst Holds (sym e) (faulty t is)
      | open_first none e ↦ subst Holds (sym e) (faulty t is)
      | blank_email name rest one e ↦ subst Holds (sym e) (faulty t is)
      | first name email rest one other more ↦ second_held t name email rest r is one more
    ]

    line_held : (r : Reading) → IsRead number line (Some r) → Holds r
    line_held r h = elim h [
      | comment c e ↦ absurd (cc)
      | blank c t e ↦ absurd (cc)
      | non_blank t r' no_comment trim_is some parses e ↦
          let same : r ≡ r' = cc in
          subst Holds (sym same) (first_held t r' (trimmed-same _ _ trim_is) parses)
    ]

    pub parsed_held : (o : Option Reading) (found : Parsed) → reading number line ≡ o
        → option_map (parsed_reading start number line) o ≡ Some found → IsHeld text found
    parsed_held None found e is = absurd (cc)
    parsed_held (Some (Ok entry)) found e is =
        let same : parsed_reading start number line (Ok entry) ≡ found = cc in
        subst (IsHeld text) same (line, Ok entry, e, line_held (Ok entry) (reading-made number line (Some (Ok entry)) e))
    parsed_held (Some (Err fault)) found e is =
        let same : parsed_reading start number line (Err fault) ≡ found = cc in
        subst (IsHeld text) same (line, Err fault, e, line_held (Err fault) (reading-made number line (Some (Err fault)) e))
