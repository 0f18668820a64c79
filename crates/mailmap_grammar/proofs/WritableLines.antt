-- The entry of any line can be written as a line, and so can the normal list of entries that can be written.
use Rattle.std.proofs.Common.{◌≡◌, ◌≢◌, ◌+◌, ℕ, true, List, [], ◌∷◌, ◌++◌, flat_map, Option, Some, None, IfSome, option_to_list, IfOk, sym, Bool, arith, filter, length, IfNone, is_some, unwrap_or, option_map, All, ap, ◌∙◌}
use Rattle.std.specs.List.{AllByRecursion}
use Rattle.mailmap_grammar.specs.CanonicalText.{IsWritableName, IsWritableEmail, IsWritable}
use Rattle.mailmap_entries.specs.Folding.{Text, folded}
use Rattle.mailmap_grammar.specs.Lines.{Reading, ParsedContact, Absent, Unclosed, Closed, HoldsNo, cut, trimmed_contact, non_empty, two_contacts, first_contact, line_reading, reading, readings_from, pieces, mappings_in, mappings_of}
use Rattle.mailmap_grammar.specs.Trimming.{trim}
use Rattle.mailmap_grammar.proofs.FaultLines.{if_read}
use Rattle.mailmap_grammar.proofs.Cut.{absent_kind, closed_kind, kind, unclosed_kind}
use Rattle.mailmap_grammar.proofs.LineFeeds.{pieces-hold_no}
use Rattle.mailmap_entries.proofs.Parts.{all_head, all_tail, all_append, all_apply, all_last, all_weaker}
use Rattle.mailmap_grammar.proofs.WhiteEnds.{trim-trim, HoldsNo-trim}
use Rattle.std.specs.Option.{option_and_then}
use Rattle.std.specs.Ordering.{eq_by_cmp}
use Rattle.std.proofs.lemmas.List.{length-map, nil_from_length}
use Rattle.std.proofs.lemmas.Map.Views.{tells_apart}
use Rattle.std.proofs.lemmas.List.Elements.{recursion_from_All, All-from_recursion, All-filter, filter_passes}
use Rattle.mailmap_entries.specs.Entries.{Mapping}
use Rattle.mailmap_entries.specs.Semantics.{Key, key, key_cmp, first, last, is_accepted, accepted, of_key, has_key, new_fields, no_fields, last_given, spelling, mapping_with, value, IsNormal}
use Rattle.mailmap_entries.proofs.Ascending.{each_key}
use Rattle.mailmap_entries.proofs.Exists.{speller}
use Rattle.mailmap_entries.proofs.Keys.{keys_total, keys_exact}
use Rattle.mailmap_entries.proofs.Normal.{known}

-- ---- one line

-- a trimmed contact can be written
abbrev pub ContactFits : ParsedContact → Type 0
ContactFits Absent = Unit {0}
ContactFits Unclosed = Unit {0}
ContactFits (Closed name email rest) = IfSome (non_empty name) IsWritableName × IsWritableEmail email × HoldsNo 10 rest

name_fits : (s : Text) → s ≡ trim s → HoldsNo 60 s → HoldsNo 10 s → IfSome (non_empty s) IsWritableName
name_fits s same opening line = grind arith

-- the contacts of a line can be written
pub contact_fits : (s : Text) → HoldsNo 10 s → ContactFits (trimmed_contact (cut s))
contact_fits s line = elim (kind s) [
  | absent_kind none e ↦ rw e tt
  | unclosed_kind is e ↦ rw e tt
  | closed_kind a b c is e ↦
      let whole : HoldsNo 10 (a ++ 60 ∷ (b ++ 62 ∷ c)) = rw is.whole at line in
      let after = all_tail _ a (60 ∷ (b ++ 62 ∷ c)) whole in
      rw e (
        name_fits (trim a) (sym (trim-trim a)) (HoldsNo-trim 60 a is.no_opening) (HoldsNo-trim 10 a (all_head _ a (60 ∷ (b ++ 62 ∷ c)) whole)),
        record { trimmed = sym (trim-trim b); no_closing = HoldsNo-trim 62 b is.no_closing; one_line = HoldsNo-trim 10 b (all_head _ b (62 ∷ c) after.1) },
        (all_tail _ b (62 ∷ c) after.1).1,
      )
]

first_fits : (n : ℕ) (t : Text) (h : ParsedContact) → ContactFits h → IfOk (first_contact (λ name email rest. two_contacts n t name email (trimmed_contact (cut rest))) n t h) IsWritable
first_fits n t h i = grind (arith, contact_fits)

reading_fits : (n : ℕ) (l : Text) → HoldsNo 10 l → IfSome (reading n l) (λ r. IfOk r IsWritable)
reading_fits n l line = if_read (λ r. IfOk r IsWritable) line_reading n l (first_fits n (trim l) _ (contact_fits (trim l) (HoldsNo-trim 10 l line)))

more_good : (o : Option Reading) (rs : List Reading) → IfSome o (λ r. IfOk r IsWritable) → AllByRecursion IsWritable (mappings_in rs) → AllByRecursion IsWritable (mappings_in (option_to_list o ++ rs))
unfolding mappings_in
more_good o rs h i = grind arith

good_fits : (n : ℕ) (ls : List Text) → AllByRecursion (HoldsNo 10) ls → AllByRecursion IsWritable (mappings_in (readings_from reading n ls))
unfolding readings_from mappings_in
good_fits n [] lines = tt
good_fits n (l ∷ ls) lines = more_good (reading n l) (readings_from reading (n + 1) ls) (reading_fits n l lines.0) (good_fits (n + 1) ls lines.1)

pub all_read : (buffers : List Text) → AllByRecursion IsWritable (flat_map mappings_of buffers)
all_read [] = tt
all_read (b ∷ bs) = all_append IsWritable (mappings_of b) (flat_map mappings_of bs) (good_fits 1 (pieces b) (pieces-hold_no b)) (all_read bs)

-- ---- the fields of several entries

-- what holds for a field of each entry holds for the last that is given
last_all : (f : Mapping → Option Text) (P : Text → Type 0) (l : List Mapping) → AllByRecursion (λ e. IfSome (f e) P) l → IfSome (last_given f l) P
last_all f P [] a = tt
last_all f P (x ∷ l) a = grind (arith, a.0, last_all f P l a.1)

-- without a new email, the first entry has none
no_email : (x : Mapping) (l : List Mapping) (P : Type 0) → IfNone x.new_email P → IfNone (last_given (λ e. e.new_email) (x ∷ l)) P
no_email x l P h = grind arith

-- ---- the value of a key

-- a text is empty if one that folds to the same is
some_folded : (s t : Text) → folded s ≡ folded t → s ≢ [] → t ≢ []
some_folded s t same some none = some (nil_from_length s (sym (length-map s _) ∙ ap length same ∙ rw none))

abbrev FitsKey : Key → Mapping → Type 0
FitsKey k e = IsWritable e × (k ≡ key e)

module _ (k : Key) (s : Text) (email : IsWritableEmail s) (same : folded s ≡ k.0) where
  -- the first email isn't empty
  some_email : (e : Mapping) → FitsKey k e → IfNone e.new_email (s ≢ [])
  some_email e (w, is) = let some = some_folded e.old_email s (ap (λ j. j.0) (sym is) ∙ sym same) in grind (arith, w.some_old, some)

  -- a value without an old name can be written: it has the last of each field
  given_fits : (l : List Mapping) → is_some (first l) ≡ true → AllByRecursion (FitsKey k) l
      → IsWritable (mapping_with (record { name = last_given (λ e. e.new_name) l; email = last_given (λ e. e.new_email) l }) None s)
  given_fits l h i = grind (arith, last_all, all_weaker, no_email, some_email)

  -- a value with an old name can be written: it has the new fields of the last entry, and the name of the first
  named_fits : (l : List Mapping) → is_some (first l) ≡ true → AllByRecursion (FitsKey k) l
      → IsWritable (mapping_with (unwrap_or (option_map new_fields (last l)) no_fields) (option_and_then (λ e. e.old_name) (first l)) s)
  named_fits l h i = grind (arith, all_last, some_email)

module _ (h : List Mapping) (writable : AllByRecursion IsWritable h) where
  -- the accepted entries that a filter selects
  picked : (p : Mapping → Bool) → AllByRecursion IsWritable (filter p (accepted h))
  picked p = recursion_from_All _ _ (All-filter p IsWritable (accepted h) (All-filter is_accepted IsWritable h (All-from_recursion IsWritable h writable)))

  module _ (k : Key) (has : has_key (accepted h) k ≡ true) where
    -- the stored spelling
    abbrev kept : Text
    kept = unwrap_or (spelling h k.0) []

    kept_fits : IsWritableEmail kept
    kept_fits = grind (arith, speller, all_weaker, picked)

    kept_folded : folded kept ≡ k.0
    kept_folded = let w = speller h k has in ap (λ o. folded (unwrap_or o [])) w.1 ∙ w.2

    some : is_some (first (of_key h k)) ≡ true
    some = sym (known h k) ∙ has

    keyed : AllByRecursion (FitsKey k) (of_key h k)
    keyed =
        all_apply IsWritable (λ e. eq_by_cmp key_cmp k (key e) ≡ true) (FitsKey k) (λ e w is. (w, tells_apart keys_exact k (key e) is)) (of_key h k)
        (picked _) (recursion_from_All _ _ (filter_passes (λ e. eq_by_cmp key_cmp k (key e)) (accepted h)))

  value_fits : (k : Key) → has_key (accepted h) k ≡ true → IsWritable (value h k)
  value_fits (email, None) has = let k : Key = (email, None) in given_fits k (kept k has) (kept_fits k has) (kept_folded k has) (of_key h k) (some k has) (keyed k has)
  value_fits (email, Some name) has = let k : Key = (email, Some name) in named_fits k (kept k has) (kept_fits k has) (kept_folded k has) (of_key h k) (some k has) (keyed k has)

  normal_fits : (n : List Mapping) → IsNormal h n → All IsWritable n
  normal_fits n d =
      let fits = each_key keys_total keys_exact key (value h) (λ k. IsWritable (value h k)) n (λ k is. value_fits k (sym (d.keys k) ∙ is)) in
      λ i x within. rw (d.values i x within) (All-from_recursion _ n fits i x within)

pub built_fit : (buffers : List Text) (n : List Mapping) → IsNormal (flat_map mappings_of buffers) n → All IsWritable n
built_fit buffers = normal_fits (flat_map mappings_of buffers) (all_read buffers)
