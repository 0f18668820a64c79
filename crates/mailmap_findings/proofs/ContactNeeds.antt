-- The lines that no contact needs: they are crossed off as contacts are added, and without them and the lines without
-- effect, the answer to each contact is the same.
use Rattle.std.proofs.Common.{◌≡◌, Bool, true, false, cond, List, [], ◌∷◌, ◌++◌, Some, None, Less, filter, not, option_to_list, refl, sym, ap, subst, ◌∙◌, arith, Option, map, ◌+◌, ℕ, append_assoc}
use Rattle.std.specs.Prelude.{◌||◌, ◌&&◌, Contains, ◌↔◌}
use Rattle.std.specs.Cmp.{tied_itself}
use Rattle.std.proofs.lemmas.Bool.Decides.{nat_tests}
use Rattle.std.specs.List.{list_any, AllByRecursion, flat_map}
use Rattle.std.specs.Ordering.{eq_by_cmp, is_lt}
use Rattle.std.specs.Set.{remove_key}
use Rattle.std.proofs.lemmas.Bool.{or_parts}
use Rattle.std.proofs.lemmas.List.Elements.{filter_agree, filter-append}
use Rattle.mailmap_entries.specs.Folding.{Text}
use Rattle.mailmap_grammar.specs.Lines.{Unclosed, cut, split_once, trimmed_contact, contact_in, Closed, mappings_of}
use Rattle.mailmap_entries.proofs.Parts.{filter-filter, list_any-append, all_weaker, list_any-map}
use Rattle.mailmap_redundancy.specs.Redundancy.{LocatedMapping, position_cmp, entries}
use Rattle.mailmap_redundancy.specs.declared.located.Position.{Position}
use Rattle.mailmap_redundancy.proofs.Positions.{positions_total}
use Rattle.mailmap_findings.specs.Positions.{same_position, Line, located_lines, located, whole_lines, lines_from, texts_from, texts_left, has_entry_at}
use Rattle.mailmap_findings.proofs.Lines.{same_is, located_filter, Ascend, all_told, lines_ascend, told, later_map, sublist_filter, located_positions}
use Rattle.mailmap_findings.specs.Needs.{any_needs, contact_needs, is_empty, AreUnneeded, is_deletable, needs, unneeded}
use Rattle.std.proofs.lemmas.List.Folds.{list_any-from_Any}
use Rattle.mailmap_entries.specs.Entries.{Mapping}
use Rattle.mailmap_entries.specs.Semantics.{answer_of, IsNormal}
use Rattle.mailmap_redundancy.specs.Origins.{origins, needed, with_spelling}
use Rattle.mailmap_redundancy.proofs.Giving.{needed_answer}
use Rattle.mailmap_redundancy.proofs.Sublists.{sublist_map, sublist_trans}
use Rattle.mailmap_redundancy.proofs.Kept.{one_effective, some_effective, effective_sublist}
use Rattle.mailmap_findings.specs.Explanations.{in_order, needed_positions, position_of}
use Rattle.mailmap_findings.specs.Findings.{AreFindings, Finding, is_reported_redundant, FindingKind, reported_at, reported_of_line}
use Rattle.mailmap_findings.proofs.Pruned.{left_entries, or_false, same_listing, mappings_of_text}
use Rattle.mailmap_findings.proofs.Read.{mappings_of-located_lines, entries-append, texts-located}
use Rattle.mailmap_findings.proofs.Concatenated.{are_whole, some_whole}
use Rattle.mailmap_findings.specs.Remarks.{AreRemarks, Remark, found as remark_found, first_before, merged_remarks, unneeded as remark_unneeded}

pub filter_none : {X : Type 0} (xs : List X) → filter (λ x. true) xs ≡ xs
filter_none [] = refl
filter_none (x ∷ xs) = ap (λ l. x ∷ l) (filter_none xs)

-- removing a key from a set: none that passes the test is left
module _ {K : Type 0} (test : K → Bool) where
  none_pass : (ks : List K) → list_any test ks ≡ false → filter (λ k. not (test k)) ks ≡ ks
  none_pass [] none = refl
  none_pass (k ∷ ks) none = grind (arith, or_parts, (none_pass ks))

  removed_key : (ks : List K) → list_any test (remove_key test ks) ≡ false → remove_key test ks ≡ filter (λ k. not (test k)) ks
  removed_key [] none = refl
  removed_key (k ∷ ks) none = grind (arith, or_parts, none_pass, (removed_key ks))

-- equal in the order of a set
is_equal : (q p : Position) → eq_by_cmp position_cmp q p ≡ same_position p q
is_equal q p = grind (arith, nat_tests)

-- removing a position from a set
pub removed : (before after : List Position) (q : Position) → after ≡ remove_key (eq_by_cmp position_cmp q) before
    → list_any (eq_by_cmp position_cmp q) after ≡ false
    → after ≡ filter (λ p. not (list_any (same_position p) (q ∷ []))) before
removed before after q is none = grind (arith, removed_key, filter_agree, is_equal, or_false)

filter_both : {X : Type 0} (a b : X → Bool) (xs : List X)
    → filter (λ x. not (b x)) (filter (λ x. not (a x)) xs) ≡ filter (λ x. not (a x || b x)) xs
filter_both a b xs = grind (arith, filter-filter, filter_agree)

-- removing one list of positions and then another
pub removed_both : (ps : List Position) (xs ys : List Position)
    → filter (λ p. not (list_any (same_position p) ys)) (filter (λ p. not (list_any (same_position p) xs)) ps) ≡ filter (λ p. not (list_any (same_position p) (xs ++ ys))) ps
removed_both ps xs ys = filter_both (λ p. list_any (same_position p) xs) (λ p. list_any (same_position p) ys) ps
    ∙ filter_agree _ _ (λ p. ap not (sym (list_any-append (same_position p) xs ys))) ps

-- the unneeded lines after one more line of contacts
pub unneeded_more : (kept : List LocatedMapping) (ls : List Text) (l : Text) (ps : List Position)
    → filter (λ p. not (contact_needs kept (contact_in l) p)) (filter (λ p. not (any_needs kept ls p)) ps)
    ≡ filter (λ p. not (any_needs kept (ls ++ l ∷ []) p)) ps
unneeded_more kept ls l ps = filter_both (λ p. any_needs kept ls p) (λ p. contact_needs kept (contact_in l) p) ps
    ∙ filter_agree _ _ (λ p. ap not (ap (λ b. any_needs kept ls p || b) (sym (or_false (contact_needs kept (contact_in l) p)))
    ∙ sym (list_any-append (λ line. contact_needs kept (contact_in line) p) ls (l ∷ [])))) ps

-- before the first line of contacts, all lines with an effect are unneeded
pub unneeded_none : (kept : List LocatedMapping) (ps : List Position) → ps ≡ filter (λ p. not (any_needs kept [] p)) ps
unneeded_none kept ps = sym (filter_none ps)

-- ---- lines

pub unclosed_some : (t : Text) → trimmed_contact (cut t) ≡ Unclosed → is_empty t ≡ false
unfolding split_once
unclosed_some t e = grind arith

-- ---- the answers without the lines that no contact needs

-- ---- the positions that an answer needs are those of the entries it needs

abbrev IsAmong : List Position → Position → Type 0
IsAmong ps p = list_any (same_position p) ps ≡ true

two_among : (a b : Position) → IsAmong (in_order (Some a) (Some b)) a × IsAmong (in_order (Some a) (Some b)) b
two_among a b = grind arith

both_among : (a b : Option LocatedMapping) → AllByRecursion (λ x. IsAmong (in_order (position_of a) (position_of b)) x.position) (option_to_list a ++ option_to_list b)
both_among a b = grind (arith, two_among)

all_among : (name email first : Option LocatedMapping) → AllByRecursion (λ x. IsAmong (needed_positions (with_spelling name email first)) x.position) (needed (with_spelling name email first))
all_among name email first = grind (arith, both_among)

-- ---- lines that are needed are not reported

none_left : (test : Position → Bool) (p : Position) (ps : List Position) → test p ≡ false
    → list_any (same_position p) (filter test ps) ≡ false
none_left test p [] fails = refl
none_left test p (q ∷ ps) fails = grind (arith, same_is, (none_left test p ps fails))

contact_among : (kept : List LocatedMapping) (contacts : List Text) (line name email rest : Text) (p : Position)
    → Contains contacts line → contact_in line ≡ Closed name email rest → needs kept name email p ≡ true
    → any_needs kept contacts p ≡ true
contact_among kept contacts line name email rest p there is need = grind (arith, list_any-from_Any)

-- ---- without the lines that are reported

pub answered : (buffers : List Text) (contacts : Text) (found : List Finding) (missing : List Position) (line name email rest : Text) → AreFindings buffers found → AreUnneeded buffers contacts missing
    → Contains (whole_lines contacts) line → contact_in line ≡ Closed name email rest
    → answer_of (entries (located (filter (λ l. not (is_deletable found missing l)) (located_lines buffers)))) name email ≡ answer_of (flat_map mappings_of buffers) name email
answered buffers contacts found missing line name email rest are un there is =
    let ls = located_lines buffers in
    let all = whole_lines contacts in
    let is_missing : Position → Bool = λ p. list_any (same_position p) missing in
    let stays : LocatedMapping → Bool = λ x. not (is_missing x.position) in
    let left : located (filter (λ (l : Line). not (is_deletable found missing l)) ls) ≡ filter stays un.kept =
    ap located (sym (filter_both (is_reported_redundant found) (λ (l : Line). is_missing l.position) ls))
    ∙ located_filter (λ l. not (is_missing l.position)) stays (λ l e _. refl)
    (filter (λ (l : Line). not (is_reported_redundant found l)) ls)
    ∙ ap (filter stays) (left_entries buffers found are ∙ one_effective (located ls) are.kept un.kept are.effective un.effective) in
    let stay : AllByRecursion (λ (x : LocatedMapping). stays x ≡ true) (needed (origins un.kept name email)) =
    all_weaker (needed (origins un.kept name email))
    (λ (x : LocatedMapping) among. ap not (ap (list_any (same_position x.position)) un.whole
    ∙ none_left (λ p. not (any_needs un.kept all p)) x.position (map (λ (y : LocatedMapping). y.position) un.kept)
    (ap not (contact_among un.kept all line name email rest x.position there is among))))
    (all_among _ _ _) in
    ap (λ xs. answer_of (entries xs) name email) left
    ∙ needed_answer stays (located ls) un.kept name email un.effective stay
    ∙ ap (λ h. answer_of h name email) (mappings_of-located_lines 0 buffers)

-- ---- the list of unneeded lines is unique

pub some_unneeded : (buffers : List Text) (contacts : Text) → (missing : List Position) × AreUnneeded buffers contacts missing
some_unneeded buffers contacts =
    let effective = some_effective (located (located_lines buffers)) in
    (unneeded effective.0 (whole_lines contacts), record { kept = effective.0; effective = effective.1; whole = refl })

pub one_unneeded : (buffers : List Text) (contacts : Text) (missing other : List Position) → AreUnneeded buffers contacts missing → AreUnneeded buffers contacts other → missing ≡ other
one_unneeded buffers contacts missing other a b = grind (arith, one_effective)

-- ---- texts without these lines

module _ (is_left : Line → Bool) where
  pub entries_from : (buffer : ℕ) (ss : List Text) → flat_map mappings_of (texts_from is_left buffer ss) ≡ entries (located (filter is_left (lines_from buffer ss)))
  unfolding lines_from
  entries_from buffer [] = refl
  entries_from buffer (s ∷ ss) = grind (
    arith,
    texts-located,
    are_whole,
    mappings_of_text,
    some_whole,
    entries-append,
    filter-append,
    (entries_from (buffer + 1) ss),
  )

pub listing_left : (buffers : List Text) (found : List Finding) (n : List Mapping) → AreFindings buffers found
    → IsNormal (flat_map mappings_of buffers) n ↔ IsNormal (flat_map mappings_of (texts_left (λ l. not (is_reported_redundant found l)) buffers)) n
listing_left buffers found n are =
    subst (λ h. IsNormal (flat_map mappings_of buffers) n ↔ IsNormal h n) (sym (entries_from (λ l. not (is_reported_redundant found l)) 0 buffers)) (same_listing buffers found n are)

pub answered_left : (buffers : List Text) (contacts : Text) (found : List Finding) (missing : List Position) (line name email rest : Text) → AreFindings buffers found → AreUnneeded buffers contacts missing
    → Contains (whole_lines contacts) line → contact_in line ≡ Closed name email rest
    → answer_of (flat_map mappings_of (texts_left (λ l. not (is_deletable found missing l)) buffers)) name email ≡ answer_of (flat_map mappings_of buffers) name email
answered_left buffers contacts found missing line name email rest are un there is =
    ap (λ h. answer_of h name email) (entries_from (λ l. not (is_deletable found missing l)) 0 buffers) ∙ answered buffers contacts found missing line name email rest are un there is

-- ---- merging findings with these lines: one step

-- the next remark is a position
pub position_next : (ahead : Option Finding) (fs : List Finding) (ps rest : List Position) (p : Position)
    → (ahead ≡ None → fs ≡ []) → first_before ahead ps ≡ Some (p, rest)
    → merged_remarks (option_to_list ahead ++ fs) ps
    ≡ remark_unneeded p ∷ merged_remarks (option_to_list ahead ++ fs) rest
position_next ahead fs ps rest p nothing comes = grind (arith, nothing)

-- ---- line by line

abbrev NotBefore : Position → List Position → Type 0
NotBefore q [] = Unit {0}
NotBefore q (p ∷ ps) = is_lt (position_cmp p q) ≡ false

findings_first : (q : Position) (ts : List FindingKind) (gs : List Finding) (ps : List Position) → NotBefore q ps → merged_remarks (reported_at q ts ++ gs) ps ≡ map remark_found (reported_at q ts) ++ merged_remarks gs ps
findings_first q [] gs ps after = refl
findings_first q (t ∷ ts) gs ps after = grind (arith, (findings_first q ts gs ps after))

position_first : (q : Position) (gs : List Finding) (ps : List Position) → AllByRecursion (λ (g : Finding). position_cmp q g.position ≡ Less) gs → merged_remarks gs (q ∷ ps) ≡ remark_unneeded q ∷ merged_remarks gs ps
position_first q [] ps after = refl
position_first q (g ∷ gs) ps after = grind arith

-- the findings of one line, and then perhaps its position
merged_line : (q : Position) (ts : List FindingKind) (b : Bool) (gs : List Finding) (ps : List Position) → NotBefore q ps
    → AllByRecursion (λ (g : Finding). position_cmp q g.position ≡ Less) gs
    → merged_remarks (reported_at q ts ++ gs) (cond b (q ∷ ps) ps)
    ≡ map remark_found (reported_at q ts) ++ (cond b (remark_unneeded q ∷ []) [] ++ merged_remarks gs ps)
merged_line q ts b gs ps before after = grind (arith, findings_first, position_first, tied_itself, positions_total)

module _ (tell : Line → List FindingKind) (mark : Position → Bool) where
  abbrev both : Line → List Remark
  both l =
      map remark_found (reported_at l.position (tell l)) ++ cond (mark l.position) (remark_unneeded l.position ∷ []) []

  abbrev marks : List Line → List Position
  marks ls = filter mark (map (λ l. l.position) ls)

  after : (q : Position) (ls : List Line) → AllByRecursion (λ (l : Line). position_cmp q l.position ≡ Less) ls
      → NotBefore q (marks ls)
  after q [] a = tt
  after q (l ∷ ls) a = grind (arith, (after q ls a.1))

  pub line_by_line : (ls : List Line) → Ascend ls → merged_remarks (told tell ls) (marks ls) ≡ flat_map both ls
  line_by_line [] a = refl
  line_by_line (l ∷ ls) a =
      let q = l.position in
      let first = merged_line q (tell l) (mark q) (told tell ls) (marks ls) (after q ls a.0)
      (all_told tell (λ p. position_cmp q p ≡ Less) ls a.0) in
      grind (arith, first, append_assoc, (line_by_line ls a.1))

pub are_remarks : (buffers : List Text) (contacts : Text) (fs : List Finding) (ps : List Position) → AreFindings buffers fs → AreUnneeded buffers contacts ps → AreRemarks buffers contacts (merged_remarks fs ps)
are_remarks buffers contacts fs ps are un =
    let ls = located_lines buffers in
    let h = entries (located ls) in
    let kept = are.kept in
    let at : List LocatedMapping → List Position = map (λ (x : LocatedMapping). x.position) in
    let lines : List Position = map (λ (l : Line). l.position) ls in
    let test : Position → Bool = λ p. not (any_needs kept (whole_lines contacts) p) in
    let tell : Line → List FindingKind = λ l. reported_of_line h kept l in
    let effective = sublist_filter (λ p. p) (at kept) lines
    (sublist_trans _ _ _ (sublist_map (λ (x : LocatedMapping). x.position) kept (located ls)
    (effective_sublist (located ls) kept are.effective)) (located_positions ls))
    (later_map _ (λ (l : Line). l.position) ls (lines_ascend 0 buffers)) in
    let positions : ps ≡ filter (λ p. has_entry_at kept p && test p) lines = un.whole
    ∙ ap (λ xs. filter (λ p. not (any_needs xs (whole_lines contacts) p)) (at xs))
    (one_effective (located ls) un.kept kept un.effective are.effective) ∙ ap (filter test) (sym effective)
    ∙ filter-filter test (λ p. list_any (λ q. same_position q p) (at kept)) lines
    ∙ (λ i. filter (λ p. list_any-map (λ q. same_position q p)
    (λ (x : LocatedMapping). x.position) kept i && test p) lines) in
    record {
      kept = kept;
      effective = are.effective;
      whole = (λ i. merged_remarks (are.whole i) (positions i))
          ∙ line_by_line tell (λ p. has_entry_at kept p && test p) ls (lines_ascend 0 buffers);
    }
