-- Which lines are reported as without effect, what pruning leaves of a buffer, and the findings and git's answers then.
use Rattle.std.proofs.Common.{◌≡◌, ◌≢◌, ◌+◌, ◌==◌, ℕ, Bool, true, false, if◌then◌else◌, Less, Option, Some, None, IfSome, List, [], ◌∷◌, map, option_map, ⊎_elim, inl, inr, arith, ap, refl, subst, sym, ◌∙◌, is_none, ◌++◌, filter, append-nil, option_to_list, is_some, unwrap_or, rules}
use Rattle.std.specs.Prelude.{◌⊎◌, ◌||◌, ◌↔◌, ◌&&◌, Contains, not}
use Rattle.std.specs.Cmp.{tied_itself}
use Rattle.std.specs.List.{AllByRecursion, cons_option, flat_map, list_any}
use Rattle.std.specs.Option.{option_and_then}
use Rattle.mailmap_entries.specs.Folding.{Text}
use Rattle.mailmap_entries.proofs.Parts.{filter_alike, all_weaker, filter_all, all_apply, all_mapped, all_map}
use Rattle.mailmap_entries.specs.Semantics.{Fields, IsNormal, first, is_accepted, key, fields_for, no_fields, answer_of}
use Rattle.mailmap_redundancy.specs.Origins.{Origins, origins, git_answer_from}
use Rattle.mailmap_redundancy.specs.Redundancy.{LocatedMapping, position_cmp, IsPass, done, goes, stays, AreEffective, settled, again, IsSublist, entries, last_position}
use Rattle.mailmap_redundancy.specs.declared.located.Position.{Position}
use Rattle.mailmap_redundancy.proofs.Giving.{AreOf, all_filter, moved_entry, moved_origins, origins-moved, origins_are, same_git_answer}
use Rattle.mailmap_redundancy.proofs.Positions.{positions_total}
use Rattle.mailmap_findings.specs.Explanations.{in_order, origin_positions, position_of}
use Rattle.mailmap_findings.specs.Positions.{Line, located, same_position, entry, has_entry_at, whole_lines, located_from, lines_from, located_lines, located_entry}
use Rattle.mailmap_findings.specs.Marks.{after_mark, is_marked, unmarked, unmarked_fields}
use Rattle.mailmap_findings.specs.Pruning.{MarksStay, number_among, position_among, is_left, lines_left, renumbered, with_number}
use Rattle.mailmap_findings.proofs.Lines.{Ascend, line_at, before_differs, after_differs, lines_ascend, at_entries, all_located, later_filter, later_located, located_filter, same_itself, sublist_filter, same_is}
use Rattle.std.proofs.lemmas.Bool.{or_right, or_left}
use Rattle.std.proofs.lemmas.List.{map-append}
use Rattle.std.proofs.lemmas.List.Concat.{flat_map-append}
use Rattle.std.proofs.lemmas.List.Folds.{flat_map-map, list_any-append}
use Rattle.std.proofs.lemmas.Simd.{map-map}
use Rattle.mailmap_entries.specs.Entries.{Mapping}
use Rattle.mailmap_grammar.specs.Lines.{Reading, mappings_of, strict_reading}
use Rattle.mailmap_redundancy.proofs.Kept.{effective_again, effective_normal, effective_sublist, last_stays, one_effective, some_effective, listing_differs, effective_answer}
use Rattle.mailmap_findings.specs.Findings.{IsPruned, is_line_kept, AreFindings, NewContact, Finding, FindingKind, byte_order_mark, comment_in_line, proper_contact, findings, git_reads, given, has_comment, has_no_effect, is_reported_redundant, mapped_contact, mapping_positions, read_otherwise, reported_at, reported_of_contact, reported_of_entry, reported_of_line, reported_of_proper, reported_of_reading, reports, replaced_contact, some_if, first_read_otherwise}
use Rattle.mailmap_findings.proofs.Read.{mappings_of-located_lines, entry_same, entries-renumbered, texts-located, located_accepted, reading_numbered}
use Rattle.mailmap_findings.proofs.Concatenated.{joined, joined-whole_lines, are_whole, whole_lines-joined, texts, some_whole, AreWhole}
use Rattle.std.proofs.lemmas.List.Elements.{All-contains_itself, recursion_from_All, filter-append, filter_map-append, filter_passes}
use Rattle.mailmap_findings.specs.Git.{GitReading, git_entries, read_in_place}
use Rattle.mailmap_entries.proofs.EqualListings.{entries_decide}
use Rattle.mailmap_entries.proofs.Exists.{is_normal, normal}
use Rattle.mailmap_entries.proofs.Normal.{alike_normal}
use Rattle.mailmap_findings.specs.GitAnswers.{git_answer, git_mappings}
use Rattle.mailmap_entries.proofs.Joined.{first-map}

-- ---- lines that move

abbrev pub moved_line : (Position → Position) → Line → Line
moved_line move l = record { position = move l.position; text = l.text }

abbrev IsAmong : List Line → Position → Type 0
IsAmong [] p = ⊥
IsAmong (l ∷ ls) p = (l.position ≡ p) ⊎ IsAmong ls p

among : (P : Position → Type 0) (ls : List Line) (p : Position) → AllByRecursion (λ l. P l.position) ls → IsAmong ls p
    → P p
among P [] p all is = absurd is
among P (l ∷ ls) p all is = ⊎_elim (λ here. subst P here all.0) (λ later. among P ls p all.1 later) is

module _ (move : Position → Position) where
  -- lines after the first one stay after it
  less_still : (l : Line) (ls : List Line) (p : Position)
      → AllByRecursion (λ m. position_cmp l.position m.position ≡ Less) ls
      → AllByRecursion (λ m. position_cmp (move l.position) m.position ≡ Less) (map (moved_line move) ls) → IsAmong ls p
      → position_cmp (move l.position) (move p) ≡ position_cmp l.position p
  less_still l ls p a b at = among (λ r. position_cmp (move l.position) (move r) ≡ Less) ls p
      (all_map (moved_line move) (λ m. position_cmp (move l.position) m.position ≡ Less) ls b) at
      ∙ sym (among (λ r. position_cmp l.position r ≡ Less) ls p a at)

  -- lines keep their order if they ascend before and after
  same_order : (ls : List Line) → Ascend ls → Ascend (map (moved_line move) ls) → (p q : Position) → IsAmong ls p
      → IsAmong ls q → position_cmp (move p) (move q) ≡ position_cmp p q
  same_order [] a b p q at_p at_q = absurd at_p
  same_order (l ∷ ls) a b p q at_p at_q =
      grind (arith, tied_itself, positions_total, less_still, (same_order ls a.1 b.1 p q))

-- the entries of lines are among these
all_among : (ls : List Line) → AllByRecursion (λ x. IsAmong ls x.position) (located ls)
all_among ls = at_entries (IsAmong ls) ls (each ls)
  where
    each : (ms : List Line) → AllByRecursion (λ m. IsAmong ms m.position) ms
    each [] = tt
    each (m ∷ ms) = (inl refl, all_weaker ms (λ (k : Line). inr) (each ms))

-- ---- the lines behind an answer

module _ (new_position : Position → Position) (ls : List Line) (before : Ascend ls)
    (after : Ascend (map (moved_line new_position) ls)) where
  abbrev IsHere : LocatedMapping → Type 0
  IsHere x = IsAmong ls x.position

  order-moved : (a b : Option LocatedMapping) → IfSome a IsHere → IfSome b IsHere
      → in_order (position_of (option_map (moved_entry new_position) a))
      (position_of (option_map (moved_entry new_position) b))
      ≡ map new_position (in_order (position_of a) (position_of b))
  order-moved a b at_a at_b = grind (arith, same_order)

  behind-moved : (g : Origins) (f : Fields) → AreOf IsHere g
      → origin_positions (moved_origins new_position g) f ≡ map new_position (origin_positions g f)
  behind-moved g f are = grind (arith, moved_entry, order-moved)

  moved_positions : (kept : List LocatedMapping) → AllByRecursion IsHere kept → (name email : Text) (f : Fields)
      → origin_positions (origins (map (moved_entry new_position) kept) name email) f
      ≡ map new_position (origin_positions (origins kept name email) f)
  moved_positions kept all name email f = ap (λ g. origin_positions g f) (origins-moved new_position kept name email)
      ∙ behind-moved (origins kept name email) f (origins_are IsHere kept name email all)

-- ---- a pruned text

-- the lines that pruning keeps have exactly the effective entries
pub located_kept : (kept : List LocatedMapping) (ls : List Line) → IsSublist kept (located ls) → Ascend ls
    → located (filter (is_line_kept kept) ls) ≡ kept
located_kept kept ls s up = located_filter (is_line_kept kept) (λ x. has_entry_at kept x.position)
    (λ l e is. ap (λ o. is_none o || has_entry_at kept l.position) is) ls
    ∙ sublist_filter (λ (x : LocatedMapping). x.position) kept (located ls) s (later_located (λ p q. position_cmp p q ≡ Less) ls up)

-- ---- the text of some lines has their entries

pub one_buffer : (s : Text) → located_lines (s ∷ []) ≡ located_from 0 1 (whole_lines s)
unfolding lines_from
one_buffer s = append-nil (located_from 0 1 (whole_lines s))

pub lines_whole : (s : Text) → AreWhole (texts (located_lines (s ∷ [])))
lines_whole s = subst AreWhole (sym (ap texts (one_buffer s) ∙ texts-located 0 1 (whole_lines s))) (are_whole s)

pub mappings_of-one : (s : Text) → entries (located (located_lines (s ∷ []))) ≡ mappings_of s
mappings_of-one s = mappings_of-located_lines 0 (s ∷ []) ∙ append-nil (mappings_of s)

module _ (ls : List Line) (are : AreWhole (texts ls)) where
  abbrev made : Text
  made = flat_map (λ l. l.text) ls

  lines_of_text : whole_lines made ≡ texts ls
  lines_of_text = grind (arith, flat_map-map, whole_lines-joined)

  pub mappings_of_text : mappings_of made ≡ entries (located ls)
  mappings_of_text = sym (mappings_of-one made)
      ∙ ap (λ ms. entries (located ms)) (one_buffer made ∙ ap (located_from 0 1) lines_of_text)
      ∙ entries-renumbered 0 1 ls

-- ---- lines and entries that move

-- the lines ls are numbered among all, from n on
abbrev AreNumbered : List Line → ℕ → List Line → Type 0
AreNumbered all n [] = Unit {0}
AreNumbered all n (l ∷ ls) = (number_among all l.position ≡ n) × AreNumbered all (n + 1) ls

one_more : (l : Line) (all : List Line) (n : ℕ) (ls : List Line)
    → AllByRecursion (λ m. position_cmp l.position m.position ≡ Less) ls → AreNumbered all n ls
    → AreNumbered (l ∷ all) (n + 1) ls
one_more l all n [] up are = tt
one_more l all n (m ∷ ls) up are = grind (arith, before_differs, (one_more l all (n + 1) ls up.1 are.1))

are_numbered : (ls : List Line) → Ascend ls → AreNumbered ls 1 ls
are_numbered [] up = tt
are_numbered (l ∷ ls) up = (
  ap (λ b. if b then 1 else number_among ls l.position + 1) (same_itself l.position),
  one_more l ls 1 ls up.0 (are_numbered ls up.1),
)

lines_moved : (all : List Line) (n : ℕ) (ls : List Line) → AreNumbered all n ls
    → located_from 0 n (texts ls) ≡ map (moved_line (position_among all)) ls
unfolding located_from
lines_moved all n [] are = refl
lines_moved all n (l ∷ ls) are = λ i. line_at 0 (sym are.0 i) l.text ∷ lines_moved all (n + 1) ls are.1 i

module _ (move : Position → Position) where
  abbrev mv : LocatedMapping → LocatedMapping
  mv = moved_entry move

  located-moved : (ls : List Line) → located (map (moved_line move) ls) ≡ map mv (located ls)
  located-moved [] = refl
  located-moved (l ∷ ls) = grind (arith, entry_same, (located-moved ls))

  entries-moved : (xs : List LocatedMapping) → entries (map mv xs) ≡ entries xs
  entries-moved xs = map-map (λ (x : LocatedMapping). x.entry) mv xs

  pass-moved : (kept xs out : List LocatedMapping) → IsPass kept xs out → IsPass (map mv kept) (map mv xs) (map mv out)
  pass-moved _ _ _ (done kept) = done (map mv kept)
  pass-moved _ _ _ (goes kept x xs out redundant p) =
      search (rules, goes, entries-moved, (pass-moved kept xs out p))
  pass-moved _ _ _ (stays kept x xs out busy p) =
      search (rules, stays, entries-moved, map-append, (pass-moved (kept ++ x ∷ []) xs out p))

  effective-moved : (xs kept : List LocatedMapping) → AreEffective xs kept → AreEffective (map mv xs) (map mv kept)
  effective-moved _ _ (settled xs p) = settled (map mv xs) (pass-moved [] xs xs p)
  effective-moved _ _ (again xs some kept p s) =
      again (map mv xs) (map mv some) (map mv kept) (pass-moved [] xs some p) (effective-moved some kept s)

-- ---- the text splits into the kept lines again, whose entries are the effective ones

module _ (buffer text : Text) (pruned : IsPruned buffer text) where
  abbrev pub kept_lines : List Line
  kept_lines = filter (is_line_kept pruned.kept) (located_lines (buffer ∷ []))

  abbrev pub text_position : Position → Position
  text_position = position_among kept_lines

  kept_whole : AreWhole (texts kept_lines)
  kept_whole = some_whole (is_line_kept pruned.kept) (located_lines (buffer ∷ [])) (lines_whole buffer)

  pub text_lines : whole_lines text ≡ texts kept_lines
  text_lines = ap whole_lines pruned.whole ∙ lines_of_text kept_lines kept_whole

  pub kept_entries : located kept_lines ≡ pruned.kept
  kept_entries = grind (arith, located_kept, effective_sublist, lines_ascend)

  pub text_mappings : mappings_of text ≡ entries pruned.kept
  text_mappings = ap mappings_of pruned.whole ∙ mappings_of_text kept_lines kept_whole ∙ ap entries kept_entries

  pub text_moved : located_lines (text ∷ []) ≡ map (moved_line text_position) kept_lines
  text_moved = grind (arith, one_buffer, text_lines, lines_moved, are_numbered, later_filter, lines_ascend)

  pub own_moved : located (located_lines (text ∷ [])) ≡ map (moved_entry text_position) pruned.kept
  own_moved = grind (arith, text_moved, located-moved, kept_entries)

  -- no entry of the text is redundant
  pub text_effective : AreEffective (located (located_lines (text ∷ []))) (located (located_lines (text ∷ [])))
  text_effective = grind (arith, own_moved, effective-moved, effective_again)

-- the same normal lists, whether of all entries or of the effective ones
pub same_normal : (xs kept : List LocatedMapping) (g h n : List Mapping) → AreEffective xs kept → entries xs ≡ g
    → h ≡ entries kept → IsNormal g n ↔ IsNormal h n
same_normal xs kept g h n effective all left = grind (arith, effective_normal)

pub same_pruned_listing : (buffer text : Text) (n : List Mapping) → IsPruned buffer text → IsNormal (mappings_of buffer) n ↔ IsNormal (mappings_of text) n
same_pruned_listing buffer text n pruned = search (rules, same_normal, mappings_of-one, text_mappings)

-- ---- pruning again

all_stand : (xs : List LocatedMapping) → AllByRecursion (λ x. has_entry_at xs x.position ≡ true) xs
all_stand [] = tt
all_stand (x ∷ xs) = grind (arith, same_itself, all_weaker, or_right, (all_stand xs))

-- of lines whose entries are all effective, each is kept
pub all_kept : (ls : List Line) → AllByRecursion (λ l. is_line_kept (located ls) l ≡ true) ls
all_kept ls = all_weaker ls (λ (l : Line) is. grind arith)
    (all_located (λ x. has_entry_at (located ls) x.position ≡ true) ls (all_stand (located ls)))

pub nothing_to_prune : (buffer text : Text) → IsPruned buffer text → IsPruned text text
nothing_to_prune buffer text pruned =
    let ls = located_lines (text ∷ []) in
    record {
      kept = located ls;
      effective = text_effective buffer text pruned;
      whole = sym (joined-whole_lines text)
          ∙ ap joined (sym (ap texts (one_buffer text) ∙ texts-located 0 1 (whole_lines text)))
          ∙ flat_map-map (λ t. t) (λ (l : Line). l.text) ls
          ∙ ap (flat_map (λ (l : Line). l.text)) (sym (filter_all (is_line_kept (located ls)) ls (all_kept ls)));
    }

pub or_false : (b : Bool) → b || false ≡ b
or_false b = grind arith

not_not : (b : Bool) → not (not b) ≡ b
not_not b = grind arith

-- ---- the findings of one line

-- a finding that reports the line at this position as without effect
abbrev redundant_at : Position → Finding → Bool
redundant_at position f = has_no_effect f.kind && same_position f.position position

any_at : (position there : Position) (ts : List FindingKind) → list_any (redundant_at position) (reported_at there ts)
    ≡ (same_position there position && list_any has_no_effect ts)
any_at position there [] = grind arith
any_at position there (t ∷ ts) = grind (arith, (any_at position there ts))

given_any : (test : FindingKind → Bool) (os : List (Option FindingKind))
    → list_any test (given os) ≡ list_any (λ o. list_any test (option_to_list o)) os
given_any test [] = refl
given_any test (o ∷ os) = grind (arith, list_any-append, (given_any test os))

-- findings about the text of a line
none_of_flag : (b : Bool) (kind : FindingKind) → has_no_effect kind ≡ false
    → list_any has_no_effect (option_to_list (some_if b kind)) ≡ false
none_of_flag b kind other = grind arith

none_of_reading : (t : Text) (o : Option Reading) → list_any has_no_effect (option_to_list (reported_of_reading t o)) ≡ false
none_of_reading t o = grind arith

none_of_git : (o : Option GitReading) → list_any has_no_effect (option_to_list (option_map git_reads o)) ≡ false
none_of_git o = grind arith

contact_none : (c to : NewContact) (by : List Position)
    → list_any has_no_effect (option_to_list (reported_of_contact c to by)) ≡ false
contact_none c to by = grind arith

-- an effective entry has the key
abbrev HasEffective : List LocatedMapping → Mapping → Type 0
HasEffective kept e = is_some (last_position kept (key e)) ≡ true

abbrev pub IfEffective : List LocatedMapping → Option Mapping → Type 0
IfEffective kept o = IfSome o (HasEffective kept)

module _ (h : List Mapping) (kept : List LocatedMapping) where
  proper_none : (bare : Bool) (o : Option Mapping)
      → list_any has_no_effect (option_to_list (option_and_then (reported_of_proper h kept bare) o)) ≡ false
  proper_none bare None = refl
  proper_none bare (Some e) = contact_none (proper_contact e) (mapped_contact h bare (proper_contact e))
      (mapping_positions h kept (proper_contact e))

  entry_any : (is_kept bare : Bool) (taken : Option Mapping) (e : Mapping) → IfEffective kept (Some e)
      → list_any has_no_effect (option_to_list (reported_of_entry h kept is_kept bare taken e)) ≡ not is_kept
  entry_any true bare taken e beside = proper_none bare taken
  entry_any false bare taken e beside = grind arith

  effect_any : (is_kept bare : Bool) (taken o : Option Mapping) → IfEffective kept o
      → list_any has_no_effect (option_to_list (option_and_then (reported_of_entry h kept is_kept bare taken) o))
      ≡ not (is_none o || is_kept)
  effect_any is_kept bare taken None beside = refl
  effect_any is_kept bare taken (Some e) beside = entry_any is_kept bare taken e beside

  line_any : (l : Line) → IfEffective kept (entry l) → list_any has_no_effect (reported_of_line h kept l) ≡ not (is_line_kept kept l)
  line_any l beside =
      let m = unmarked l in
      let marked = none_of_flag (is_marked l) byte_order_mark refl in
      let text = none_of_reading m.text (strict_reading l.position.line m.text) in
      let comment = none_of_flag (has_comment (entry m)) comment_in_line refl in
      let git = none_of_git (read_otherwise m) in
      let effect = effect_any (has_entry_at kept l.position) (is_marked l) (entry m) (entry l) beside in
      given_any has_no_effect (reports h kept l)
      ∙ (λ i. marked i || (text i || (comment i || (git i || (effect i || false))))) ∙ or_false (not (is_line_kept kept l))

  -- the lines that are reported at this position
  pub any_found : (position : Position) (ls : List Line) → AllByRecursion (λ l. IfEffective kept (entry l)) ls
      → list_any (redundant_at position) (flat_map (findings h kept) ls)
      ≡ list_any (λ l. same_position l.position position && not (is_line_kept kept l)) ls
  any_found position [] stay = refl
  any_found position (l ∷ ls) stay =
      rw (
        list_any-append (redundant_at position) (findings h kept l) (flat_map (findings h kept) ls),
        any_at position l.position (reported_of_line h kept l),
        line_any l stay.0,
        any_found position ls stay.1,
      )

-- of lines that ascend, only the line itself is at its position
none_there : (test : Line → Bool) (position : Position) (ls : List Line)
    → AllByRecursion (λ l. position_cmp position l.position ≡ Less) ls
    → list_any (λ l. same_position l.position position && test l) ls ≡ false
none_there test position [] up = refl
none_there test position (l ∷ ls) up = grind (arith, after_differs, (none_there test position ls up.1))

own_test : (test : Line → Bool) (ls : List Line) → Ascend ls
    → AllByRecursion (λ l. list_any (λ m. same_position m.position l.position && test m) ls ≡ test l) ls
own_test test [] up = tt
own_test test (l ∷ ls) up = (
  (λ i. (same_itself l.position i && test l) || none_there test l.position ls up.0 i) ∙ or_false (test l),
  all_apply (λ (m : Line). position_cmp l.position m.position ≡ Less)
      (λ (m : Line). list_any (λ k. same_position k.position m.position && test k) ls ≡ test m) _
      (λ (m : Line) less is.
      ap (λ b. (b && test l) || list_any (λ k. same_position k.position m.position && test k) ls)
      (before_differs l.position m.position less) ∙ is) ls up.0 (own_test test ls up.1),
)

-- ---- the lines that are not reported

-- the key of each entry has an effective entry
pub each_stays : (kept : List LocatedMapping) (ls : List Line) → AreEffective (located ls) kept
    → AllByRecursion (λ l. IfEffective kept (entry l)) ls
each_stays kept ls effective = all_located (λ x. HasEffective kept x.entry) ls
    (all_apply (Contains (located ls)) (λ x. is_accepted x.entry ≡ true) _
    (λ x. last_stays (located ls) kept x effective) (located ls)
    (recursion_from_All (Contains (located ls)) (located ls) (All-contains_itself (located ls))) (located_accepted ls))

pub reported_lines : (buffers : List Text) (found : List Finding) (are : AreFindings buffers found)
    → AllByRecursion (λ l. not (is_reported_redundant found l) ≡ is_line_kept are.kept l) (located_lines buffers)
reported_lines buffers found are =
    let ls = located_lines buffers in
    subst (λ fs. AllByRecursion (λ (l : Line). not (is_reported_redundant fs l) ≡ is_line_kept are.kept l) ls)
    (sym are.whole) (all_weaker ls (λ (l : Line) own. ap not (any_found (entries (located ls)) are.kept l.position ls
    (each_stays are.kept ls are.effective) ∙ own) ∙ not_not (is_line_kept are.kept l))
    (own_test (λ m. not (is_line_kept are.kept m)) ls (lines_ascend 0 buffers)))

pub left_lines : (buffers : List Text) (found : List Finding) (are : AreFindings buffers found) → filter (λ l. not (is_reported_redundant found l)) (located_lines buffers) ≡ filter (is_line_kept are.kept) (located_lines buffers)
left_lines buffers found are = search (rules, filter_alike, reported_lines)

pub left_entries : (buffers : List Text) (found : List Finding) (are : AreFindings buffers found) → located (filter (λ l. not (is_reported_redundant found l)) (located_lines buffers)) ≡ are.kept
left_entries buffers found are = grind (arith, left_lines, located_kept, effective_sublist, lines_ascend)

pub same_listing : (buffers : List Text) (found : List Finding) (n : List Mapping) → AreFindings buffers found
    → IsNormal (flat_map mappings_of buffers) n ↔ IsNormal (entries (located (filter (λ l. not (is_reported_redundant found l)) (located_lines buffers)))) n
same_listing buffers found n are =
    same_normal (located (located_lines buffers)) are.kept (flat_map mappings_of buffers) _ n are.effective
    (mappings_of-located_lines 0 buffers) (ap entries (left_entries buffers found are))

-- pruning keeps exactly the lines that are not reported as without effect
pub pruned_reported : (buffer text : Text) (found : List Finding) → AreFindings (buffer ∷ []) found → IsPruned buffer text
    → text ≡ flat_map (λ l. l.text) (filter (λ l. not (is_reported_redundant found l)) (located_lines (buffer ∷ [])))
pruned_reported buffer text found are pruned = grind (arith, one_effective, left_lines)

-- ---- the list of findings is unique

pub some_findings : (buffers : List Text) → (found : List Finding) × AreFindings buffers found
some_findings buffers =
    let ls = located_lines buffers in
    let effective = some_effective (located ls) in
    (flat_map (findings (entries (located ls)) effective.0) ls, record { kept = effective.0; effective = effective.1; whole = refl })

pub one_findings : (buffers : List Text) (found other : List Finding) → AreFindings buffers found → AreFindings buffers other → found ≡ other
one_findings buffers found other a b = grind (arith, one_effective)

pub some_pruned : (buffer : Text) → (text : Text) × IsPruned buffer text
some_pruned buffer =
    let ls = located_lines (buffer ∷ []) in
    let effective = some_effective (located ls) in
    (flat_map (λ (l : Line). l.text) (filter (is_line_kept effective.0) ls), record { kept = effective.0; effective = effective.1; whole = refl })

pub one_pruned : (buffer text other : Text) → IsPruned buffer text → IsPruned buffer other → text ≡ other
one_pruned buffer text other a b = grind (arith, one_effective)

-- ---- the findings of a pruned text

-- ---- a line's findings under another number

contact_numbered : (move : Position → Position) (n : ℕ) (c to : NewContact) (ps : List Position)
    → reported_of_contact c to (map move ps) ≡ option_map (with_number move n) (reported_of_contact c to ps)
contact_numbered move n c to ps = grind (arith, first-map)

given_mapped : (f : FindingKind → FindingKind) (os : List (Option FindingKind))
    → given (map (option_map f) os) ≡ map f (given os)
given_mapped f [] = refl
given_mapped f (o ∷ os) = grind (arith, map-append, (given_mapped f os))

flag_numbered : (f : FindingKind → FindingKind) (b : Bool) (kind : FindingKind) → kind ≡ f kind
    → some_if b kind ≡ option_map f (some_if b kind)
flag_numbered f b kind same = grind arith

git_numbered : (move : Position → Position) (n : ℕ) (o : Option GitReading)
    → option_map git_reads o ≡ option_map (with_number move n) (option_map git_reads o)
git_numbered move n None = refl
git_numbered move n (Some reading) = refl

-- a line that is marked before and after it moves, or neither, is the same without the mark
same_after_mark : (a b : Bool) (o : Option Text)
    → is_some (if a then o else None) ≡ is_some (if b then o else None) → (if a then o else None) ≡ (if b then o else None)
same_after_mark a b None is = grind arith
same_after_mark true true (Some t) is = refl
same_after_mark false false (Some t) is = refl
same_after_mark true false (Some t) is = absurd (cc)
same_after_mark false true (Some t) is = absurd (cc)

unmarked_moved : (move : Position → Position) (l : Line) → is_marked (moved_line move l) ≡ is_marked l
    → unmarked (moved_line move l) ≡ moved_line move (unmarked l)
unmarked_moved move l is = ap (λ o. moved_line move (record { position = l.position; text = unwrap_or o l.text }))
    (same_after_mark ((move l.position).line == 1) (l.position.line == 1) (after_mark l.text) is)

line_numbered : (move : Position → Position) (n : ℕ) (l : Line) (g h : List Mapping) (there kept : List LocatedMapping)
    → is_marked (moved_line move l) ≡ is_marked l
    → reported_of_reading (unmarked l).text (strict_reading (move l.position).line (unmarked l).text)
    ≡ option_map (with_number move n) (reported_of_reading (unmarked l).text (strict_reading l.position.line (unmarked l).text))
    → option_and_then (reported_of_entry g there (has_entry_at there (move l.position)) (is_marked l) (entry (unmarked l))) (entry l)
    ≡ option_map (with_number move n)
    (option_and_then (reported_of_entry h kept (has_entry_at kept l.position) (is_marked l) (entry (unmarked l))) (entry l))
    → reported_of_line g there (moved_line move l) ≡ map (with_number move n) (reported_of_line h kept l)
line_numbered move n l g h there kept marked reads ends =
    let m = unmarked l in
    let w = with_number move n in
    let text : (unmarked (moved_line move l)).text ≡ m.text = ap (λ k. k.text) (unmarked_moved move l marked) in
    let same : entry (unmarked (moved_line move l)) ≡ entry m = entry_same (unmarked (moved_line move l)) m text in
    let own : entry (moved_line move l) ≡ entry l = entry_same (moved_line move l) l refl in
    let mark = ap (λ b. some_if b byte_order_mark) marked ∙ flag_numbered w (is_marked l) byte_order_mark refl in
    let of_text = ap (λ t. reported_of_reading t (strict_reading (move l.position).line t)) text ∙ reads in
    let comment = ap (λ o. some_if (has_comment o) comment_in_line) same
    ∙ flag_numbered w (has_comment (entry m)) comment_in_line refl in
    let git = (λ i. option_map git_reads (read_in_place (same i) (text i))) ∙ git_numbered move n (read_otherwise m) in
    let effect = (λ i. option_and_then (reported_of_entry g there (has_entry_at there (move l.position)) (marked i) (same i)) (own i)) ∙ ends in
    (λ i. given (mark i ∷ of_text i ∷ comment i ∷ git i ∷ effect i ∷ [])) ∙ given_mapped w (reports h kept l)

numbered_at : (all : List Line) (position : Position) (ts : List FindingKind)
    → reported_at (position_among all position) (map (with_number (position_among all) (number_among all position)) ts)
    ≡ map (renumbered all) (reported_at position ts)
numbered_at all position ts = grind (arith, map-map)

-- an entry is still there when all of them move
moved_there : (move : Position → Position) (kept : List LocatedMapping) (p : Position) → has_entry_at kept p ≡ true
    → has_entry_at (map (moved_entry move) kept) (move p) ≡ true
moved_there move [] p is = is
moved_there move (x ∷ kept) p is = grind (arith, or_left, same_is, same_itself, or_right, (moved_there move kept p))

-- two lists of entries that map each contact alike, by lines that moved to where they are among these
module _ (all : List Line) (g h : List Mapping) (kept : List LocatedMapping)
    (same : (bare : Bool) (c : NewContact) → mapped_contact g bare c ≡ mapped_contact h bare c)
    (moved : (c : NewContact) → mapping_positions g (map (moved_entry (position_among all)) kept) c
    ≡ map (position_among all) (mapping_positions h kept c)) where
  abbrev move : Position → Position
  move = position_among all

  abbrev there : List LocatedMapping
  there = map (moved_entry move) kept

  proper_numbered : (n : ℕ) (bare : Bool) (o : Option Mapping) → option_and_then (reported_of_proper g there bare) o
      ≡ option_map (with_number move n) (option_and_then (reported_of_proper h kept bare) o)
  proper_numbered n bare None = refl
  proper_numbered n bare (Some e) =
      let c = proper_contact e in
      rw (same bare c, moved c) (contact_numbered move n c (mapped_contact h bare c) (mapping_positions h kept c))

  entry_numbered : (n : ℕ) (o taken : Option Mapping) (a b bare : Bool) → (b ≡ true → a ≡ true) → (is_none o || b) ≡ true
      → option_and_then (reported_of_entry g there a bare taken) o
      ≡ option_map (with_number move n) (option_and_then (reported_of_entry h kept b bare taken) o)
  entry_numbered n None taken a b bare also is = refl
  entry_numbered n (Some e) taken a b bare also is = rw (also is, is) (proper_numbered n bare taken)

  found_moved : (l : Line) → is_line_kept kept l ≡ true → is_marked (moved_line move l) ≡ is_marked l
      → findings g there (moved_line move l) ≡ map (renumbered all) (findings h kept l)
  found_moved l is marked =
      let n = number_among all l.position in
      ap (reported_at (move l.position)) (line_numbered move n l g h there kept marked
      (reading_numbered n l.position.line move (unmarked l).text)
      (entry_numbered n (entry l) (entry (unmarked l)) (has_entry_at there (move l.position)) (has_entry_at kept l.position)
      (is_marked l) (moved_there move kept l.position) is))
      ∙ numbered_at all l.position (reported_of_line h kept l)

  all_moved : (ls : List Line) → AllByRecursion (λ l. is_line_kept kept l ≡ true) ls
      → AllByRecursion (λ l. is_marked (moved_line move l) ≡ is_marked l) ls
      → flat_map (findings g there) (map (moved_line move) ls) ≡ map (renumbered all) (flat_map (findings h kept) ls)
  all_moved [] a marks = refl
  all_moved (l ∷ ls) a marks = grind (arith, found_moved, map-append, (all_moved ls a.1 marks.1))

-- ---- the findings of the buffer's kept lines

line_left : (found : List Finding) (l : Line) (b : Bool) (ts : List FindingKind)
    → not (is_reported_redundant found l) ≡ b
    → filter (is_left found) (reported_at l.position ts) ≡ (if b then reported_at l.position ts else [])
line_left found l b [] is = grind arith
line_left found l b (t ∷ ts) is = grind (arith, (line_left found l b ts is))

left_found : (found : List Finding) (h : List Mapping) (kept : List LocatedMapping) (ls : List Line) → AllByRecursion (λ l. not (is_reported_redundant found l) ≡ is_line_kept kept l) ls
    → filter (is_left found) (flat_map (findings h kept) ls) ≡ flat_map (findings h kept) (filter (is_line_kept kept) ls)
left_found found h kept [] all = refl
left_found found h kept (l ∷ ls) all =
    let own = line_left found l (is_line_kept kept l) (reported_of_line h kept l) all.0 in
    grind (arith, filter-append, own, (left_found found h kept ls all.1))

-- ---- both are equal

module _ (buffer text : Text) (pruned : IsPruned buffer text) where
  abbrev own : List LocatedMapping
  own = located (located_lines (text ∷ []))

  abbrev whole_history : List Mapping
  whole_history = entries (located (located_lines (buffer ∷ [])))

  abbrev left_ones : List Line
  left_ones = kept_lines buffer text pruned

  own_answer : (name email : Text) → answer_of (entries own) name email ≡ answer_of whole_history name email
  own_answer name email = ap (λ es. answer_of es name email) (mappings_of-one text ∙ text_mappings buffer text pruned)
      ∙ effective_answer (located (located_lines (buffer ∷ []))) pruned.kept name email pruned.effective

  same_mapped : (bare : Bool) (c : NewContact) → mapped_contact (entries own) bare c ≡ mapped_contact whole_history bare c
  same_mapped bare c = ap (λ o. replaced_contact (unmarked_fields bare (unwrap_or o no_fields)) c)
      (own_answer (unwrap_or c.name []) c.email)

  same_moved : (c : NewContact)
      → mapping_positions (entries own) (map (moved_entry (position_among left_ones)) pruned.kept) c
      ≡ map (position_among left_ones) (mapping_positions whole_history pruned.kept c)
  same_moved c =
      let name = unwrap_or c.name [] in
      ap (λ o. origin_positions (origins (map (moved_entry (position_among left_ones)) pruned.kept) name c.email)
      (unwrap_or o no_fields)) (own_answer name c.email) ∙ moved_positions (position_among left_ones) left_ones
      (later_filter _ (is_line_kept pruned.kept) (located_lines (buffer ∷ [])) (lines_ascend 0 (buffer ∷ [])))
      (subst Ascend (text_moved buffer text pruned) (lines_ascend 0 (text ∷ [])))
      pruned.kept (subst (AllByRecursion (λ x. IsAmong left_ones x.position)) (kept_entries buffer text pruned) (all_among left_ones)) name c.email (fields_for whole_history name c.email)

  text_findings : (left : List Finding) → AreFindings (text ∷ []) left → MarksStay left_ones
      → left ≡ map (renumbered left_ones) (flat_map (findings whole_history pruned.kept) left_ones)
  text_findings left are marks =
      let there = map (moved_entry (position_among left_ones)) pruned.kept in
      one_findings (text ∷ []) left (flat_map (findings (entries own) there) (located_lines (text ∷ []))) are (record {
        kept = there;
        effective = subst (AreEffective own) (own_moved buffer text pruned) (text_effective buffer text pruned);
        whole = refl;
      }) ∙ ap (flat_map (findings (entries own) there)) (text_moved buffer text pruned)
      ∙ all_moved left_ones (entries own) whole_history pruned.kept same_mapped same_moved left_ones
      (recursion_from_All _ left_ones (filter_passes (is_line_kept pruned.kept) (located_lines (buffer ∷ [])))) marks

  buffer_findings : (found : List Finding) (are : AreFindings (buffer ∷ []) found) → filter (is_left found) found
      ≡ flat_map (findings whole_history are.kept) (filter (is_line_kept are.kept) (located_lines (buffer ∷ [])))
  buffer_findings found are =
      ap (filter (is_left found)) are.whole ∙ left_found found whole_history are.kept (located_lines (buffer ∷ []))
      (reported_lines (buffer ∷ []) found are)

pub others_stay : (buffer text : Text) (found left : List Finding) → AreFindings (buffer ∷ []) found → IsPruned buffer text
    → AreFindings (text ∷ []) left → MarksStay (lines_left buffer found)
    → left ≡ map (renumbered (lines_left buffer found)) (filter (is_left found) found)
others_stay buffer text found left are pruned left_are marks =
    let xs = located (located_lines (buffer ∷ [])) in
    let same = one_effective xs pruned.kept are.kept pruned.effective are.effective in
    let lines : lines_left buffer found ≡ kept_lines buffer text pruned = left_lines (buffer ∷ []) found are
    ∙ ap (λ kept. filter (is_line_kept kept) (located_lines (buffer ∷ []))) (sym same) in
    text_findings buffer text pruned left left_are (subst MarksStay lines marks)
    ∙ ap (λ kept. map (renumbered (filter (is_line_kept kept) (located_lines (buffer ∷ []))))
    (flat_map (findings (whole_history buffer text pruned) kept)
    (filter (is_line_kept kept) (located_lines (buffer ∷ []))))) same
    ∙ (λ i. map (renumbered (sym (left_lines (buffer ∷ []) found are) i))
    (sym (buffer_findings buffer text pruned found are) i))

-- ---- no line is without effect

none_dropped : (kept : List LocatedMapping) (position : Position) (ls : List Line)
    → AllByRecursion (λ l. is_line_kept kept l ≡ true) ls
    → list_any (λ l. same_position l.position position && not (is_line_kept kept l)) ls ≡ false
none_dropped kept position [] all = refl
none_dropped kept position (l ∷ ls) all = grind (arith, (none_dropped kept position ls all.1))

pub none_redundant : (buffer text : Text) (left : List Finding) (l : Line) → IsPruned buffer text → AreFindings (text ∷ []) left → is_reported_redundant left l ≡ false
none_redundant buffer text left l pruned are =
    let ls = located_lines (text ∷ []) in
    let reduced = text_effective buffer text pruned in
    ap (λ fs. is_reported_redundant fs l) (one_findings (text ∷ []) left
    (flat_map (findings (entries (located ls)) (located ls)) ls) are
    (record { kept = located ls; effective = reduced; whole = refl }))
    ∙ any_found (entries (located ls)) (located ls) l.position ls (each_stays (located ls) ls reduced)
    ∙ none_dropped (located ls) l.position ls (all_kept ls)

-- ---- no line with an entry can be deleted

pub none_can_go : (buffer text : Text) (a c : List Line) (l : Line) (e : Mapping) (n m : List Mapping) → IsPruned buffer text → located_lines (text ∷ []) ≡ a ++ l ∷ c → entry l ≡ Some e
    → IsNormal (mappings_of text) n → IsNormal (entries (located (a ++ c))) m → n ≢ m
none_can_go buffer text a c l e n m pruned whole given with_l without =
    let xs = located (located_lines (text ∷ [])) in
    let x : LocatedMapping = record { position = l.position; entry = e } in
    let parts : xs ≡ located a ++ x ∷ located c = ap located whole ∙ filter_map-append located_entry a (l ∷ c)
    ∙ ap (λ o. located a ++ cons_option (option_map (λ (y : Mapping). record { position = l.position; entry = y }) o) (located c)) given in
    listing_differs xs (located a) (located c) x n m (subst (AreEffective xs) parts (text_effective buffer text pruned))
    (subst (λ h. IsNormal h n) (sym (mappings_of-one text)) with_l)
    (subst (λ ys. IsNormal (entries ys) m) (filter_map-append located_entry a c) without)

-- ---- what git reads from a pruned text

-- git reads exactly the entry of this library
abbrev IsAlike : Line → Type 0
IsAlike l = git_entries l.text ≡ option_to_list (entry l)

abbrev AreAlike : List Line → Type 0
AreAlike ls = AllByRecursion IsAlike ls

abbrev first_otherwise : List Line → Option Position
first_otherwise ls = option_map (λ l. l.position) (first (filter (λ l. is_some (read_otherwise l)) ls))

-- no line is read in another way exactly if all lines are read alike
read_alike : (ls : List Line) → first_otherwise ls ≡ None → AreAlike ls
read_alike [] = λ none. tt
read_alike (l ∷ ls) = search (rules, entries_decide, read_alike ls)

none_otherwise : (ls : List Line) → AreAlike ls → first_otherwise ls ≡ None
none_otherwise [] = λ all. refl
none_otherwise (l ∷ ls) = search (rules, entries_decide, none_otherwise ls)

with_entry : (l : Line) (ls : List Line) → option_to_list (entry l) ++ entries (located ls) ≡ entries (located (l ∷ ls))
with_entry l ls = search rules

alike_entries : (ls : List Line) → AreAlike ls → flat_map git_entries (texts ls) ≡ entries (located ls)
alike_entries [] all = refl
alike_entries (l ∷ ls) all = (λ i. all.0 i ++ alike_entries ls all.1 i) ∙ with_entry l ls

git_lines : (buffer : ℕ) (ss : List Text) → flat_map git_entries (texts (lines_from buffer ss)) ≡ flat_map git_mappings ss
unfolding lines_from
git_lines buffer [] = refl
git_lines buffer (s ∷ ss) = search (rules, git_lines (buffer + 1) ss, map-append, texts-located, flat_map-append)

pub same_histories : (buffers : List Text) → first_read_otherwise buffers ≡ None
    → flat_map git_mappings buffers ≡ flat_map mappings_of buffers
same_histories buffers none = sym (git_lines 0 buffers)
    ∙ alike_entries (located_lines buffers) (read_alike (located_lines buffers) none)
    ∙ mappings_of-located_lines 0 buffers

same_history : (s : Text) → first_read_otherwise (s ∷ []) ≡ None → git_mappings s ≡ mappings_of s
same_history s none = sym (append-nil (git_mappings s)) ∙ same_histories (s ∷ []) none ∙ append-nil (mappings_of s)

moved_alike : (move : Position → Position) (ls : List Line) → AreAlike ls → AreAlike (map (moved_line move) ls)
moved_alike move ls all = grind (arith, all_mapped, all_weaker, entry_same)

-- ---- a pruned text

module _ (buffer text : Text) (pruned : IsPruned buffer text) (none : first_read_otherwise (buffer ∷ []) ≡ None) where
  pub none_left : first_read_otherwise (text ∷ []) ≡ None
  none_left = none_otherwise (located_lines (text ∷ [])) (subst AreAlike (sym (text_moved buffer text pruned))
      (moved_alike (text_position buffer text pruned) (kept_lines buffer text pruned)
      (all_filter IsAlike (is_line_kept pruned.kept) (located_lines (buffer ∷ []))
      (read_alike (located_lines (buffer ∷ [])) none))))

  pub same_answer : (name email : Text) → git_answer text name email ≡ git_answer buffer name email
  same_answer name email =
      let n = normal (mappings_of buffer) in
      let d : IsNormal (mappings_of buffer) n = is_normal (mappings_of buffer) in
      let of_buffer = alike_normal (mappings_of buffer) n d in
      let of_text = alike_normal (mappings_of text) n ((same_pruned_listing buffer text n pruned).0 d) in
      ap (λ h. git_answer_from h name email) (same_history text none_left)
      ∙ same_git_answer (mappings_of text) n name email of_text
      ∙ sym (same_git_answer (mappings_of buffer) n name email of_buffer)
      ∙ ap (λ h. git_answer_from h name email) (sym (same_history buffer none))
