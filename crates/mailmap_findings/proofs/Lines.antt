-- The lines of buffers and their entries, and iterations over them that stay in step with the effective entries.
use Rattle.std.proofs.Common.{◌≡◌, None, Some, List, [], ◌∷◌, ◌++◌, Bool, true, false, if◌then◌else◌, filter, map, IfSome, refl, ap, ◌∙◌, ◌+◌, ◌<◌, ◌≤◌, ℕ, length, drop, get_or, Bor, Less, inr, ⊎_elim, sym, subst, arith, rules, Result, Ok, Err, ◌-◌}
use Rattle.std.specs.List.{AllByRecursion, HoldsAt, cons_option, flat_map, list_any}
use Rattle.std.specs.Option.{option_map}
use Rattle.mailmap_entries.specs.Entries.{Mapping}
use Rattle.mailmap_entries.proofs.Parts.{filter_alike, all_append, all_mapped, all_weaker, list_any-map}
use Rattle.mailmap_redundancy.specs.Redundancy.{LocatedMapping, AreEffective, position_cmp, IsSublist, located_of_reference, none, skips, keeps}
use Rattle.mailmap_redundancy.specs.declared.located.Position.{Position}
use Rattle.mailmap_findings.specs.Positions.{AllLater, Line, entry, located, located_lines, whole_lines, located_from, buffer_lines, lines_from, same_position, has_entry_at}
use Rattle.std.specs.List.Sorted.{IsBinarySearchResult, IsNonDecreasingBy, IsSearchInRange, IsStrictlySortedBy}
use Rattle.std.specs.Ordering.{ordering_index}
use Rattle.std.specs.Result.{is_ok}
use Rattle.std.proofs.lemmas.List.Folds.{list_any_at, list_any_none}
use Rattle.std.proofs.lemmas.List.Sorted.{searchable_from_sorted}
use Rattle.std.proofs.lemmas.Map.Keys.{Less-from_sorted}
use Rattle.std.proofs.lemmas.Simd.{map-map}
use Rattle.mailmap_redundancy.proofs.Positions.{positions_exact, positions_total}
use Rattle.std.proofs.Math.Seq.{drop-cons}
use Rattle.std.proofs.lemmas.List.{drop_all, get_or-map, length-map, map-append}
use Rattle.mailmap_entries.specs.Folding.{Text}
use Rattle.mailmap_redundancy.proofs.Giving.{all_filter}
use Rattle.mailmap_redundancy.proofs.Kept.{effective_sublist}
use Rattle.mailmap_redundancy.proofs.Sublists.{sublist_all, sublist_sorted}
use Rattle.mailmap_findings.specs.Findings.{AreFindings, AreInOrder, Finding, FindingKind, IsUpTo, reported_at}
use Rattle.std.proofs.lemmas.Bool.{cases_lt}
use Rattle.mailmap_redundancy.specs.declared.located.LocatedEntry.{LocatedEntry}

pub ruleset mapped = (map-map, map-append)

-- ---- each element and all later ones

module _ {X : Type 0} (R : X → X → Type 0) where
  pub later_filter : (test : X → Bool) (xs : List X) → AllLater R xs → AllLater R (filter test xs)
  later_filter test [] a = tt
  later_filter test (x ∷ xs) a = grind (arith, all_filter, (later_filter test xs a.1))

  pub later_map : {Y : Type 0} (f : Y → X) (ys : List Y) → AllLater (λ y z. R (f y) (f z)) ys → AllLater R (map f ys)
  later_map f [] a = tt
  later_map f (y ∷ ys) a = (all_mapped f (R (f y)) ys a.0, later_map f ys a.1)

  pub later_append : (xs ys : List X) → AllLater R xs → AllLater R ys
      → AllByRecursion (λ x. AllByRecursion (R x) ys) xs → AllLater R (xs ++ ys)
  later_append [] ys a b c = b
  later_append (x ∷ xs) ys a b c = (all_append (R x) xs ys a.0 c.0, later_append xs ys a.1 b c.1)

-- ---- the entries of lines

pub all_located : (P : LocatedMapping → Type 0) (ls : List Line) → AllByRecursion P (located ls)
    → AllByRecursion (λ l. IfSome (entry l) (λ e. P (record { position = l.position; entry = e }))) ls
all_located P [] = λ all. tt
all_located P (l ∷ ls) = grind (arith, (all_located P ls))

-- what holds of the positions of lines holds of those of their entries
pub at_entries : (P : Position → Type 0) (ls : List Line) → AllByRecursion (λ l. P l.position) ls
    → AllByRecursion (λ x. P x.position) (located ls)
at_entries P [] all = tt
at_entries P (l ∷ ls) all = grind (arith, (at_entries P ls all.1))

pub later_located : (R : Position → Position → Type 0) (ls : List Line) → AllLater (λ l m. R l.position m.position) ls
    → AllLater (λ x y. R x.position y.position) (located ls)
later_located R [] a = tt
later_located R (l ∷ ls) a =
    let here = at_entries (R l.position) ls a.0 in
    let rest = later_located R ls a.1 in
    grind (arith, here, rest)

-- ---- some of the entries

-- the entries of the lines that pass one test are those that pass another, if both tests agree where there is an entry
pub located_filter : (p : Line → Bool) (q : LocatedMapping → Bool)
    → ((l : Line) (e : Mapping) → entry l ≡ Some e → p l ≡ q (record { position = l.position; entry = e }))
    → (ls : List Line) → located (filter p ls) ≡ filter q (located ls)
located_filter p q agree [] = refl
located_filter p q agree (l ∷ ls) = grind (arith, agree, (located_filter p q agree ls))

-- ---- the lines of buffers

abbrev pub position_at : ℕ → ℕ → Position
position_at buffer line = record { buffer = buffer; line = line }

abbrev pub line_at : ℕ → ℕ → Text → Line
line_at buffer line t = record { position = position_at buffer line; text = t }

-- the remaining lines: those of the current buffer from a line on, and those of the buffers not reached yet
abbrev pub lines_left : ℕ → ℕ → List Text → ℕ → List (Bor Text) → List Line
lines_left buffer line ts reached bufs = located_from buffer (line + 1) ts ++ lines_from reached (map (λ b. b.now) (drop reached bufs))

-- the current buffer is exhausted, so the next one begins
pub left_next : (buffer line reached : ℕ) (bufs : List (Bor Text)) (ts : List Text) (d : Bor Text) → ts ≡ []
    → reached < length bufs → lines_left buffer line ts reached bufs
    ≡ lines_left reached 0 (whole_lines (get_or bufs reached d).now) (reached + 1) bufs
unfolding located_from lines_from
left_next buffer line reached bufs ts d is within = grind (arith, drop-cons)

pub ruleset left = (drop-cons, drop_all)

-- ---- positions ascend

abbrev pub Ascend : List Line → Type 0
Ascend = AllLater (λ l m. position_cmp l.position m.position ≡ Less)

-- a property that holds at each position of this buffer from a line on
all_from : (P : Line → Type 0) (buffer line : ℕ) (ts : List Text) → ((n : ℕ) (t : Text) → line ≤ n → P (line_at buffer n t))
    → AllByRecursion P (located_from buffer line ts)
unfolding located_from
all_from P buffer line [] h = tt
all_from P buffer line (t ∷ ts) h = (h line t (omega arith), all_from P buffer (line + 1) ts (λ n u le. h n u (omega arith)))

ascend_from : (buffer line : ℕ) (ts : List Text) → Ascend (located_from buffer line ts)
unfolding located_from
ascend_from buffer line [] = tt
ascend_from buffer line (t ∷ ts) = (
  all_from (λ m. position_cmp (position_at buffer line) m.position ≡ Less) buffer (line + 1) ts
      (λ n u le. grind arith),
  ascend_from buffer (line + 1) ts,
)

-- the lines of buffers are in these buffers or later ones
later_buffers : (P : Line → Type 0) (buffer : ℕ) (ss : List Text)
    → ((m n : ℕ) (t : Text) → buffer ≤ m → P (line_at m n t)) → AllByRecursion P (lines_from buffer ss)
unfolding lines_from
later_buffers P buffer [] h = tt
later_buffers P buffer (s ∷ ss) h =
    search (rules, all_append, all_from, (later_buffers P (buffer + 1) ss (λ m n t le. h m n t (omega arith))))

pub lines_ascend : (buffer : ℕ) (ss : List Text) → Ascend (lines_from buffer ss)
unfolding lines_from
lines_ascend buffer [] = tt
lines_ascend buffer (s ∷ ss) =
    let rest = lines_from (buffer + 1) ss in
    later_append (λ l m. position_cmp l.position m.position ≡ Less) (buffer_lines buffer s) rest (ascend_from buffer 1 (whole_lines s)) (lines_ascend (buffer + 1) ss)
    (all_from (λ l. AllByRecursion (λ m. position_cmp l.position m.position ≡ Less) rest) buffer 1 (whole_lines s)
    (λ n t _. later_buffers (λ m. position_cmp (position_at buffer n) m.position ≡ Less) (buffer + 1) ss
    (λ b k u later. grind arith)))

sorted : (xs : List LocatedMapping) → AllLater (λ x y. position_cmp x.position y.position ≡ Less) xs
    → IsStrictlySortedBy position_cmp (map (λ x. x.position) xs)
unfolding IsStrictlySortedBy
sorted [] a = tt
sorted (x ∷ xs) a = grind (arith, all_mapped, (sorted xs a.1))

entries_ascend : (ls : List Line) → Ascend ls → IsStrictlySortedBy position_cmp (map (λ (x : LocatedMapping). x.position) (located ls))
entries_ascend ls a = sorted (located ls) (later_located (λ p q. position_cmp p q ≡ Less) ls a)

-- the positions of effective entries ascend
pub kept_ascend : (buffers : List Text) (kept : List LocatedMapping) → AreEffective (located (located_lines buffers)) kept → IsStrictlySortedBy position_cmp (map (λ x. x.position) kept)
kept_ascend buffers kept effective = grind (arith, sublist_sorted, effective_sublist, entries_ascend, lines_ascend)

-- ---- findings

-- what holds of the position holds of those of the findings
pub all_reported : (P : Position → Type 0) (position : Position) (ts : List FindingKind) → P position
    → AllByRecursion (λ f. P f.position) (reported_at position ts)
all_reported P position [] h = tt
all_reported P position (t ∷ ts) h = (h, all_reported P position ts h)

up_to : (a b : Position) → position_cmp a b ≡ Less → IsUpTo a b
up_to a b less = grind arith

-- the findings of lines, each at its line's position
module _ (tell : Line → List FindingKind) where
  abbrev pub told : List Line → List Finding
  told ls = flat_map (λ l. reported_at l.position (tell l)) ls

  pub all_told : (P : Position → Type 0) (ls : List Line) → AllByRecursion (λ l. P l.position) ls
      → AllByRecursion (λ f. P f.position) (told ls)
  all_told P [] a = tt
  all_told P (l ∷ ls) a = all_append (λ (f : Finding). P f.position) (reported_at l.position (tell l)) (told ls)
      (all_reported P l.position (tell l) a.0) (all_told P ls a.1)

  one_line : (position : Position) (ts : List FindingKind) → AreInOrder (reported_at position ts)
  one_line position [] = tt
  one_line position (t ∷ ts) = (
    all_reported (IsUpTo position) position ts (inr (refl, omega arith)),
    one_line position ts,
  )

  told_in_order : (ls : List Line) → Ascend ls → AreInOrder (told ls)
  told_in_order [] a = tt
  told_in_order (l ∷ ls) a =
      later_append (λ f g. IsUpTo f.position g.position) (reported_at l.position (tell l)) (told ls)
      (one_line l.position (tell l)) (told_in_order ls a.1)
      (all_reported (λ p. AllByRecursion (λ g. IsUpTo p g.position) (told ls)) l.position (tell l)
      (all_told (IsUpTo l.position) ls (all_weaker ls (λ (m : Line). up_to l.position m.position) a.0)))

pub findings_in_order : (buffers : List Text) (found : List Finding) → AreFindings buffers found → AreInOrder found
findings_in_order buffers found are = subst AreInOrder (sym are.whole) (told_in_order _ (located_lines buffers) (lines_ascend 0 buffers))

-- ---- iterations

pub same_itself : (a : Position) → same_position a a ≡ true
same_itself a = grind arith

pub same_is : (a b : Position) → same_position a b ≡ true → a ≡ b
same_is a b same = grind arith

pub before_differs : (a b : Position) → position_cmp a b ≡ Less → same_position a b ≡ false
before_differs a b less = grind arith

pub after_differs : (a b : Position) → position_cmp a b ≡ Less → same_position b a ≡ false
after_differs a b less = grind arith

-- ---- some elements of a list with ascending positions: those at the same positions as these

module _ {X : Type 0} (at : X → Position) where
  -- none of the later elements is at this position
  pub none_at : (p : Position) (ks : List X) → AllByRecursion (λ k. position_cmp p (at k) ≡ Less) ks
      → list_any (λ k. same_position (at k) p) ks ≡ false
  none_at p [] a = refl
  none_at p (k ∷ ks) a = grind (arith, (none_at p ks a.1))

  abbrev is_among : List X → X → Bool
  is_among ks x = list_any (λ k. same_position (at k) (at x)) ks

  pub sublist_filter : (ks xs : List X) → IsSublist ks xs → AllLater (λ x y. position_cmp (at x) (at y) ≡ Less) xs
      → filter (is_among ks) xs ≡ ks
  sublist_filter _ _ none a = refl
  sublist_filter _ _ (skips x ks xs s) a = ap (λ b. if b then x ∷ filter (is_among ks) xs else filter (is_among ks) xs)
      (none_at (at x) ks (sublist_all (λ y. position_cmp (at x) (at y) ≡ Less) ks xs s a.0)) ∙ sublist_filter ks xs s a.1
  sublist_filter _ _ (keeps x ks xs s) a =
      grind (arith, filter_alike, all_weaker, (sublist_filter ks xs s a.1))

-- the positions of entries are among those of their lines
pub located_positions : (ls : List Line)
    → IsSublist (map (λ x. x.position) (located ls)) (map (λ l. l.position) ls)
located_positions [] = none
located_positions (l ∷ ls) = elim (entry l) as (λ o. IsSublist (map (λ x. x.position)
    (cons_option (option_map (λ e. record { position = l.position; entry = e }) o) (located ls)))
    (l.position ∷ map (λ m. m.position) ls)) [
      | None ↦ skips l.position _ _ (located_positions ls)
      | Some e ↦ keeps l.position _ _ (located_positions ls)
    ]

-- ---- a binary search for an entry at a position

some_at : {X : Type 0} (test : X → Bool) (xs : List X) (i : ℕ) → i < length xs → HoldsAt (λ x. test x ≡ true) xs i
    → list_any test xs ≡ true
some_at test [] i within h = absurd (omega arith)
some_at test (x ∷ xs) i within h = list_any_at test (x ∷ xs) i x within (h x)

module _ (es : List (Bor LocatedEntry)) (p : Position)
    (up : IsStrictlySortedBy position_cmp (map (λ x. x.position) (map located_of_reference es))) where
  abbrev at : Bor LocatedEntry → Position
  at e = e.now.position

  below : (i j : ℕ) (d : Bor LocatedEntry) → i < j → j < length es
      → position_cmp (at (get_or es i d)) (at (get_or es j d)) ≡ Less
  below i j d less within =
      let sorted : IsStrictlySortedBy position_cmp (map at es) =
      subst (IsStrictlySortedBy position_cmp) (map-map (λ (x : LocatedMapping). x.position) located_of_reference es) up in
      let is = Less-from_sorted position_cmp (map at es) i j (at d) sorted less (omega (arith, within, length-map es at)) in
      rw (get_or-map at es i d (at d) (omega arith), get_or-map at es j d (at d) within) at is

  rising : IsNonDecreasingBy (λ e. ordering_index (position_cmp (at e) p)) es
  rising = searchable_from_sorted positions_total at es p (λ k d _ lt. grind (arith, below, positions_total))

  pub found_at : (r : Result ℕ ℕ) → IsSearchInRange r (length es)
      → IsBinarySearchResult (λ e. position_cmp (at e) p) es r
      → is_ok r ≡ has_entry_at (map located_of_reference es) p
  found_at (Ok i) within found =
      sym (list_any-map _ located_of_reference es ∙ some_at (λ d. same_position (at d) p) es i within
      (λ d. subst (λ q. same_position (at (get_or es i d)) q ≡ true)
      (positions_exact (at (get_or es i d)) p (found d)) (same_itself (at (get_or es i d)))))
  found_at (Err i) within found =
      let point = found rising in
      sym (list_any-map _ located_of_reference es ∙ list_any_none (λ d. same_position (at d) p) es (λ k d inside.
      ⊎_elim (λ low. before_differs (at (get_or es k d)) p (point.0 k d (omega arith) low))
      (λ from. let more = point.1 k d from inside in grind arith) (cases_lt k i)))
