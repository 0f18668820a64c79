-- Lines with their line feeds and the pieces between line feeds are parsed alike; and two readings of a line: strictly
-- and leniently, and under two line numbers.
use Rattle.std.proofs.Common.{◌≡◌, ◌⊎◌, ◌+◌, ◌==◌, ℕ, cond, Option, Some, None, option_to_list, Ok, List, [], ◌∷◌, ◌++◌, append-nil, refl, ap, arith, true, map, IfSome, subst, sym}
use Rattle.std.specs.List.{flat_map, All, AllByRecursion, AllZip}
use Rattle.std.specs.Option.{option_and_then, option_map}
use Rattle.std.specs.Result.{result_ok}
use Rattle.std.specs.Char.{encode_utf8}
use Rattle.std.proofs.lemmas.Bool.{eqb-true}
use Rattle.std.proofs.lemmas.List.{map-append}
use Rattle.std.proofs.lemmas.List.Elements.{filter_map-append, All-from_recursion}
use Rattle.mailmap_entries.specs.Folding.{Text}
use Rattle.mailmap_redundancy.specs.declared.located.Position.{Position}
use Rattle.mailmap_findings.specs.Findings.{reported_of_reading}
use Rattle.mailmap_grammar.specs.Lines.{Reading, reading_by, unless_blank, reading, strict_reading, readings_from, pieces, mappings_of, mappings_in}
use Rattle.mailmap_grammar.proofs.Trimmed.{trim-white_end}
use Rattle.mailmap_redundancy.specs.Redundancy.{entries, located_of}
use Rattle.mailmap_findings.specs.Positions.{Line, entry, located, located_from, whole_lines, lines_from, located_lines}
use Rattle.mailmap_entries.specs.Entries.{Mapping, mapping_of}
use Rattle.mailmap_entries.specs.Semantics.{is_accepted}
use Rattle.mailmap_entries.proofs.Parts.{all_map}
use Rattle.mailmap_redundancy.specs.declared.located.LocatedEntry.{LocatedEntry}
use Rattle.mailmap_findings.specs.Pruning.{with_number}
use Rattle.mailmap_findings.proofs.Concatenated.{texts}

-- a line feed at the end changes nothing
reading_by-feed : (says : ℕ → Text → Reading) (n : ℕ) (z : Text) → reading_by says n (z ++ 10 ∷ []) ≡ reading_by says n z
unfolding encode_utf8
reading_by-feed says n [] = ap (unless_blank says n) (trim-white_end 10 [] refl)
reading_by-feed says n (b ∷ z) = ap (λ t. cond (b == 35) None (unless_blank says n t)) (trim-white_end 10 (b ∷ z) refl)

-- w is p, with or without a line feed at its end
abbrev IsPieceOf : Text → Text → Type 0
IsPieceOf w p = (w ≡ p) ⊎ (w ≡ p ++ 10 ∷ [])

abbrev ArePiecesOf : List Text → List Text → Type 0
ArePiecesOf = AllZip IsPieceOf

are_pieces : (s : Text) → ArePiecesOf (whole_lines s) (pieces s)
unfolding whole_lines pieces
are_pieces [] = tt
are_pieces (b ∷ s) = grind (arith, eqb-true, (are_pieces s))

same_reading : (says : ℕ → Text → Reading) (n : ℕ) (w p : Text) → IsPieceOf w p → reading_by says n w ≡ reading_by says n p
same_reading says n w p is = grind (arith, reading_by-feed)

-- ---- all readings

abbrev pub line_readings : (ℕ → Text → Option Reading) → List Line → List Reading
line_readings read ls = flat_map (λ l. option_to_list (read l.position.line l.text)) ls

readings-located : (says : ℕ → Text → Reading) (buffer n : ℕ) (ws ps : List Text) → ArePiecesOf ws ps → line_readings (reading_by says) (located_from buffer n ws) ≡ readings_from (reading_by says) n ps
unfolding located_from readings_from
readings-located says buffer n [] [] are = refl
readings-located says buffer n [] (p ∷ ps) are = absurd are
readings-located says buffer n (w ∷ ws) [] are = absurd are
readings-located says buffer n (w ∷ ws) (p ∷ ps) are =
    grind (arith, same_reading, (readings-located says buffer (n + 1) ws ps are.1))

pub readings-buffer : (says : ℕ → Text → Reading) (s : Text) → line_readings (reading_by says) (located_lines (s ∷ [])) ≡ readings_from (reading_by says) 1 (pieces s)
unfolding lines_from
readings-buffer says s = grind (arith, append-nil, readings-located, are_pieces)

-- ---- the entries

good_first : (o : Option Reading) (l : Line) (ls : List Line) (rs : List Reading) → entry l ≡ option_and_then result_ok o
    → entries (located ls) ≡ mappings_in rs → entries (located (l ∷ ls)) ≡ mappings_in (option_to_list o ++ rs)
unfolding mappings_in
good_first o l ls rs is e = grind arith

mappings_of-located : (buffer n : ℕ) (ws ps : List Text) → ArePiecesOf ws ps → entries (located (located_from buffer n ws)) ≡ mappings_in (readings_from reading n ps)
unfolding located_from readings_from mappings_in entry
mappings_of-located buffer n [] [] are = refl
mappings_of-located buffer n [] (p ∷ ps) are = absurd are
mappings_of-located buffer n (w ∷ ws) [] are = absurd are
mappings_of-located buffer n (w ∷ ws) (p ∷ ps) are =
    grind (arith, good_first, same_reading, (mappings_of-located buffer (n + 1) ws ps are.1))

pub entries-append : (xs ys : List Line) → entries (located (xs ++ ys)) ≡ entries (located xs) ++ entries (located ys)
entries-append xs ys = grind (arith, filter_map-append, map-append)

pub mappings_of-located_lines : (buffer : ℕ) (ss : List Text) → entries (located (lines_from buffer ss)) ≡ flat_map mappings_of ss
unfolding lines_from
mappings_of-located_lines buffer [] = refl
mappings_of-located_lines buffer (s ∷ ss) =
    grind (arith, entries-append, mappings_of-located, are_pieces, (mappings_of-located_lines (buffer + 1) ss))

-- ---- two readings of a line

-- a line with an entry in strict parsing has the same entry in lenient parsing
pub entry_strictly : (n : ℕ) (line : Text) (e : Mapping) → strict_reading n line ≡ Some (Ok e) → reading n line ≡ Some (Ok e)
entry_strictly n line e is = grind arith

-- a comment or a blank line has no entry in either
pub no_entry : (n : ℕ) (line : Text) → strict_reading n line ≡ None → reading n line ≡ None
no_entry n line is = grind arith

-- the finding about a line's text has the line's number
pub reading_numbered : (n m : ℕ) (move : Position → Position) (line : Text) → reported_of_reading line (strict_reading n line)
    ≡ option_map (with_number move n) (reported_of_reading line (strict_reading m line))
reading_numbered n m move line = grind arith

-- the entry of a line doesn't depend on its position
pub entry_same : (l m : Line) → l.text ≡ m.text → entry l ≡ entry m
unfolding entry
entry_same l m e = grind arith

pub entries-renumbered : (buffer line : ℕ) (ls : List Line)
    → entries (located (located_from buffer line (texts ls))) ≡ entries (located ls)
unfolding located_from
entries-renumbered buffer line [] = refl
entries-renumbered buffer line (l ∷ ls) = grind (arith, entry_same, (entries-renumbered buffer (line + 1) ls))

pub texts-located : (buffer line : ℕ) (ts : List Text) → texts (located_from buffer line ts) ≡ ts
unfolding located_from
texts-located buffer line [] = refl
texts-located buffer line (t ∷ ts) = ap (λ us. t ∷ us) (texts-located buffer (line + 1) ts)

-- ---- entries are accepted, since they have a new name or a new email

entry_accepted : (l : Line) → IfSome (entry l) (λ e. is_accepted e ≡ true)
unfolding entry
entry_accepted l = grind arith

pub located_accepted : (ls : List Line) → AllByRecursion (λ x. is_accepted x.entry ≡ true) (located ls)
located_accepted [] = tt
located_accepted (l ∷ ls) = grind (arith, (entry_accepted l), (located_accepted ls))

-- all entries of lines are accepted, as without_redundant requires
pub items_accepted : (ls : List Line) (xs : List LocatedEntry) → map located_of xs ≡ located ls → All (λ x. is_accepted (mapping_of x.entry) ≡ true) xs
items_accepted ls xs e = All-from_recursion _ xs (all_map located_of (λ x. is_accepted x.entry ≡ true) xs
    (subst (AllByRecursion (λ x. is_accepted x.entry ≡ true)) (sym e) (located_accepted ls)))
