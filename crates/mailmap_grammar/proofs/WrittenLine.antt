-- Parsing the line of an entry gives the entry, and parsing the text of a snapshot gives its entries.
use Rattle.std.proofs.Common.{inl, ◌≡◌, ◌≢◌, ℕ, length, true, [], ◌∷◌, ◌++◌, Option, Some, None, IfSome, unwrap_or, Ok, rules, append_assoc, append-nil, arith, length-append, refl, ap, ◌∙◌, ◌+◌, List, map, All}
use Rattle.std.proofs.lemmas.Option.{IfSome_then}
use Rattle.mailmap_grammar.specs.CanonicalText.{IsWritableName, IsWritable, name_part, bracketed_email, email_part, canonical_line, canonical_text}
use Rattle.mailmap_entries.specs.Entries.{Mapping}
use Rattle.mailmap_entries.specs.Folding.{Text}
use Rattle.mailmap_entries.specs.Semantics.{is_accepted, IsNormal}
use Rattle.mailmap_grammar.specs.Lines.{HoldsNo, Reading, ParsedContact, Absent, Unclosed, Closed, cut, trimmed_contact, non_empty, two_contacts, strict_contacts, first_contact, unless_blank, reading_by, reading, strict_reading, readings_from, pieces, readings, strict_readings, mappings_of, mappings_in}
use Rattle.mailmap_grammar.specs.Trimming.{trim, BeginsWhite, EndsWhite}
use Rattle.mailmap_grammar.proofs.Grammar.{alone-none, both-closed, some_said, strict-other, with_email}
use Rattle.mailmap_grammar.proofs.Cut.{cut-absent, cut-cut_at_closing}
use Rattle.mailmap_grammar.proofs.Plain.{first-white}
use Rattle.mailmap_grammar.proofs.Trimmed.{begins-before}
use Rattle.mailmap_entries.proofs.Parts.{all_append}
use Rattle.mailmap_grammar.proofs.WhiteEnds.{EndsWhite-ascii, trim-stays, trim-nil, trim-blank_start, trim-blank_end, BeginsWhite-trimmed}
use Rattle.std.specs.List.{AllByRecursion}
use Rattle.std.proofs.lemmas.List.Elements.{recursion_from_All}
use Rattle.mailmap_grammar.proofs.LineFeeds.{pieces-line}
use Rattle.mailmap_entries.proofs.Normal.{all_good}

-- ---- the parts of a line

-- a byte that is neither a space nor in the name
HoldsNo-name_part : (x : ℕ) (o : Option Text) → 32 ≢ x → IfSome o (HoldsNo x) → HoldsNo x (name_part o)
HoldsNo-name_part x o h i = grind (arith, all_append)

name_opening : (o : Option Text) → IfSome o IsWritableName → IfSome o (HoldsNo 60)
name_opening o h = IfSome_then o h (λ s w. w.no_opening)

-- trimming removes the space after a name
trim-name_part : (o : Option Text) → IfSome o IsWritableName → trim (name_part o) ≡ unwrap_or o []
trim-name_part o h = grind (arith, trim-nil, trim-blank_end)

-- a name that can be written isn't empty
non_empty-name : (o : Option Text) → IfSome o IsWritableName → non_empty (unwrap_or o []) ≡ o
non_empty-name o h = grind arith

-- ---- the line without the space at its start and without its line feed

abbrev pub body : Mapping → Text
body e = name_part e.new_name ++ email_part e.new_email ++ name_part e.old_name ++ bracketed_email e.old_email

pub canonical_line-then : (e : Mapping) (rest : Text) → canonical_line e ++ rest ≡ (32 ∷ body e) ++ 10 ∷ rest
canonical_line-then e rest = append_assoc (32 ∷ body e) (10 ∷ []) rest

-- this part of the line has no line feed
pub one_line : (e : Mapping) → IsWritable e → HoldsNo 10 (32 ∷ body e)
one_line e w = search (rules, all_append, HoldsNo-name_part)

-- the body doesn't end with white space
EndsWhite-body : (s r : Text) → EndsWhite (s ++ bracketed_email r) → ⊥
EndsWhite-body s r h = let e = EndsWhite-ascii 62 (s ++ 60 ∷ r) (omega arith) (rw (append_assoc s (60 ∷ r) (62 ∷ [])) h) in absurd (cc)

abbrev mapping : Option Text → Option Text → Option Text → Text → Mapping
mapping nn ne on oe = record { new_name = nn; new_email = ne; old_name = on; old_email = oe }

-- the body doesn't begin with white space
BeginsWhite-body : (nn ne on : Option Text) (oe : Text) → IsWritable (mapping nn ne on oe) → is_accepted (mapping nn ne on oe) ≡ true → BeginsWhite (body (mapping nn ne on oe)) → ⊥
BeginsWhite-body None None on oe w a h = absurd (cc)
BeginsWhite-body None (Some ne) on oe w a h = let e = first-white (body (mapping None (Some ne) on oe)) (omega arith) h in absurd (cc)
BeginsWhite-body (Some []) ne on oe w a h = absurd (w.names.0.some refl)
BeginsWhite-body (Some (b ∷ s)) ne on oe w a h =
    let whole : body (mapping (Some (b ∷ s)) ne on oe) ≡ (b ∷ s) ++ 32 ∷ (email_part ne ++ (name_part on ++ bracketed_email oe)) = simp append_assoc in
    BeginsWhite-trimmed (b ∷ s) w.names.0.trimmed (begins-before (b ∷ s) _ (λ _. refl) (omega arith) (rw whole at h))

-- ---- splitting it into contacts

-- the first contact, if there is a new email
cut_first : (nn on : Option Text) (ne oe : Text) → IfSome nn (HoldsNo 60) → HoldsNo 62 ne → cut (body (mapping nn (Some ne) on oe)) ≡ Closed (name_part nn) ne (32 ∷ (name_part on ++ bracketed_email oe))
cut_first nn on ne oe name email =
    cut-cut_at_closing _ _ _ _ (record { whole = simp append_assoc; no_opening = HoldsNo-name_part 60 nn (omega arith) name; no_closing = email })

-- the second contact
cut_second : (on : Option Text) (oe : Text) → IfSome on (HoldsNo 60) → HoldsNo 62 oe → cut (32 ∷ (name_part on ++ bracketed_email oe)) ≡ Closed (32 ∷ name_part on) oe []
cut_second on oe name email =
    cut-cut_at_closing _ _ _ _ (record { whole = refl; no_opening = (omega arith, HoldsNo-name_part 60 on (omega arith) name); no_closing = email })

-- the only contact, if there is no new email
cut_only : (nn oe : Text) → HoldsNo 60 nn → HoldsNo 62 oe → cut (body (mapping (Some nn) None None oe)) ≡ Closed (nn ++ 32 ∷ []) oe []
cut_only nn oe name email =
    cut-cut_at_closing _ _ _ _ (record { whole = simp append-nil; no_opening = HoldsNo-name_part 60 (Some nn) (omega arith) name; no_closing = email })

-- ---- the entry of its contacts

-- a reader that differs from the lenient one only if the second contact is unclosed
abbrev Agrees : ℕ → Text → (Text → Text → Text → Reading) → Type 0
Agrees n t both = (name email rest : Text) (h : ParsedContact) → trimmed_contact (cut rest) ≡ h → h ≢ Unclosed → both name email rest ≡ two_contacts n t name email h

-- every such reader gives the entry
says : (both : Text → Text → Text → Reading) (n : ℕ) (t : Text) (nn ne on : Option Text) (oe : Text) → Agrees n t both
    → IsWritable (mapping nn ne on oe) → is_accepted (mapping nn ne on oe) ≡ true → first_contact both n t (trimmed_contact (cut (body (mapping nn ne on oe)))) ≡ Ok (mapping nn ne on oe)
says both n t None None on oe agrees w a = absurd (cc)
says both n t (Some nn) None (Some on) oe agrees w a = let e = w.paired in absurd (cc)
says both n t (Some nn) None None oe agrees w a =
    rw (cut_only nn oe w.names.0.no_opening w.emails.1.no_closing, trim-name_part (Some nn) w.names.0, ← w.emails.1.trimmed, with_email both n t nn oe [] w.some_old)
    (agrees nn oe [] Absent (ap trimmed_contact (cut-absent [] tt)) (λ e. cc) ∙ alone-none n t nn oe Absent (inl refl) w.names.0.some)
says both n t nn (Some ne) on oe agrees w a =
    grind (
      arith,
      agrees,
      cut_second,
      name_opening,
      cut_first,
      trim-name_part,
      with_email,
      both-closed,
      non_empty-name,
      trim-blank_start,
    )

-- lenient parsing is such a reader
lenient : (n : ℕ) (t : Text) → Agrees n t (λ name email rest. two_contacts n t name email (trimmed_contact (cut rest)))
lenient n t name email rest h is other = ap (two_contacts n t name email) is

-- strict parsing is such a reader, too
strict : (n : ℕ) (t : Text) → Agrees n t (λ name email rest. strict_contacts n t name email rest (trimmed_contact (cut rest)))
strict n t name email rest h is other = ap (strict_contacts n t name email rest) is ∙ strict-other n t name email rest h other

-- ---- the whole line

-- only the body counts
by_body : (reads : ℕ → Text → Reading) (n : ℕ) (e : Mapping) → IsWritable e → is_accepted e ≡ true → reading_by reads n (32 ∷ body e) ≡ Some (reads n (body e))
by_body reads n e w a =
    let front = name_part e.new_name ++ email_part e.new_email ++ name_part e.old_name in
    let same : trim (32 ∷ body e) ≡ body e =
    trim-blank_start (body e) ∙ trim-stays (body e) (BeginsWhite-body e.new_name e.new_email e.old_name e.old_email w a) (EndsWhite-body front e.old_email) in
    ap (unless_blank reads n) same ∙ some_said reads n (body e) (λ none. absurd (omega (arith, ap length none, length-append front (bracketed_email e.old_email))))

-- lenient parsing gives the entry
pub reading-canonical_line : (n : ℕ) (e : Mapping) → IsWritable e → is_accepted e ≡ true → reading n (32 ∷ body e) ≡ Some (Ok e)
reading-canonical_line n e w a = grind (arith, by_body, says, lenient)

-- strict parsing gives the entry, too
pub strict_reading-canonical_line : (n : ℕ) (e : Mapping) → IsWritable e → is_accepted e ≡ true → strict_reading n (32 ∷ body e) ≡ Some (Ok e)
strict_reading-canonical_line n e w a = grind (arith, by_body, says, strict)

-- a reader that gives the entry of each line gives the entries of the text
module _ (read : ℕ → Text → Option Reading) (each : (n : ℕ) (e : Mapping) → IsWritable e → is_accepted e ≡ true → read n (32 ∷ body e) ≡ Some (Ok e)) where
  from_text : (n : ℕ) (es : List Mapping) → AllByRecursion IsWritable es → AllByRecursion (λ e. is_accepted e ≡ true) es → readings_from read n (pieces (canonical_text es)) ≡ map Ok es
  unfolding readings_from pieces
  from_text n [] w a = refl
  from_text n (e ∷ es) w a = grind (arith, from_text (n + 1) es w.1 a.1, canonical_line-then, pieces-line, one_line)

mappings_in-map : (es : List Mapping) → mappings_in (map Ok es) ≡ es
unfolding mappings_in
mappings_in-map [] = refl
mappings_in-map (e ∷ es) = ap (λ l. e ∷ l) (mappings_in-map es)

module _ (v : List Mapping) (normal : IsNormal v v) (writable : All IsWritable v) where
  read_back : (read : ℕ → Text → Option Reading) → ((n : ℕ) (e : Mapping) → IsWritable e → is_accepted e ≡ true → read n (32 ∷ body e) ≡ Some (Ok e)) → readings_from read 1 (pieces (canonical_text v)) ≡ map Ok v
  read_back read each = from_text read each 1 v (recursion_from_All _ v writable) (recursion_from_All _ v (all_good v v normal))

  -- lenient parsing gives exactly the entries
  pub readings-canonical_text : readings (canonical_text v) ≡ map Ok v
  readings-canonical_text = read_back reading reading-canonical_line

  -- strict parsing gives exactly the entries, too
  pub strict_text : strict_readings (canonical_text v) ≡ map Ok v
  strict_text = read_back strict_reading strict_reading-canonical_line

  -- the mappings of the text are the list that it was written from
  pub mappings_of_canonical_text : mappings_of (canonical_text v) ≡ v
  mappings_of_canonical_text = ap mappings_in readings-canonical_text ∙ mappings_in-map v
