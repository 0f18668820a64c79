-- The line numbers of faults ascend, and a line yields at most one item.
use Rattle.std.proofs.Common.{IfSome, ◌≡◌, ◌+◌, ◌<◌, ◌≤◌, ℕ, suc, Option, Some, None, option_to_list, Ok, Err, List, [], ◌∷◌, ◌++◌, length, sym, arith, Less}
use Rattle.std.specs.List.{AllByRecursion}
use Rattle.std.specs.Result.{IfErr}
use Rattle.std.specs.List.Sorted.{IsStrictlySortedBy}
use Rattle.std.specs.Ordering.{nat_cmp}
use Rattle.std.specs.Cmp.{nat_cmp_is}
use Rattle.mailmap_entries.proofs.Parts.{all_weaker}
use Rattle.mailmap_grammar.specs.declared.lines.Strictness.{Strictness}
use Rattle.mailmap_grammar.specs.declared.lines.Strictness.TheVariants.{Lenient, Strict}
use Rattle.mailmap_entries.specs.Folding.{Text}
use Rattle.mailmap_grammar.specs.Trimming.{trim}
use Rattle.mailmap_grammar.proofs.LineFeeds.{length-pieces}
use Rattle.mailmap_grammar.specs.Lines.{Reading, ParsedContact, cut, trimmed_contact, two_contacts, strict_contacts, first_contact, line_reader, reading_by, readings_from, fault_lines}

abbrev LineIs : ℕ → Reading → Type 0
LineIs n r = IfErr r (λ f. f.line ≡ n)

abbrev pub IfLine : ℕ → Option Reading → Type 0
IfLine n o = IfSome o (LineIs n)

two-line : (n : ℕ) (t name email : Text) (h : ParsedContact) → LineIs n (two_contacts n t name email h)
two-line n t name email h = grind arith

strict-line : (n : ℕ) (t name email rest : Text) (h : ParsedContact) → LineIs n (strict_contacts n t name email rest h)
strict-line n t name email rest h = grind (arith, two-line)

first-line : (both : Text → Text → Text → Reading) (n : ℕ) (t : Text) → ((name email rest : Text) → LineIs n (both name email rest)) → (h : ParsedContact) → LineIs n (first_contact both n t h)
first-line both n t is h = grind (arith, is)

-- a fault is on the line that is read, with either strictness
line_reader-line : (s : Strictness) (n : ℕ) (t : Text) → LineIs n (line_reader s n t)
line_reader-line Lenient n t = first-line _ n t (λ name email rest. two-line n t name email (trimmed_contact (cut rest))) (trimmed_contact (cut t))
line_reader-line Strict n t = first-line _ n t (λ name email rest. strict-line n t name email rest (trimmed_contact (cut rest))) (trimmed_contact (cut t))

-- what holds for the reading of the trimmed line holds for that of the line, if it has one
pub if_read : (P : Reading → Type 0) (says : ℕ → Text → Reading) (n : ℕ) (l : Text) → P (says n (trim l)) → IfSome (reading_by says n l) P
if_read P says n l p = grind arith

-- this holds for a reader of whole lines, too
pub walk-line : (s : Strictness) (n : ℕ) (l : Text) → IfLine n (reading_by (line_reader s) n l)
walk-line s n l = if_read (LineIs n) (line_reader s) n l (line_reader-line s n (trim l))

abbrev Above : ℕ → List ℕ → Type 0
Above n ks = AllByRecursion (λ k. n ≤ k) ks × IsStrictlySortedBy nat_cmp ks

weaker : (m n : ℕ) (ks : List ℕ) → m ≤ n → AllByRecursion (λ k. n ≤ k) ks → AllByRecursion (λ k. m ≤ k) ks
weaker m n ks le all = all_weaker ks (λ k high. omega arith) all

below : (m n : ℕ) (ks : List ℕ) → m < n → AllByRecursion (λ k. n ≤ k) ks → AllByRecursion (λ k. nat_cmp m k ≡ Less) ks
below m n ks lt all = all_weaker ks (λ k high. sym (nat_cmp_is m k Less (omega arith))) all

step : (n : ℕ) (o : Option Reading) (rs : List Reading) → IfLine n o → Above (n + 1) (fault_lines rs) → Above n (fault_lines (option_to_list o ++ rs))
unfolding fault_lines IsStrictlySortedBy
step n None rs is all = (weaker n (n + 1) (fault_lines rs) (omega arith) all.0, all.1)
step n (Some (Ok m)) rs is all = (weaker n (n + 1) (fault_lines rs) (omega arith) all.0, all.1)
step n (Some (Err f)) rs is all = grind (arith, weaker, below)

at_most_one : (o : Option Reading) (rs : List Reading) → length (option_to_list o ++ rs) ≤ suc (length rs)
at_most_one o rs = grind arith

-- for any reader whose faults are on the line that is read
module _ (read : ℕ → Text → Option Reading) (line : (n : ℕ) (l : Text) → IfLine n (read n l)) where
  above : (n : ℕ) (ls : List Text) → Above n (fault_lines (readings_from read n ls))
  unfolding readings_from fault_lines IsStrictlySortedBy
  above n [] = (tt, tt)
  above n (l ∷ ls) = step n (read n l) (readings_from read (n + 1) ls) (line n l) (above (n + 1) ls)

pub lines_rise : (s : Strictness) (n : ℕ) (ls : List Text) → IsStrictlySortedBy nat_cmp (fault_lines (readings_from (reading_by (line_reader s)) n ls))
lines_rise s n ls = (above _ (walk-line s) n ls).1

pub length-readings_from : (read : ℕ → Text → Option Reading) (n : ℕ) (ls : List Text) → length (readings_from read n ls) ≤ length ls
unfolding readings_from
length-readings_from read n [] = omega arith
length-readings_from read n (l ∷ ls) = omega (arith, at_most_one (read n l) (readings_from read (n + 1) ls), length-readings_from read (n + 1) ls)

pub ruleset line_laws = (lines_rise, length-readings_from, length-pieces)
