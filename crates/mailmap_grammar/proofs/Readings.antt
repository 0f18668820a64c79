-- The readings of a list of lines, and the mappings among them, from the first one and the others.
use Rattle.std.proofs.Common.{◌≡◌, ◌+◌, ℕ, Some, Option, None, option_to_list, List, [], ◌∷◌, ◌++◌, refl, sym, ap, ◌∙◌, ◌≤◌, Result, Ok, Err, length, arith}
use Rattle.mailmap_entries.specs.Folding.{Text}
use Rattle.mailmap_grammar.proofs.LineFeeds.{pieces-nil}
use Rattle.mailmap_grammar.specs.Lines.{Reading, Skips, pieces, reading_by, readings_from, reading_of, mappings_in}
use Rattle.mailmap_entries.specs.declared.entry.Entry.{Entry}
use Rattle.mailmap_grammar.specs.declared.lines.Error.{Error}
use Rattle.mailmap_entries.specs.Entries.{Mapping, mapping_of}
use Rattle.std.specs.Result.{result_ok}

module _ (read : ℕ → Text → Option Reading) (n : ℕ) (said : List Reading) (ls rest : List Text) (l : Text) (whole : readings_from read n ls ≡ said) (first : ls ≡ l ∷ rest) where
  split : said ≡ option_to_list (read n l) ++ readings_from read (n + 1) rest
  unfolding readings_from
  split = sym whole ∙ ap (readings_from read n) first

  pub readings_from-some : (r : Reading) → Some r ≡ read n l → said ≡ r ∷ readings_from read (n + 1) rest
  readings_from-some r is = split ∙ ap (λ o. option_to_list o ++ readings_from read (n + 1) rest) (sym is)

  pub readings_from-none : None ≡ read n l → readings_from read (n + 1) rest ≡ said
  readings_from-none is = sym (split ∙ ap (λ o. option_to_list o ++ readings_from read (n + 1) rest) (sym is))

-- without bytes there are no readings
pub nothing_left : (read : ℕ → Text → Option Reading) (n : ℕ) (said : List Reading) (bytes : Text) → readings_from read n (pieces bytes) ≡ said → bytes ≡ [] → said ≡ []
unfolding readings_from
nothing_left read n said bytes whole none = sym whole ∙ ap (λ s. readings_from read n (pieces s)) none ∙ ap (readings_from read n) pieces-nil

-- the readings of what comes after lines that are skipped
pub after_skipped : {bytes rest : Text} {count : ℕ} (parse : ℕ → Text → Reading) (number : ℕ) (said : List Reading) → Skips bytes rest count
    → readings_from (reading_by parse) (number + 1) (pieces bytes) ≡ said → readings_from (reading_by parse) (number + (count + 1)) (pieces rest) ≡ said
after_skipped {rest = rest} {count = count} parse number said skipped is = grind (arith, skipped.none_read)

module _ (said : List Mapping) (rs rest : List Reading) (x : Result Entry Error) (whole : mappings_in rs ≡ said) (first : rs ≡ reading_of x ∷ rest) where
  split_mappings : said ≡ option_to_list (result_ok (reading_of x)) ++ mappings_in rest
  unfolding mappings_in
  split_mappings = sym whole ∙ ap mappings_in first

  pub mappings_in-ok : (e : Entry) → x ≡ Ok e → said ≡ mapping_of e ∷ mappings_in rest
  mappings_in-ok e is = split_mappings ∙ ap (λ y. option_to_list (result_ok (reading_of y)) ++ mappings_in rest) is

  pub mappings_in-err : (e : Error) → x ≡ Err e → mappings_in rest ≡ said
  mappings_in-err e is = sym (split_mappings ∙ ap (λ y. option_to_list (result_ok (reading_of y)) ++ mappings_in rest) is)

pub mappings_in-nil : mappings_in [] ≡ []
unfolding mappings_in
mappings_in-nil = refl

-- there are no more mappings than items
pub length_mappings_in : (rs : List Reading) → length (mappings_in rs) ≤ length rs
unfolding mappings_in
length_mappings_in [] = omega arith
length_mappings_in (r ∷ rs) = grind (arith, length_mappings_in rs)

pub ruleset line_laws = (after_skipped, nothing_left, readings_from-some, readings_from-none)

pub ruleset good_laws = (mappings_in-ok, mappings_in-err, mappings_in-nil)
