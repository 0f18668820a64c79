-- The texts of a row as spans of the pool.
use Rattle.std.proofs.Common.{◌≡◌, ◌≤◌, ◌<◌, ◌+◌, ℕ, ◌++◌, length, Option, Some, None, option_map, unwrap_or, ap}
use Rattle.std.proofs.Common.{◌∙◌, ◌∷◌, arith, is_some, [], append_assoc, length-append}
use Rattle.std.proofs.Math.Seq.{drop-append_seam}
use Rattle.std.specs.Option.{ForSome}
use Rattle.std.proofs.lemmas.Grind.{common_steps}
use Rattle.std.proofs.lemmas.Bool.Decides.{nat_tests}
use Rattle.std.proofs.lemmas.Option.{same_Some}
use Rattle.mailmap_entries.specs.Folding.{Text}
use Rattle.mailmap_entries.specs.Building.{IsPaired}
use Rattle.mailmap_entries.specs.Entries.{Mapping}
use Rattle.mailmap_entries.specs.Semantics.{Fields, new_fields, no_fields}
use Rattle.mailmap_tables.specs.Pool.{Extends, HasTexts, IsStored, IsWithin, NameInPool, TextsInPool, group_of}
use Rattle.mailmap_tables.specs.Pool.{stored_name, spelled, text_of}
use Rattle.mailmap_tables.specs.Put.{email_given, with_old_email}
use Rattle.mailmap_tables.specs.RowTexts.{byte_count, email_span, name_span, old_span, span_of}
use Rattle.mailmap_tables.specs.declared.texts.TheConstants.{NO_TEXT}
use Rattle.mailmap_tables.specs.declared.texts.Source.{Source}
use Rattle.mailmap_tables.specs.declared.texts.Source.TheVariants.{Given, Pool}
use Rattle.mailmap_tables.specs.declared.texts.RowTexts.{RowTexts}
use Rattle.mailmap_tables.proofs.Pooled.{fields_on, grown, options_on, spelled_on}

-- ---- a length

-- where the new email begins
pub email_starts : (n : ℕ) (t : RowTexts) → TextsInPool n t → t.start + t.old_len + byte_count t.new_name_len ≤ n
unfolding name_span span_of byte_count
email_starts n t lie =
    grind (arith, common_steps, nat_tests, lie.new_name (record { start = t.start + t.old_len; len = t.new_name_len }))

-- ---- a text at the end of a pool that has grown

module _ (a b : Text) (to : Extends a b) where
  pub within_on : (s : Source) → IsWithin (length a) s → IsWithin (length b) s
  within_on (Given t) lies = tt
  within_on (Pool s) lies = omega (arith, lies, grown a b to)

  text_on : (s : Source) → IsWithin (length a) s → text_of b s ≡ text_of a s
  text_on s lies = grind (arith, spelled_on)

  pub some_within_on : (o : Option Source) → ForSome o (IsWithin (length a)) → ForSome o (IsWithin (length b))
  some_within_on o lies s is = within_on s (lies s is)

  pub texts_on : (o : Option Source) → ForSome o (IsWithin (length a))
      → option_map (text_of b) o ≡ option_map (text_of a) o
  texts_on o lies = grind (arith, text_on)

pub extends_through : (a b c : Text) → Extends a b → Extends b c → Extends a c
extends_through a b c p q = (p.0 ++ q.0, q.1 ∙ ap (λ t. t ++ q.0) p.1 ∙ append_assoc a p.0 q.0)

-- ---- a row of texts at the end of the pool

pub stored : (old new text : Text) (len : ℕ) → new ≡ old ++ text → len ≡ length text → length new < NO_TEXT
    → IsStored old new (Some text) len
unfolding span_of byte_count
stored old new text len is long few =
    let some : len < NO_TEXT = omega (arith, ap length is, length-append old text) in
    grind (arith, common_steps, nat_tests, drop-append_seam)

pub none_stored : (old : Text) → IsStored old old None NO_TEXT
unfolding span_of byte_count
none_stored old = grind (arith, common_steps, nat_tests)

-- a stored text has its length
some_stored : (old new text : Text) (len : ℕ) → IsStored old new (Some text) len
    → (span_of (length old) len ≡ Some (record { start = length old; len = len })) × (byte_count len ≡ len)
unfolding span_of byte_count
some_stored old new text len s = let is = s.is in grind (arith, common_steps, nat_tests)

-- a text stays stored while the pool grows
stored_on : (old new later : Text) (text : Option Text) (len : ℕ) → Extends new later → IsStored old new text len
    → option_map (spelled later) (span_of (length old) len) ≡ text
stored_on old new later text len to s = options_on new later to (span_of (length old) len) s.lies ∙ s.is

pub row_stored : (pool one two three old : Text) (name email : Option Text) (t : RowTexts) → t.start ≡ length pool
    → Extends one two → Extends two three → IsStored pool one (Some old) t.old_len → IsStored one two name t.new_name_len
    → IsStored two three email t.new_email_len → HasTexts three old (record { name = name; email = email }) t
unfolding name_span email_span
row_stored pool one two three old name email t start then last its_old its_name its_email =
    let to = extends_through one two three then last in
    let long = some_stored pool one old t.old_len its_old in
    let name_at : t.start + t.old_len ≡ length one = omega (arith, its_old.next, long.1) in
    let email_at : t.start + t.old_len + byte_count t.new_name_len ≡ length two = omega (arith, name_at, its_name.next) in
    let name_is : option_map (spelled three) (name_span t) ≡ name =
    rw name_at (stored_on one two three name t.new_name_len last its_name) in
    let email_is : option_map (spelled three) (email_span t) ≡ email = rw email_at its_email.is in
    let kept = stored_on pool one three (Some old) t.old_len to its_old in
    record {
      lies = record {
        old = omega (arith, name_at, grown one three to);
        new_name = λ s at. omega (arith, its_name.lies s (rw name_at at at), grown two three last);
        new_email = rw email_at its_email.lies;
      };
      old_is = rw start (same_Some _ _ (rw long.0 at kept));
      fields_are = λ i. record { name = name_is i; email = email_is i };
    }

-- ---- a row as the name that it represents

pub name_of_row : (pool old : Text) (fields : Fields) (t : RowTexts) → HasTexts pool old fields t → stored_name pool t
    ≡ record { old_name = old; new_name = fields.name; new_email = unwrap_or fields.email [] }
name_of_row pool old fields t row = grind arith

-- ---- the rows of a new email

module _ (pool old : Text) (m : Mapping) (t : RowTexts) (row : HasTexts pool old (new_fields m) t) where
  -- an entry with an old name has a new email
  pub name_in_pool : IsPaired m → (name : Text) → m.old_name ≡ Some name → NameInPool (length pool) t
  name_in_pool paired name is =
      let email = ap (λ (f : Fields). f.email) row.fields_are in
      record { texts = row.lies; new_email = grind (arith, email, paired (ap is_some is)) }

  pub unnamed_made : group_of pool t [] ≡ email_given (with_old_email old m) None
  unnamed_made i = record { old_email = row.old_is i; unnamed = row.fields_are i; names = [] }

  pub named_made : (before email : Text) (e : RowTexts) → HasTexts before email no_fields e → Extends before pool
      → group_of pool e (t ∷ []) ≡ email_given (with_old_email email m) (Some old)
  named_made before email e its to i = record {
    old_email = (spelled_on before pool to (old_span e) its.lies.old ∙ its.old_is) i;
    unnamed = (fields_on before pool to e its.lies ∙ its.fields_are) i;
    names = name_of_row pool old (new_fields m) t row i ∷ [];
  }
