-- JSON of findings.
use Rattle.std.proofs.Common.{◌≡◌, ◌||◌, ℕ, Bool, Option, None, Some, Ordering, Less, Equal, Greater, ap, codes, false, nat_cmp, refl, sym, true}
use Rattle.std.specs.Cmp.Lexicographic.{slice_cmp}
use Rattle.std.specs.Ordering.{match_ordering}
use Rattle.std.specs.Str.{IsUtf8, is_utf8}
use Rattle.std.proofs.lemmas.Bool.{false_from_ne_true}
use Rattle.std.proofs.lemmas.Str.{IsUtf8-from_is_utf8, is_utf8-from_IsUtf8}
use Rattle.serde_json.specs.Data.{Data, Members, member, no_members, number, object, put, string, unsigned}
use Rattle.serde_json.specs.Written.{has_float, members_have_float}
use Rattle.mailmap_entries.specs.Folding.{Text}
use Rattle.mailmap_report.specs.Json.{FileLine, Named, Notice, members, object_data, place_data, text_data, text_in, text_key}
use Rattle.mailmap_report.specs.Json.{with_beside, with_count, with_named, with_other, with_text}

pub text_if : (text : Text) → IsUtf8 text → object (member (text_key true) (string (text_in true text)) no_members) ≡ text_data text
text_if text is = ap (λ b. object (member (text_key b) (string (text_in b text)) no_members)) (sym (is_utf8-from_IsUtf8 text is))

pub bytes_if : (text : Text) → ¬ (IsUtf8 text) → object (member (text_key false) (string (text_in false text)) no_members) ≡ text_data text
bytes_if text is_not =
    ap (λ b. object (member (text_key b) (string (text_in b text)) no_members)) (sym (false_from_ne_true (is_utf8 text) (λ is. is_not (IsUtf8-from_is_utf8 text is))))

or_false_left : (a b : Bool) → (a || b) ≡ false → a ≡ false
or_false_left false b is = refl
or_false_left true b is = is

or_false_right : (a b : Bool) → (a || b) ≡ false → b ≡ false
or_false_right false b is = is
or_false_right true b is = cc

-- a member without a float adds none
put_in : (o : Ordering) (k l : Text) (d e : Data) (ms more : Members) → has_float d ≡ false
    → members_have_float (member l e ms) ≡ false → members_have_float more ≡ false
    → members_have_float (match_ordering o (member k d (member l e ms)) (member l d ms) (member l e more)) ≡ false
put_in Less k l d e ms more plain none rest = rw plain none
put_in Equal k l d e ms more plain none rest = rw plain (or_false_right (has_float e) (members_have_float ms) none)
put_in Greater k l d e ms more plain none rest = rw (or_false_left (has_float e) (members_have_float ms) none) rest

put_no_float : (k : Text) (d : Data) (ms : Members) → has_float d ≡ false → members_have_float ms ≡ false
    → members_have_float (put k d ms) ≡ false
put_no_float k d no_members plain none = rw plain refl
put_no_float k d (member l e ms) plain none = put_in (slice_cmp nat_cmp k l) k l d e ms (put k d ms) plain none
    (put_no_float k d ms plain (or_false_right (has_float e) (members_have_float ms) none))

text_no_float : (key : Text) (text : Option Text) (ms : Members) → members_have_float ms ≡ false
    → members_have_float (with_text key text ms) ≡ false
text_no_float key None ms none = none
text_no_float key (Some text) ms none = put_no_float key (text_data text) ms refl none

count_no_float : (count : Option ℕ) (ms : Members) → members_have_float ms ≡ false
    → members_have_float (with_count count ms) ≡ false
count_no_float None ms none = none
count_no_float (Some count) ms none = put_no_float (codes "count") (number (unsigned count)) ms refl none

named_no_float : (n : Named) (ms : Members) → members_have_float ms ≡ false → members_have_float (with_named n ms) ≡ false
named_no_float n ms none = count_no_float n.count _ (text_no_float (codes "email") n.email _ (text_no_float (codes "name") n.name ms none))

other_no_float : (other : Option FileLine) (ms : Members) → members_have_float ms ≡ false
    → members_have_float (with_other other ms) ≡ false
other_no_float None ms none = none
other_no_float (Some other) ms none = put_no_float (codes "at") (place_data other) ms refl none

beside_no_float : (beside : Option Named) (ms : Members) → members_have_float ms ≡ false
    → members_have_float (with_beside beside ms) ≡ false
beside_no_float None ms none = none
beside_no_float (Some n) ms none = put_no_float (codes "beside") (object (with_named n no_members)) ms (named_no_float n no_members refl) none

pub no_float : (n : Notice) → has_float (object_data n) ≡ false
no_float n = beside_no_float n.beside _ (named_no_float n.named _ (other_no_float n.other (members n) refl))
