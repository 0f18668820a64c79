-- Listings that compare as equal are the same. The laws about their equality and their hash follow from that.
use Rattle.std.proofs.Common.{arith, ◌≡◌, List, Option}
use Rattle.std.specs.Bool.{Decides, IsTrue}
use Rattle.std.specs.Cmp.{IsEquivalence, IsPartialEquivalence, partial_equiv_from_equiv}
use lib.Pointwise.{pointwise_decides, bytes_decides}
use Rattle.mailmap_entries.specs.Entries.{Mapping}
use Rattle.mailmap_entries.specs.Folding.{Text}
use Rattle.mailmap_entries.specs.Listings.{same_optional, same_entry, same_entries, entries_hashed}

-- ---- equal listings are the same

pub optional_decides : (o p : Option Text) → Decides (same_optional o p) (o ≡ p)
optional_decides o p = grind (arith, bytes_decides)

pub entry_decides : (a b : Mapping) → Decides (same_entry a b) (a ≡ b)
entry_decides a b = grind (arith, optional_decides, bytes_decides)

pub entries_decide : (xs ys : List Mapping) → Decides (same_entries xs ys) (xs ≡ ys)
entries_decide = pointwise_decides entry_decides

-- ---- the laws about equality and hash

pub equal_entries : IsEquivalence same_entries
equal_entries = grind (arith, entries_decide)

pub partly_equal_entries : IsPartialEquivalence same_entries
partly_equal_entries = partial_equiv_from_equiv equal_entries

pub equal_hashes : (xs ys : List Mapping) → IsTrue (same_entries xs ys) → entries_hashed xs ≡ entries_hashed ys
equal_hashes xs ys e = grind (arith, entries_decide)
