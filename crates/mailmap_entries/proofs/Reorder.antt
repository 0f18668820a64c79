-- Lists with the same entries for each email are alike.
use Rattle.std.proofs.Common.{arith, ◌≡◌, ◌&&◌, List, filter, Option, Ordering, is_eq, sym, ◌∙◌}
use Rattle.std.specs.Ordering.{eq_by_cmp, ordering_then}
use Rattle.std.specs.Option.{option_cmp}
use Rattle.std.proofs.lemmas.List.Elements.{filter_agree}
use Rattle.mailmap_entries.specs.Entries.{Mapping}
use Rattle.mailmap_entries.specs.Folding.{Text, text_cmp}
use Rattle.mailmap_entries.specs.Semantics.{Key, key, key_cmp, accepted, of_email, of_key}
use Rattle.mailmap_entries.proofs.Alike.{Alike}
use Rattle.mailmap_entries.proofs.Normal.{known}
use Rattle.mailmap_entries.proofs.Parts.{filter-filter}

pub both_equal : (a b : Ordering) → is_eq (ordering_then a b) ≡ (is_eq a && is_eq b)
both_equal a b = grind arith

-- the entries of a key are those of its email that have its name
pub of_name : Option Text → List Mapping → List Mapping
of_name name = filter (λ e. eq_by_cmp (option_cmp text_cmp) name (key e).1)

pub by_email : (h : List Mapping) (k : Key) → of_key h k ≡ of_name k.1 (of_email h k.0)
unfolding of_name
by_email h k =
    filter_agree (λ e. eq_by_cmp key_cmp k (key e)) _ (λ e. both_equal (text_cmp k.0 (key e).0) (option_cmp text_cmp k.1 (key e).1)) (accepted h)
    ∙ sym (filter-filter (λ e. eq_by_cmp (option_cmp text_cmp) k.1 (key e).1) (λ e. eq_by_cmp text_cmp k.0 (key e).0) (accepted h))

pub alike_reordered : (h g : List Mapping) → ((email : Text) → of_email h email ≡ of_email g email) → Alike h g
alike_reordered h g same = grind (arith, same, by_email, known)
