-- A list of mappings has at most one normal list, and that is never longer than the list.
use Rattle.std.proofs.Common.{List, length, map, sym, ap, ◌≡◌, ◌≤◌, ◌∙◌, arith}
use Rattle.std.proofs.lemmas.Cmp.{eq_by_cmp_equiv}
use Rattle.std.proofs.lemmas.List.{length-map}
use Rattle.std.proofs.lemmas.List.Elements.{recursion_from_All}
use Rattle.std.proofs.lemmas.List.Sums.{length-filter, count_by-le-length}
use Rattle.std.proofs.lemmas.Map.Keys.{IsDistinct-from_sorted}
use Rattle.std.proofs.lemmas.Map.Made.{length-le_from_is_member}
use Rattle.mailmap_entries.specs.Entries.{Mapping}
use Rattle.mailmap_entries.specs.Semantics.{key, key_cmp, value, accepted, is_accepted, IsNormal}
use Rattle.mailmap_entries.proofs.Ascending.{same_keys, from_keys}
use Rattle.mailmap_entries.proofs.Keys.{keys_total, keys_exact}

pub normal_unique : (h n m : List Mapping) → IsNormal h n → IsNormal h m → n ≡ m
normal_unique h n m a b =
    let parted = λ (l : List Mapping) (d : IsNormal h l). from_keys keys_total keys_exact key (value h) l (recursion_from_All _ l d.values) in
    let same = same_keys keys_total keys_exact (map key n) (map key m) a.ascending b.ascending (λ k. a.keys k ∙ sym (b.keys k)) in
    parted n a ∙ ap (map (value h)) same ∙ sym (parted m b)

pub no_shorter : (l n : List Mapping) → IsNormal l n → length n ≤ length l
no_shorter l n d =
    let fewer : length (map key n) ≤ length (map key (accepted l)) =
    length-le_from_is_member (eq_by_cmp_equiv keys_total) (map key n) (map key (accepted l)) (IsDistinct-from_sorted key_cmp (map key n) d.ascending) (λ k h. sym (d.keys k) ∙ h) in
    omega (arith, fewer, length-map n key, length-map (accepted l) key, length-filter is_accepted l, count_by-le-length is_accepted l)
