-- What a stable sort by key preserves.
use Rattle.std.proofs.Common.{◌≡◌, Bool, true, ◌&&◌, List, [], ◌∷◌, map, filter, All}
use Rattle.std.proofs.Common.{refl, sym, ap, subst, ◌∙◌, arith}
use Rattle.std.specs.List.Sorted.{IsStableBy, ties}
use Rattle.std.specs.Ordering.{eq_by_cmp}
use Rattle.std.proofs.Math.Bool.{and_comm}
use Rattle.std.proofs.lemmas.Map.Views.{tells_apart}
use Rattle.std.proofs.lemmas.List.Elements.{All-head, filter_agree, filter_passes}
use Rattle.mailmap_entries.specs.Entries.{Mapping}
use Rattle.mailmap_entries.specs.Semantics.{Key, key, key_cmp, is_accepted, accepted, of_key}
use Rattle.mailmap_entries.proofs.Keys.{keys_exact}
use Rattle.mailmap_entries.proofs.Parts.{filter-map, filter-filter}

-- a stable sort that tells no entries with equal keys apart keeps their order
pub keyed_from_stable : {X : Type 0} (f : X → Mapping) (lt : X → X → Bool)
    → ((x y : X) → key (f x) ≡ key (f y) → ties lt x y ≡ true) → (qs ps : List X) → IsStableBy lt qs ps → (k : Key)
    → of_key (map f qs) k ≡ of_key (map f ps) k
keyed_from_stable {X} f lt tied qs ps stable k =
    keyed qs ∙ ap (λ l. accepted (map f l)) (by (filter has qs) (filter has ps) refl refl) ∙ sym (keyed ps)
  where
    has : X → Bool
    has x = eq_by_cmp key_cmp k (key (f x))

    keyed : (l : List X) → of_key (map f l) k ≡ accepted (map f (filter has l))
    keyed l =
        let t : Mapping → Bool = λ e. eq_by_cmp key_cmp k (key e) in
        filter-filter t is_accepted (map f l)
        ∙ filter_agree (λ e. is_accepted e && t e) (λ e. t e && is_accepted e) (λ e. and_comm (is_accepted e) (t e))
        (map f l) ∙ sym (filter-filter is_accepted t (map f l)) ∙ ap accepted (filter-map t f l)

    absorbed : (b c : Bool) → (c ≡ true → b ≡ true) → (b && c) ≡ c
    absorbed b c h = grind arith

    picks : (x : X) → has x ≡ true → (l : List X) → filter has (filter (ties lt x) l) ≡ filter has l
    picks x is l = filter-filter has (ties lt x) l
        ∙ filter_agree (λ y. ties lt x y && has y) has (λ y. absorbed (ties lt x y) (has y) (λ so. tied x y
        (sym (tells_apart keys_exact k (key (f x)) is) ∙ tells_apart keys_exact k (key (f y)) so))) l

    -- the entries with a key that some entry has
    from : (x : X) → has x ≡ true → filter has qs ≡ filter has ps
    from x is = sym (picks x is qs) ∙ ap (filter has) (sym (stable x)) ∙ picks x is ps

    passes : (l : List X) (x : X) (m : List X) → filter has l ≡ x ∷ m → has x ≡ true
    passes l x m e = All-head (λ y. has y ≡ true) x m (subst (All (λ y. has y ≡ true)) e (filter_passes has l))

    by : (l m : List X) → filter has qs ≡ l → filter has ps ≡ m → filter has qs ≡ filter has ps
    by [] [] e d = e ∙ sym d
    by (x ∷ l) m e d = from x (passes qs x l e)
    by [] (y ∷ m) e d = from y (passes ps y m d)
