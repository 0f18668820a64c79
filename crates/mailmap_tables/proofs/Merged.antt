-- Entries that are merged one after another, or after they were collected or combined.
use Rattle.std.proofs.lemmas.Grind.{common_steps}
use Rattle.std.proofs.Common.{◌≡◌, ◌<◌, ◌+◌, ℕ, List, [], ◌∷◌, None, get_or, length, map, take, arith, ◌≢◌, ◌≤◌, ◌==◌}
use Rattle.std.proofs.Common.{true, false, ◌++◌, append-nil, append_assoc, Option}
use Rattle.std.proofs.lemmas.List.{map_more}
use Rattle.mailmap_entries.specs.Entries.{Mapping, mapping, mapping_of}
use Rattle.mailmap_entries.specs.Folding.{Text}
use Rattle.std.specs.Option.{option_or}
use Rattle.mailmap_entries.proofs.Alike.{Alike, alike_itself, alike_joined, alike_back, same_normal}
use Rattle.mailmap_entries.proofs.Joined.{alike_trans}
use Rattle.mailmap_tables.specs.Put.{AreAccepted, Represent, with_old_email}
use Rattle.std.proofs.lemmas.Bool.Decides.{nat_tests}
use Rattle.std.specs.Iterator.{Drains, Yields}
use Rattle.mailmap_entries.specs.declared.entry.Entry.{Entry}
use Rattle.mailmap_entries.specs.Semantics.{accepted, is_accepted}
use Rattle.mailmap_entries.proofs.Normal.{normal_then}
use Rattle.mailmap_tables.specs.Groups.{AreGroups, EmailGroup, listing}
use Rattle.mailmap_tables.proofs.Grouped.{groups_normal}

pub some_taken : (h : List Mapping) (m : Mapping) → is_accepted m ≡ true → accepted (h ++ m ∷ []) ≢ []
some_taken h m good none = grind (arith, common_steps)

-- ---- what groups represent

pub none_put : {gs : List EmailGroup} → AreGroups gs → Represent (listing gs ++ []) gs
none_put {gs} are = record { groups = are; normal = rw append-nil (groups_normal gs are) }

pub put_more : (h more : List Mapping) (gs hs : List EmailGroup) → Represent h gs → Represent (listing gs ++ more) hs
    → Represent (h ++ more) hs
put_more h more gs hs before after = record {
  groups = after.groups;
  normal = normal_then h (listing gs) more (listing hs) before.normal after.normal;
}

pub put_alike : (h g : List Mapping) (gs : List EmailGroup) → Alike h g → Represent g gs → Represent h gs
put_alike h g gs alike put = record {
  groups = put.groups;
  normal = same_normal g h (listing gs) (alike_back h g alike) put.normal;
}

pub one_put : {X : Type 0} (f : X → Mapping) (xs : List X) (h : List Mapping) (gs hs : List EmailGroup) (i : ℕ) (x : X)
    → i < length xs → x ≡ get_or xs i x → Represent (h ++ map f (take i xs)) gs → Represent (listing gs ++ f x ∷ []) hs
    → Represent (h ++ map f (take (i + 1) xs)) hs
one_put f xs h gs hs i x lt read before put =
    rw (map_more f xs i x lt, ← read, ← append_assoc h (map f (take i xs)) (f x ∷ [])) (put_more _ _ gs hs before put)

-- if some entry was collected, some was accepted
pub some_accepted : {I : Type 0} (steps : I → Option Entry → I → Type 0) {first : I} (xs batch : List Entry)
    → Drains steps first xs → map mapping_of batch ≡ accepted (map mapping_of xs) → 0 < length batch
    → (ys : List Entry) × (rest : I) × Yields steps first ys rest × (accepted (map mapping_of ys) ≢ [])
some_accepted steps xs batch drains is some = (xs, drains.1.0, drains.1.1, λ none. grind (arith, common_steps))

pub some_left : {X : Type 0} (xs : List X) → false ≡ (length xs == 0) → 0 < length xs
some_left xs e = grind (arith, nat_tests)

pub one_item : {X : Type 0} (xs : List X) (x : X) → 1 ≤ length xs → length xs < 2 → x ≡ get_or xs 0 x → xs ≡ x ∷ []
one_item xs x some few read = grind (arith, common_steps)

-- ---- entries without an old name are combined

-- what the second doesn't give, the first does
pub both_combined : (a b c : Mapping) → AreAccepted (a ∷ b ∷ []) → a.old_name ≡ None → b.old_name ≡ None
    → c ≡ mapping (option_or b.new_name a.new_name) (option_or b.new_email a.new_email) None b.old_email
    → (email : Text) → Alike (with_old_email email a ∷ with_old_email email b ∷ []) (with_old_email email c ∷ [])
both_combined a b c good a_none b_none is email = record {
  keys = λ k. grind (arith, common_steps);
  spellings = λ t. grind (arith, common_steps);
  given = λ t. grind (arith, common_steps);
  lasts = λ t name. grind (arith, common_steps);
  names = λ t name. grind (arith, common_steps);
}

module _ {X : Type 0} (f : X → Mapping) (xs : List X) (x : X) where
  pub first_alike : 0 < length xs → Alike (map f (take 1 xs)) (f (get_or xs 0 x) ∷ [])
  first_alike lt = rw (map_more f xs 0 x lt) (alike_itself (f (get_or xs 0 x) ∷ []))

  pub more_combined : {m n : Mapping} (i : ℕ) → i < length xs → Alike (map f (take i xs)) (m ∷ [])
      → Alike (m ∷ f (get_or xs i x) ∷ []) (n ∷ []) → Alike (map f (take (i + 1) xs)) (n ∷ [])
  more_combined {m} {n} i lt before both = rw (map_more f xs i x lt)
      (alike_trans _ (m ∷ f (get_or xs i x) ∷ []) (n ∷ [])
      (alike_joined (map f (take i xs)) (f (get_or xs i x) ∷ []) (m ∷ []) _ before (alike_itself _)) both)
