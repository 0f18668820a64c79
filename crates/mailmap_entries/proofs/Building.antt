-- What merges build, and what the merged entries can be replaced by.
use Rattle.std.proofs.Common.{arith, ◌≡◌, ◌≢◌, Bool, true, false, true≢false, List, [], ◌∷◌, ◌++◌, Option, Some, None, IsSome, if◌then◌else◌, unwrap_or, append-nil, refl, sym, ap, subst, ◌∙◌}
use Rattle.std.specs.Prelude.{◌↔◌}
use Rattle.std.proofs.lemmas.Bool.{false_from_ne_true}
use Rattle.std.specs.Cmp.Lexicographic.{nat_list_cmp_total}
use Rattle.std.specs.List.{AllByRecursion}
use Rattle.std.specs.Option.{option_or}
use Rattle.std.specs.Ordering.{eq_by_cmp}
use Rattle.std.proofs.lemmas.List.Elements.{filter-append, filter_passes, recursion_from_All}
use Rattle.std.proofs.lemmas.Map.Lookups.{exact_bytes}
use Rattle.mailmap_entries.specs.Entries.{Mapping}
use Rattle.mailmap_entries.specs.Folding.{Text, folded, text_cmp}
use Rattle.mailmap_entries.specs.Building.{IsMerged, IsBuilt, nothing, merged, out_of_memory}
use Rattle.mailmap_entries.specs.Semantics.{Key, Fields, key, key_cmp, spelling, IsNormal, accepted, is_accepted, of_email, no_fields, unless_empty, fields_with_spelling, answer_of, fields_for}
use Rattle.mailmap_entries.proofs.Alike.{Alike, same_normal, alike_accepted, alike_back, alike_itself, alike_joined, first_parts, last_parts, given_parts, key_parts}
use Rattle.mailmap_entries.proofs.Exists.{normal, is_normal}
use Rattle.mailmap_entries.proofs.Joined.{IsApart, alike_trans, alike_swapped}
use Rattle.mailmap_entries.proofs.Keys.{exactly_tied, keys_total, keys_exact}
use Rattle.mailmap_entries.proofs.Normal.{alike_normal, normal_nothing, normal_then}
use Rattle.mailmap_entries.proofs.Parts.{filter_all}
use Rattle.mailmap_entries.proofs.Reorder.{by_email}
use Rattle.mailmap_entries.proofs.Unique.{normal_unique}

-- ---- only the accepted entries count

pub accepted_good : (xs : List Mapping) → AllByRecursion (λ m. is_accepted m ≡ true) (accepted xs)
accepted_good xs = recursion_from_All _ (accepted xs) (filter_passes is_accepted xs)

pub accepted_twice : (xs : List Mapping) → accepted (accepted xs) ≡ accepted xs
accepted_twice xs = filter_all is_accepted (accepted xs) (accepted_good xs)

pub normal_accepted : (a xs n : List Mapping) → IsNormal (a ++ accepted xs) n → IsNormal (a ++ xs) n
normal_accepted a xs n = same_normal (a ++ accepted xs) (a ++ xs) n (alike_accepted (a ++ accepted xs) (a ++ xs)
    (filter-append is_accepted a (accepted xs) ∙ ap (λ l. accepted a ++ l) (accepted_twice xs) ∙ sym (filter-append is_accepted a xs)))

-- if no new entry is accepted, nothing changes
pub normal_unchanged : (a xs : List Mapping) → accepted xs ≡ [] → IsNormal a a → IsNormal (a ++ xs) a
normal_unchanged a xs none d = normal_accepted a xs a (subst (λ l. IsNormal (a ++ l) a) (sym none) (subst (λ l. IsNormal l a) (sym (append-nil a)) d))

-- ---- merges

-- the normal list of an empty list is empty
pub normal_none : IsNormal [] []
normal_none = subst (IsNormal []) (normal_nothing [] (normal []) refl (is_normal [])) (is_normal [])

pub is_merged : (old added new : List Mapping) → IsNormal old old → IsNormal (old ++ added) new → IsMerged old added new
is_merged old added new own d = record {
  normal = d;
  history = λ h is. normal_then h old added new is d;
  unchanged = λ none. normal_unique (old ++ added) new old d (normal_unchanged old added none own);
}

pub built_normal : (h n : List Mapping) → IsBuilt h n → IsNormal h n
built_normal _ _ nothing = normal_none
built_normal _ _ (merged h n added new b d) = normal_then h n added new (built_normal h n b) d
built_normal _ _ (out_of_memory h n new b e) = subst (IsNormal h) (sym e) (built_normal h n b)

-- a part can be replaced by its normal list
pub alike_condensed : (a b c m : List Mapping) → IsNormal b m → Alike (a ++ b ++ c) (a ++ m ++ c)
alike_condensed a b c m is = alike_joined (a ++ b) c (a ++ m) c (alike_joined a b a m (alike_itself a) (alike_normal b m is)) (alike_itself c)

-- a part of the accepted entries can be replaced by its normal list
pub normal_condensed : (h n a b c m : List Mapping) → IsNormal h n → accepted h ≡ a ++ b ++ c → IsNormal b m → IsNormal (a ++ m ++ c) n
normal_condensed h n a b c m d parts is =
    let all : IsNormal (a ++ b ++ c) n = subst (λ l. IsNormal l n) parts (same_normal h (accepted h) n (alike_accepted h (accepted h) (sym (accepted_twice h))) d) in
    same_normal _ _ n (alike_condensed a b c m is) all

-- ---- mappings that are merged twice

-- a list followed by itself is alike the list
pub alike_repeated : (h : List Mapping) → Alike (h ++ h) h
alike_repeated h = grind (arith, key_parts, first_parts, last_parts, given_parts)

pub normal_repeated : (h n : List Mapping) → IsNormal h n → IsNormal (h ++ n) n
normal_repeated h n d =
    same_normal h (h ++ n) n (alike_trans h (h ++ h) (h ++ n) (alike_back (h ++ h) h (alike_repeated h)) (alike_joined h h h n (alike_itself h) (alike_normal h n d))) d

-- ---- texts and keys that compare as equal

pub same_text : (a b : Text) → (eq_by_cmp text_cmp a b ≡ true) ↔ (a ≡ b)
same_text = exactly_tied nat_list_cmp_total exact_bytes

pub same_key : (j k : Key) → (eq_by_cmp key_cmp j k ≡ true) ↔ (j ≡ k)
same_key = exactly_tied keys_total keys_exact

-- ---- neighbours with different emails

pub alike_neighbours : (a b : List Mapping) (x y : Mapping) → folded x.old_email ≢ folded y.old_email → Alike (a ++ x ∷ y ∷ b) (a ++ y ∷ x ∷ b)
alike_neighbours a b x y differ =
    let apart : IsApart x y = (
      false_from_ne_true _ (λ e. differ (ap (λ k. k.0) ((same_key (key x) (key y)).0 e))),
      λ e. absurd (differ ((same_text (folded x.old_email) (folded y.old_email)).0 e)),
    ) in
    alike_joined a (x ∷ y ∷ b) a (y ∷ x ∷ b) (alike_itself a) (alike_joined (x ∷ y ∷ []) b (y ∷ x ∷ []) b (alike_swapped (x ∷ []) (y ∷ []) ((apart, tt), tt)) (alike_itself b))

-- ---- what an answer depends on

-- an answer depends only on the accepted entries for its email
pub scan_by_email : (h g : List Mapping) (name email : Text) → of_email h (folded email) ≡ of_email g (folded email) → answer_of h name email ≡ answer_of g name email
scan_by_email h g name email same = grind (arith, by_email, same)

-- without a new email, the email after resolving is the stored spelling, whether or not the signature has exactly that
one_email : (name new : Option Text) (kept email : Text) (same : Bool) → (same ≡ true → kept ≡ email)
    → unwrap_or (unwrap_or (unless_empty (record { name = name; email = option_or new (if same then None else Some kept) })) no_fields).email email ≡ unwrap_or new kept
one_email name new kept email same is = grind arith

one_of : (f : Fields) (spelled : Option Text) (email other : Text) → IsSome spelled
    → unwrap_or (unwrap_or (fields_with_spelling email f spelled) no_fields).email email ≡ unwrap_or (unwrap_or (fields_with_spelling other f spelled) no_fields).email other
one_of f None email other is = absurd (true≢false (sym is))
one_of f (Some kept) email other is = grind (arith, one_email, same_text)

-- signatures that differ only in the case of letters have one email, if there is an entry for that email
pub one_resolved : (h : List Mapping) (name other_name email other_email : Text) → folded name ≡ folded other_name → folded email ≡ folded other_email → IsSome (spelling h (folded email))
    → unwrap_or (fields_for h name email).email email ≡ unwrap_or (fields_for h other_name other_email).email other_email
one_resolved h name other_name email other_email names emails some =
    grind (arith, emails, names, one_of)

pub other_text : (a b : Text) → (b ≡ a → ⊥) → eq_by_cmp text_cmp a b ≡ false
other_text a b other = false_from_ne_true (eq_by_cmp text_cmp a b) (λ same. other (sym ((same_text a b).0 same)))
