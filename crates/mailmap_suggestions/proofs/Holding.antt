-- Keys with the answers that have them, one more at a time.
use Rattle.std.proofs.Common.{◌≡◌, ◌∙◌, ◌+◌, ◌<◌, ◌++◌, ◌&&◌, ◌||◌, ℕ, Bool, true, false, cond, not, List, [], ◌∷◌, Bor, Option, None, Some, Ordering, Less, Equal, Greater, ap, append_assoc, bytes_eq, filter, flat_map, get_or, length, map, refl, subst, sym, take, true≢false}
use Rattle.std.specs.BTreeMap.{insert_entry}
use Rattle.std.specs.Cmp.Lexicographic.{slice_cmp}
use Rattle.std.specs.Global.{Vec}
use Rattle.std.specs.List.{list_any}
use Rattle.std.specs.Map.{lookup}
use Rattle.std.specs.Ordering.{is_eq, match_ordering, nat_cmp}
use Rattle.std.proofs.lemmas.Cmp.{nat_list_eq_equiv}
use Rattle.std.proofs.lemmas.List.{get_or-map, map-append, map_more, take_more}
use Rattle.std.proofs.lemmas.Map.Text.{is_eq-slice_cmp}
use Rattle.mailmap_contacts.specs.declared.answers.Tally.{Tally as TheTally}
use Rattle.mailmap_contacts.specs.Answers.{tally_of}
use Rattle.mailmap_contacts.specs.Contacts.{Contact, same_contact}
use Rattle.mailmap_contacts.proofs.Entries.{same_is}
use Rattle.mailmap_contacts.proofs.Steps.{made_more}
use Rattle.mailmap_contacts.proofs.Tallied.{itself}
use Rattle.mailmap_entries.specs.Folding.{Text}
use Rattle.mailmap_entries.proofs.Parts.{list_any-append}
use Rattle.mailmap_suggestions.specs.LinkViews.{HoldersOf, answer_in, holder_of, is_another, joined, links_to, links_with, mark_cmp, mark_text, mark_texts, own_and, pairs_by, vec_texts, with_answer}
use Rattle.mailmap_suggestions.specs.declared.holders.Holder.{Holder}
use Rattle.mailmap_suggestions.specs.declared.holders.Holders.{Holders}
use Rattle.mailmap_suggestions.specs.declared.marks.Mark.{Mark}
use Rattle.mailmap_suggestions.specs.declared.members.Member.{Member}
use Rattle.mailmap_suggestions.proofs.Distinct.{equal_bytes, same_bytes}

-- ---- one more answer that has a key

or_self : (b : Bool) → (b || b) ≡ b
or_self true = refl
or_self false = refl

both_ways : (one : Bool) (f a b : Contact) (same : Bool) → same_contact f a ≡ same
    → (not (one && same) || not (same_contact f b)) ≡ ((not one || not (same_contact f b)) || not (same_contact a b))
both_ways false f a b same is = refl
both_ways true f a b true is =
    sym (or_self (not (same_contact f b))) ∙ ap (λ x. not (same_contact f b) || not (same_contact x b)) (same_is f a is)
both_ways true f a b false is = elim (same_contact f b) as (λ t. same_contact f b ≡ t → true ≡ (not t || not (same_contact a b))) [
  | true ↦ λ first. elim (same_contact a b) as (λ u. same_contact a b ≡ u → true ≡ not u) [
    | true ↦ λ second. absurd (true≢false (sym (itself a) ∙ ap (λ x. same_contact x a) (same_is a b second ∙ sym (same_is f b first)) ∙ is))
    | false ↦ λ _. refl
  ] refl
  | false ↦ λ _. refl
] refl

one_more : (o : Option Holder) (a : Bor TheTally) (b : Contact) → is_another (Some (joined o a)) b ≡ (is_another o b || not (same_contact (tally_of a.now).contact b))
one_more None a b = refl
one_more (Some holder) a b =
    both_ways holder.is_one (tally_of holder.first.now).contact (tally_of a.now).contact b (same_contact (tally_of holder.first.now).contact (tally_of a.now).contact) refl

-- ---- one more key in the map

abbrev is_text : Text → Mark → Bool
is_text text key = is_eq (slice_cmp nat_cmp text key.text.items)

module _ (text : Text) (key : Mark) (v : Holder) where
  first_is : (e : Mark × Holder) (es : List (Mark × Holder))
      → lookup (is_text text) (insert_entry mark_cmp es key v) ≡ cond (bytes_eq text key.text.items) (Some v) (lookup (is_text text) es)
      → (r : Ordering) → mark_cmp key e.0 ≡ r
      → lookup (is_text text) (match_ordering r ((key, v) ∷ e ∷ es) ((e.0, v) ∷ es) (e ∷ insert_entry mark_cmp es key v))
      ≡ cond (bytes_eq text key.text.items) (Some v) (cond (is_text text e.0) (Some e.1) (lookup (is_text text) es))
  first_is e es rest Less is = ap (λ b. cond b (Some v) (cond (is_text text e.0) (Some e.1) (lookup (is_text text) es))) (is_eq-slice_cmp text key.text.items)
  first_is e es rest Equal is =
      let same : key.text.items ≡ e.0.text.items = same_bytes key.text.items e.0.text.items (sym (is_eq-slice_cmp key.text.items e.0.text.items) ∙ ap is_eq is) in
      let here : is_text text e.0 ≡ bytes_eq text key.text.items = is_eq-slice_cmp text e.0.text.items ∙ ap (bytes_eq text) (sym same) in
      ap (λ b. cond b (Some v) (lookup (is_text text) es)) here ∙ twice (bytes_eq text key.text.items)
      ∙ ap (λ b. cond (bytes_eq text key.text.items) (Some v) (cond b (Some e.1) (lookup (is_text text) es))) (sym here)
    where
      twice : (b : Bool) → cond b (Some v) (lookup (is_text text) es) ≡ cond b (Some v) (cond b (Some e.1) (lookup (is_text text) es))
      twice true = refl
      twice false = refl
  first_is e es rest Greater is = ap (cond (is_text text e.0) (Some e.1)) rest ∙ swapped (is_text text e.0) (bytes_eq text key.text.items) refl refl
    where
      swapped : (a b : Bool) → is_text text e.0 ≡ a → bytes_eq text key.text.items ≡ b
          → cond a (Some e.1) (cond b (Some v) (lookup (is_text text) es)) ≡ cond b (Some v) (cond a (Some e.1) (lookup (is_text text) es))
      swapped true true there here = absurd (true≢false (sym there ∙ ap (λ t. is_text t e.0) (same_bytes text key.text.items here) ∙ ap is_eq is))
      swapped true false there here = refl
      swapped false true there here = refl
      swapped false false there here = refl

  lookup_inserted : (es : List (Mark × Holder))
      → lookup (is_text text) (insert_entry mark_cmp es key v) ≡ cond (bytes_eq text key.text.items) (Some v) (lookup (is_text text) es)
  lookup_inserted [] = ap (λ b. cond b (Some v) None) (is_eq-slice_cmp text key.text.items)
  lookup_inserted (e ∷ es) = first_is e es (lookup_inserted es) (mark_cmp key e.0) refl

or_end : (a b : Bool) → (a || b) ≡ (a || ((true && b) || false))
or_end true b = refl
or_end false true = refl
or_end false false = refl

or_none : (a b : Bool) → a ≡ (a || ((false && b) || false))
or_none true b = refl
or_none false b = refl

pub holders_more : (pairs : List (Text × Contact)) (old new : Holders) (key : Mark) (a : Bor TheTally) → HoldersOf pairs old
    → new.by_key.entries ≡ insert_entry mark_cmp old.by_key.entries key (joined (holder_of old key.text.items) a)
    → HoldersOf (pairs ++ (key.text.items, (tally_of a.now).contact) ∷ []) new
holders_more pairs old new key a are put q b =
    ap (λ es. is_another (lookup (is_text q) es) b) put
    ∙ ap (λ o. is_another o b) (lookup_inserted q key (joined (holder_of old key.text.items) a) old.by_key.entries)
    ∙ by (bytes_eq q key.text.items) refl
    ∙ sym (list_any-append (λ (p : Text × Contact). bytes_eq p.0 q && not (same_contact p.1 b)) pairs ((key.text.items, (tally_of a.now).contact) ∷ []))
  where
    others : Bool
    others = list_any (λ (p : Text × Contact). bytes_eq p.0 q && not (same_contact p.1 b)) pairs

    mine : Bool
    mine = not (same_contact (tally_of a.now).contact b)

    by : (t : Bool) → bytes_eq q key.text.items ≡ t → is_another (cond t (Some (joined (holder_of old key.text.items) a)) (holder_of old q)) b ≡ (others || ((bytes_eq key.text.items q && mine) || false))
    by true is =
        let same = same_bytes q key.text.items is in
        one_more (holder_of old key.text.items) a b ∙ ap (λ k. is_another (holder_of old k) b || mine) (sym same) ∙ ap (λ t. t || mine) (are q b)
        ∙ or_end others mine ∙ ap (λ t. others || ((t && mine) || false)) (sym (equal_bytes key.text.items q (sym same)))
    by false is = are q b ∙ or_none others mine ∙ ap (λ t. others || ((t && mine) || false)) (sym (nat_list_eq_equiv.symm key.text.items q ∙ is))

-- ---- keys one after the other

pub pairs_more : (pairs : List (Text × Contact)) (a : Contact) (keys more : List Mark) (key : Mark) → more ≡ keys ++ key ∷ []
    → (pairs ++ with_answer a (mark_texts keys)) ++ (key.text.items, a) ∷ [] ≡ pairs ++ with_answer a (mark_texts more)
pairs_more pairs a keys more key is =
    append_assoc pairs (with_answer a (mark_texts keys)) ((key.text.items, a) ∷ [])
    ∙ ap (λ l. pairs ++ l) (sym (map-append (λ text. (text, a)) (mark_texts keys) (key.text.items ∷ [])) ∙ ap (with_answer a) (sym (map-append mark_text keys (key ∷ [])) ∙ ap mark_texts (sym is)))

-- ---- what the members so far have

pub joined_more : {X Y : Type 0} (f : X → List Y) (xs : List X) (i : ℕ) (d : X) → i < length xs → flat_map f (take (i + 1) xs) ≡ flat_map f (take i xs) ++ f (get_or xs i d)
joined_more f xs i d lt = made_more f (take i xs) (take (i + 1) xs) (get_or xs i d) (take_more xs i d lt)

-- after others that were there before
pub joined_after : {X Y : Type 0} (f : X → List Y) (xs : List X) (i : ℕ) (d : X) (first old new : List Y) → i < length xs
    → old ≡ first ++ flat_map f (take i xs) → new ≡ old ++ f (get_or xs i d) → new ≡ first ++ flat_map f (take (i + 1) xs)
joined_after f xs i d first old new lt before is =
    is ∙ ap (λ l. l ++ f (get_or xs i d)) before ∙ append_assoc first (flat_map f (take i xs)) (f (get_or xs i d))
    ∙ ap (λ l. first ++ l) (sym (joined_more f xs i d lt))

pub mapped_after : {X Y Z : Type 0} (f : X → Y) (xs : List X) (i : ℕ) (d : X) (g : Z → Y) (first : List Y) (old new : List Z) (z : Z) → i < length xs
    → map g old ≡ first ++ map f (take i xs) → new ≡ old ++ z ∷ [] → g z ≡ f (get_or xs i d) → map g new ≡ first ++ map f (take (i + 1) xs)
mapped_after f xs i d g first old new z lt before is one =
    ap (map g) is ∙ map-append g old (z ∷ [])
    ∙ (λ j. before j ++ one j ∷ [])
    ∙ append_assoc first (map f (take i xs)) (f (get_or xs i d) ∷ [])
    ∙ ap (λ l. first ++ l) (sym (map_more f xs i d lt))

-- the texts of the marks at an index
pub texts_at : {X : Type 0} (f : X → List Text) (marks : List (Vec Mark)) (xs : List X) (i : ℕ) (v : Vec Mark) (d : X) → i < length marks → i < length xs
    → map vec_texts marks ≡ map f xs → vec_texts (get_or marks i v) ≡ f (get_or xs i d)
texts_at f marks xs i v d below within are =
    sym (get_or-map vec_texts marks i v [] below) ∙ ap (λ l. get_or l i []) are ∙ get_or-map f xs i d [] within

-- ---- the keys of one more member, and the links by them

pub holders_joined : (keys_of : Contact → List Text) (ms : List Member) (i : ℕ) (d : Member) (old new : Holders) (found : List Text) → i < length ms
    → HoldersOf (flat_map (pairs_by keys_of) (take i ms)) old → found ≡ own_and keys_of (get_or ms i d)
    → ((pairs : List (Text × Contact)) → HoldersOf pairs old → HoldersOf (pairs ++ with_answer (answer_in (get_or ms i d)) found) new)
    → HoldersOf (flat_map (pairs_by keys_of) (take (i + 1) ms)) new
holders_joined keys_of ms i d old new found lt are is adds =
    subst (λ (l : List (Text × Contact)). HoldersOf l new)
    (ap (λ texts. flat_map (pairs_by keys_of) (take i ms) ++ with_answer (answer_in (get_or ms i d)) texts) is ∙ sym (joined_more (pairs_by keys_of) ms i d lt))
    (adds (flat_map (pairs_by keys_of) (take i ms)) are)

pub links_joined : (passes : Contact → Text → Bool) (keys_of : Contact → List Text) (ms : List Member) (i : ℕ) (d : Member) (first old new : List (Text × ℕ)) (found : List Text)
    → i < length ms → old ≡ first ++ flat_map (links_with passes keys_of) (take i ms) → found ≡ own_and keys_of (get_or ms i d)
    → new ≡ old ++ links_to (get_or ms i d).first (filter (passes (answer_in (get_or ms i d))) found)
    → new ≡ first ++ flat_map (links_with passes keys_of) (take (i + 1) ms)
links_joined passes keys_of ms i d first old new found lt before is more =
    joined_after (links_with passes keys_of) ms i d first old new lt before
    (more ∙ ap (λ texts. old ++ links_to (get_or ms i d).first (filter (passes (answer_in (get_or ms i d))) texts)) is)
