-- Lists of texts, and how emails are spelled in them.
use Rattle.std.proofs.Common.{◌≡◌, ◌∙◌, ◌++◌, ◌&&◌, ◌||◌, ℕ, suc, zero, Bool, true, false, cond, not, List, [], ◌∷◌, Option, None, Some, Bor, ap, append-nil, arith, bytes_eq, filter, inl, length, map, option_copied, refl, slice_get, subst, sym, unwrap_or, ⊎_elim}
use Rattle.std.specs.Prelude.{position}
use Rattle.std.specs.BTreeMap.{BTreeMap, get, is_at}
use Rattle.std.specs.BTreeSet.{BTreeSet, contains}
use Rattle.std.specs.Char.{to_ascii_lowercase}
use Rattle.std.specs.List.{AllByRecursion, list_all, list_any}
use Rattle.std.specs.Option.{option_or}
use Rattle.std.proofs.lemmas.Bool.{cases_Bool, not-false, or_left, or_right}
use Rattle.std.proofs.lemmas.Bool.Decides.{nat_tests}
use Rattle.std.proofs.lemmas.Cmp.{nat_list_eq_equiv}
use Rattle.std.proofs.lemmas.List.{length_push}
use Rattle.std.proofs.lemmas.List.Elements.{filter-append}
use Rattle.std.proofs.lemmas.List.Folds.{position_or_len_push}
use Rattle.std.proofs.lemmas.List.Sums.{prefix_len-le-length}
use Rattle.std.proofs.lemmas.Map.Text.{is_eq-slice_cmp}
use Rattle.mailmap_contacts.specs.Answers.{folded_cmp}
use Rattle.mailmap_contacts.specs.Folded.{folded_text}
use Rattle.mailmap_contacts.specs.declared.folded.Folded.{Folded}
use Rattle.mailmap_entries.specs.Folding.{Text, folded}
use Rattle.mailmap_entries.specs.Semantics.{first}
use Rattle.mailmap_entries.proofs.Parts.{all_weaker}
use Rattle.mailmap_suggestions.proofs.Distinct.{◌∈◌, all_of, same_bytes}

-- ---- lower case twice

lower_again : (c : ℕ) → to_ascii_lowercase (to_ascii_lowercase c) ≡ to_ascii_lowercase c
lower_again c = grind (arith, nat_tests)

pub folded_again : (s : Text) → folded (folded s) ≡ folded s
folded_again [] = refl
folded_again (c ∷ s) = λ i. lower_again c i ∷ folded_again s i

-- ---- tests of all elements

pub same_bools : (a b : Bool) → (a ≡ true → b ≡ true) → (b ≡ true → a ≡ true) → a ≡ b
same_bools true b f g = sym (f refl)
same_bools false true f g = g refl
same_bools false false f g = refl

pub any_filter : {X : Type 0} (p f : X → Bool) (xs : List X) → list_any f (filter p xs) ≡ list_any (λ x. p x && f x) xs
any_filter p f [] = refl
any_filter p f (x ∷ xs) = grind (arith, any_filter p f xs)

pub not_all : {X : Type 0} (f : X → Bool) (xs : List X) → not (list_all f xs) ≡ list_any (λ x. not (f x)) xs
not_all f [] = refl
not_all f (x ∷ xs) = grind (arith, not_all f xs)

all_none : {X : Type 0} (f : X → Bool) (xs : List X) → list_any f xs ≡ false → AllByRecursion (λ x. f x ≡ false) xs
all_none f [] none = tt
all_none f (x ∷ xs) none = grind (arith, all_none f xs)

none_all : {X : Type 0} (f : X → Bool) (xs : List X) → AllByRecursion (λ x. f x ≡ false) xs → list_any f xs ≡ false
none_all f [] all = refl
none_all f (x ∷ xs) all = grind (arith, all.0, none_all f xs all.1)

pub any_alike : {X : Type 0} (f g : X → Bool) (xs : List X) → AllByRecursion (λ x. f x ≡ g x) xs → list_any f xs ≡ list_any g xs
any_alike f g [] all = refl
any_alike f g (x ∷ xs) all = λ i. all.0 i || any_alike f g xs all.1 i

pub each_passes : {X : Type 0} (f : X → Bool) (xs : List X) → list_all f xs ≡ true → AllByRecursion (λ x. f x ≡ true) xs
each_passes f [] passes = tt
each_passes f (x ∷ xs) passes = grind (arith, each_passes f xs)

pub all_pass : {X : Type 0} (f : X → Bool) (xs : List X) → AllByRecursion (λ x. f x ≡ true) xs → list_all f xs ≡ true
all_pass f [] all = refl
all_pass f (x ∷ xs) all = grind (arith, all.0, all_pass f xs all.1)

in_any : {X : Type 0} (f : X → Bool) (xs : List X) (x : X) → x ∈ xs → f x ≡ true → list_any f xs ≡ true
in_any f [] x i is = absurd i
in_any f (y ∷ xs) x i is =
    ⊎_elim (λ same. or_left (f y) (list_any f xs) (ap f same ∙ is)) (λ later. or_right (f y) (list_any f xs) (in_any f xs x later is)) i

-- two functions that give one list agree on each element
pub each_alike : {X Y Z : Type 0} (f : X → Z) (v : X → Y) (g : Y → Z) (xs : List X) → map f xs ≡ map g (map v xs) → AllByRecursion (λ x. f x ≡ g (v x)) xs
each_alike f v g [] is = tt
each_alike f v g (x ∷ xs) is =
    let rest : map f xs ≡ map g (map v xs) = cc in
    (cc, each_alike f v g xs rest)

-- ---- one more element

any_push : {X : Type 0} (p : X → Bool) (xs : List X) (x : X) → list_any p (xs ++ x ∷ []) ≡ (list_any p xs || p x)
any_push p [] x = grind arith
any_push p (y ∷ xs) x = grind (arith, any_push p xs x)

pub each_push : {X : Type 0} (P : ℕ → X → Type 0) (xs : List X) (y : X) → ((i : ℕ) (x : X) → slice_get xs i ≡ Some x → P i x) → P (length xs) y
    → (i : ℕ) (x : X) → slice_get (xs ++ y ∷ []) i ≡ Some x → P i x
each_push P [] y all p zero x is = let same : y ≡ x = cc in subst (P 0) same p
each_push P [] y all p (suc i) x is = cc
each_push P (z ∷ xs) y all p zero x is = all 0 x is
each_push P (z ∷ xs) y all p (suc i) x is = each_push (λ j. P (suc j)) xs y (λ j w e. all (suc j) w e) p i x is

pub position_push : {X : Type 0} (p : X → Bool) (xs : List X) (y : X)
    → position p (xs ++ y ∷ []) ≡ option_or (position p xs) (cond (p y) (Some (length xs)) None)
position_push p xs y =
    grind (arith, nat_tests, prefix_len-le-length (λ x. not (p x)) xs, position_or_len_push p xs y, length_push xs y)

-- ---- spellings

-- those of an email, ASCII case aside
abbrev pub spellings_of : Text → List Text → List Text
spellings_of key es = filter (λ e. bytes_eq (folded e) key) es

-- whether some text differs from this one
abbrev pub is_unlike : Text → List Text → Bool
is_unlike x es = list_any (λ e. not (bytes_eq e x)) es

-- whether some text differs from the first
abbrev pub differ : List Text → Bool
differ [] = false
differ (x ∷ xs) = is_unlike x xs

-- if some texts differ, some differ from each of them
pub any_two : (xs : List Text) (x : Text) → x ∈ xs → list_any (λ m. is_unlike m xs) xs ≡ is_unlike x xs
any_two xs x i = ⊎_elim
    (λ some. in_any (λ m. is_unlike m xs) xs x i some ∙ sym some)
    (λ none. none_all (λ m. is_unlike m xs) xs (all_weaker xs (λ m like. ap (λ y. is_unlike y xs) (same_bytes m x (not-false (bytes_eq m x) like)) ∙ none)
    (all_none (λ e. not (bytes_eq e x)) xs none)) ∙ sym none)
    (cases_Bool (is_unlike x xs))

pub differ_any : (xs : List Text) → differ xs ≡ list_any (λ m. is_unlike m xs) xs
differ_any [] = refl
differ_any (x ∷ xs) = ap (λ b. not b || is_unlike x xs) (sym (nat_list_eq_equiv.refl x)) ∙ sym (any_two (x ∷ xs) x (inl refl))

-- those of one email
pub any_of_email : (key : Text) (es : List Text)
    → list_any (λ e. bytes_eq (folded e) key && list_any (λ b. bytes_eq (folded b) key && not (bytes_eq b e)) es) es
    ≡ list_any (λ m. is_unlike m (spellings_of key es)) (spellings_of key es)
any_of_email key es =
    any_alike (λ e. bytes_eq (folded e) key && list_any (λ b. bytes_eq (folded b) key && not (bytes_eq b e)) es)
    (λ e. bytes_eq (folded e) key && is_unlike e (spellings_of key es)) es
    (all_of _ (λ e. ap (λ b. bytes_eq (folded e) key && b) (sym (any_filter (λ b. bytes_eq (folded b) key) (λ b. not (bytes_eq b e)) es))) es)
    ∙ sym (any_filter (λ e. bytes_eq (folded e) key) (λ e. is_unlike e (spellings_of key es)) es)

-- ---- the first spellings

-- the first spelling of each email, and the emails that have others
pub record AreSpelled (emails : List Text) (spellings : BTreeMap Folded (Bor Text)) (respelled : BTreeSet Folded) : Type 0 where
  pub firsts : (key : Folded) → option_copied (get folded_cmp spellings key) ≡ first (spellings_of (folded_text key) emails)
  pub others : (key : Folded) → contains folded_cmp respelled key ≡ differ (spellings_of (folded_text key) emails)

first_push : (xs : List Text) (e : Text) → first (xs ++ e ∷ []) ≡ Some (unwrap_or (first xs) e)
first_push [] e = refl
first_push (x ∷ xs) e = refl

differ_push : (xs : List Text) (e : Text) → differ (xs ++ e ∷ []) ≡ (differ xs || not (bytes_eq e (unwrap_or (first xs) e)))
differ_push [] e = ap not (sym (nat_list_eq_equiv.refl e))
differ_push (x ∷ xs) e = any_push (λ d. not (bytes_eq d x)) xs e

spellings_push : (key e : Text) (es : List Text) → spellings_of key (es ++ e ∷ []) ≡ spellings_of key es ++ cond (bytes_eq (folded e) key) (e ∷ []) []
spellings_push key e es = filter-append (λ e. bytes_eq (folded e) key) es (e ∷ [])

pub unwrap_now : (o : Option (Bor Text)) (d : Bor Text) → (unwrap_or o d).now ≡ unwrap_or (option_copied o) d.now
unwrap_now None d = refl
unwrap_now (Some b) d = refl

module _ (emails : List Text) (e : Text) (key : Folded) (same : folded_text key ≡ folded e) (s : Text) (first_is : s ≡ unwrap_or (first (spellings_of (folded e) emails)) e) where
  is_here : (q : Folded) → is_at (folded_cmp key) q ≡ bytes_eq (folded e) (folded_text q)
  is_here q = is_eq-slice_cmp (folded_text key) (folded_text q) ∙ ap (λ k. bytes_eq k (folded_text q)) same

  pub firsts_more : (old new : BTreeMap Folded (Bor Text)) (b : Bor Text)
      → ((q : Folded) → option_copied (get folded_cmp old q) ≡ first (spellings_of (folded_text q) emails)) → b.now ≡ s
      → ((q : Folded) → get folded_cmp new q ≡ cond (is_at (folded_cmp key) q) (Some b) (get folded_cmp old q))
      → (q : Folded) → option_copied (get folded_cmp new q) ≡ first (spellings_of (folded_text q) (emails ++ e ∷ []))
  firsts_more old new b are now put q =
      ap option_copied (put q ∙ ap (λ t. cond t (Some b) (get folded_cmp old q)) (is_here q))
      ∙ by (bytes_eq (folded e) (folded_text q)) refl ∙ sym (ap first (spellings_push (folded_text q) e emails))
    where
      by : (t : Bool) → bytes_eq (folded e) (folded_text q) ≡ t
          → option_copied (cond t (Some b) (get folded_cmp old q)) ≡ first (spellings_of (folded_text q) emails ++ cond t (e ∷ []) [])
      by true is = ap (λ x. Some x) (now ∙ first_is ∙ ap (λ k. unwrap_or (first (spellings_of k emails)) e) (same_bytes (folded e) (folded_text q) is))
          ∙ sym (first_push (spellings_of (folded_text q) emails) e)
      by false is = are q ∙ ap first (sym (append-nil (spellings_of (folded_text q) emails)))

  pub others_more : (old new : BTreeSet Folded)
      → ((q : Folded) → contains folded_cmp old q ≡ differ (spellings_of (folded_text q) emails))
      → ((q : Folded) → contains folded_cmp new q ≡ (contains folded_cmp old q || (is_at (folded_cmp key) q && not (bytes_eq e s))))
      → (q : Folded) → contains folded_cmp new q ≡ differ (spellings_of (folded_text q) (emails ++ e ∷ []))
  others_more old new are put q =
      put q ∙ ap (λ t. contains folded_cmp old q || (t && not (bytes_eq e s))) (is_here q) ∙ ap (λ t. t || (bytes_eq (folded e) (folded_text q) && not (bytes_eq e s))) (are q)
      ∙ by (bytes_eq (folded e) (folded_text q)) refl ∙ sym (ap differ (spellings_push (folded_text q) e emails))
    where
      by : (t : Bool) → bytes_eq (folded e) (folded_text q) ≡ t
          → (differ (spellings_of (folded_text q) emails) || (t && not (bytes_eq e s))) ≡ differ (spellings_of (folded_text q) emails ++ cond t (e ∷ []) [])
      by true is = ap (λ x. differ (spellings_of (folded_text q) emails) || not (bytes_eq e x))
          (first_is ∙ ap (λ k. unwrap_or (first (spellings_of k emails)) e) (same_bytes (folded e) (folded_text q) is))
          ∙ sym (differ_push (spellings_of (folded_text q) emails) e)
      by false is = grind arith ∙ ap differ (sym (append-nil (spellings_of (folded_text q) emails)))
