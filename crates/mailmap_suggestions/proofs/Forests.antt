-- Classes as the code joins them: forests, and links sorted by their marks.
use Rattle.std.proofs.Common.{◌≡◌, ◌∙◌, ◌+◌, ◌-◌, ◌<◌, ◌≤◌, ℕ, zero, suc, List, [], ◌∷◌, ap, arith, get_or, set, take, ◌++◌, length, max, min, refl, subst, sym, ⊎_elim, false, Bool, Ordering, Less, Equal, Greater, true≢false}
use Rattle.std.specs.List.{Contains}
use Rattle.std.specs.List.Sorted.{IsPermutation, IsSortedBy}
use Rattle.std.specs.Ordering.{is_eq, is_lt, ordering_reverse}
use Rattle.std.proofs.lemmas.Bool.{cases_eq, cases_lt}
use Rattle.std.proofs.lemmas.Cmp.{nat_list_cmp_total}
use Rattle.std.proofs.lemmas.List.{get_or_default, get_or-map, take_at, get_or-set_other, get_or-set_same, length-map, length-set}
use Rattle.std.proofs.lemmas.List.Sorted.{Contains-permutation, IsPermutation-map, IsPermutation-sym, ranks_by, sorted_far}
use Rattle.std.proofs.lemmas.Map.Text.{is_eq-slice_cmp}
use Rattle.std.proofs.lemmas.Slice.Eq.{bytes_eq-Decides}
use Rattle.mailmap_contacts.proofs.Steps.{sorted_mapped}
use Rattle.mailmap_entries.specs.Folding.{Text, text_cmp}
use Rattle.mailmap_suggestions.specs.Classes.{AgreesOn, AreClasses}
use Rattle.mailmap_suggestions.specs.Forests.{AgreesAlong, AgreesBelow, IsForest, IsRoot, IsJoined, Joins, KeepsClasses, link_at, link_of, links_of}
use Rattle.mailmap_suggestions.specs.declared.classes.Link.{Link}

-- ==== forests

-- what is true of the new parent, and of all others
pub set_each : (P : ℕ → ℕ → Type 0) (p : List ℕ) (i v : ℕ) → i < length p → P i v → ((k : ℕ) → (k ≡ i → ⊥) → P k (get_or p k 0))
    → (k : ℕ) → P k (get_or (set p i v) k 0)
set_each P p i v lt here there k = ⊎_elim
    (λ e. subst (λ j. P j (get_or (set p i v) j 0)) (sym e) (subst (P i) (sym (get_or-set_same p i v 0 lt)) here))
    (λ ne. subst (P k) (sym (get_or-set_other p i k v 0 ne)) (there k ne))
    (cases_eq k i)

-- as before the write
unset : (p : List ℕ) (i v : ℕ) (f : ℕ → ℕ) → AgreesAlong (set p i v) f → (k : ℕ) → (k ≡ i → ⊥) → k < length p → f (get_or p k 0) ≡ f k
unset p i v f along k ne lt =
    ap f (sym (get_or-set_other p i k v 0 ne)) ∙ along k (subst (λ n. k < n) (sym (length-set p i v)) lt)

at_set : (p : List ℕ) (i v : ℕ) (f : ℕ → ℕ) → AgreesAlong (set p i v) f → i < length p → f v ≡ f i
at_set p i v f along lt = ap f (sym (get_or-set_same p i v 0 lt)) ∙ along i (subst (λ n. i < n) (sym (length-set p i v)) lt)

pub keeps_refl : (p : List ℕ) → IsForest p → KeepsClasses p p
keeps_refl p forest = record { length = refl; forest = forest; roots = λ i root. root; same = λ f. (λ h. h, λ h. h) }

pub keeps_trans : (p q r : List ℕ) → KeepsClasses p q → KeepsClasses q r → KeepsClasses p r
keeps_trans p q r a b = record {
  length = b.length ∙ a.length;
  forest = b.forest;
  roots = λ i root. b.roots i (a.roots i root);
  same = λ f. (λ h. (a.same f).0 ((b.same f).0 h), λ h. (b.same f).1 ((a.same f).1 h));
}

-- the write of a grandparent
unhalved : (p : List ℕ) (i : ℕ) (f : ℕ → ℕ) → i < length p → get_or p i 0 < length p
    → AgreesAlong (set p i (get_or p (get_or p i 0) 0)) f → AgreesAlong p f
unhalved p i f lt parent along k below =
    let up : f (get_or p (get_or p i 0) 0) ≡ f i = at_set p i (get_or p (get_or p i 0) 0) f along lt in
    ⊎_elim
    (λ e. subst (λ j. f (get_or p j 0) ≡ f j) (sym e) (⊎_elim (λ e. ap f e)
    (λ ne. sym (unset p i (get_or p (get_or p i 0) 0) f along (get_or p i 0) ne parent) ∙ up) (cases_eq (get_or p i 0) i)))
    (λ ne. unset p i (get_or p (get_or p i 0) 0) f along k ne below)
    (cases_eq k i)

pub halved : (p : List ℕ) (i : ℕ) → IsForest p → i < length p → KeepsClasses p (set p i (get_or p (get_or p i 0) 0))
halved p i forest lt =
    let up : get_or p i 0 ≤ i = forest i lt in
    let parent : get_or p i 0 < length p = omega arith in
    let twice : get_or p (get_or p i 0) 0 ≤ get_or p i 0 = forest (get_or p i 0) parent in
    let is : length (set p i (get_or p (get_or p i 0) 0)) ≡ length p = length-set p i (get_or p (get_or p i 0) 0) in
    record {
      length = is;
      forest = λ k below. set_each (λ k v. k < length p → v ≤ k) p i (get_or p (get_or p i 0) 0) lt (λ _. omega arith) (λ k _ below. forest k below) k (subst (λ n. k < n) is below);
      roots = λ k root. set_each (λ k v. IsRoot p k → v ≡ k) p i (get_or p (get_or p i 0) 0) lt (λ root. ap (λ j. get_or p j 0) root ∙ root) (λ k _ root. root) k root;
      same = λ f. (
        λ along. unhalved p i f lt parent along,
        λ along k below. set_each (λ k v. k < length p → f v ≡ f k) p i (get_or p (get_or p i 0) 0) lt (λ _. along (get_or p i 0) parent ∙ along i lt) (λ k _ below. along k below) k (subst (λ n. k < n) is below),
      );
    }

-- what holds below an index holds at it, too, once its item has its grandparent for a parent
pub flat_more : (p : List ℕ) (i : ℕ) → IsForest p → i < length p → ((k : ℕ) → k < i → IsRoot p (get_or p k 0))
    → (k : ℕ) → k < i + 1 → IsRoot (set p i (get_or p (get_or p i 0) 0)) (get_or (set p i (get_or p (get_or p i 0) 0)) k 0)
flat_more p i forest lt flat k below =
    let keeps = halved p i forest lt in
    let up : get_or p i 0 ≤ i = forest i lt in
    let root : IsRoot p (get_or p (get_or p i 0) 0) = ⊎_elim (λ e. ap (λ j. get_or p j 0) (ap (λ j. get_or p j 0) e))
    (λ ne. flat (get_or p i 0) (omega arith)) (cases_eq (get_or p i 0) i) in
    set_each (λ k v. k < i + 1 → IsRoot (set p i (get_or p (get_or p i 0) 0)) v) p i (get_or p (get_or p i 0) 0) lt
    (λ _. keeps.roots (get_or p (get_or p i 0) 0) root) (λ k ne below. keeps.roots (get_or p k 0) (flat k (omega arith))) k below

-- ---- two classes become one

pub joined_at : (p : List ℕ) (a b : ℕ) → IsForest p → a < length p → IsRoot p a → b ≤ a → Joins p a b (set p a b)
joined_at p a b forest lt root le =
    let is : length (set p a b) ≡ length p = length-set p a b in
    record {
      length = is;
      forest = λ k below. set_each (λ k v. k < length p → v ≤ k) p a b lt (λ _. le) (λ k _ below. forest k below) k (subst (λ n. k < n) is below);
      both = λ f. (
        λ along. (λ k below. ⊎_elim (λ e. subst (λ j. f (get_or p j 0) ≡ f j) (sym e) (ap f root)) (λ ne. unset p a b f along k ne below) (cases_eq k a), sym (at_set p a b f along lt)),
        λ (h : AgreesAlong p f × (f a ≡ f b)) k below. set_each (λ k v. k < length p → f v ≡ f k) p a b lt (λ _. sym h.1) (λ k _ below. h.0 k below) k (subst (λ n. k < n) is below),
      );
    }

pub joins_swapped : (p : List ℕ) (a b : ℕ) (q : List ℕ) → Joins p b a q → Joins p a b q
joins_swapped p a b q j = record {
  length = j.length;
  forest = j.forest;
  both = λ f. (λ along. (((j.both f).0 along).0, sym ((j.both f).0 along).1), λ (h : AgreesAlong p f × (f a ≡ f b)). (j.both f).1 (h.0, sym h.1));
}

-- the greater root gets the smaller one for its parent
pub joins_max : (p : List ℕ) (x y : ℕ) → IsForest p → x < length p → y < length p → IsRoot p x → IsRoot p y → Joins p x y (set p (max x y) (min x y))
joins_max p x y forest x_below y_below x_root y_root = ⊎_elim
    (λ lt. let high : max x y ≡ y = omega arith in
    let low : min x y ≡ x = omega arith in
    subst (λ k. Joins p x y (set p k (min x y))) (sym high) (subst (λ k. Joins p x y (set p y k)) (sym low)
    (joins_swapped p x y (set p y x) (joined_at p y x forest y_below y_root (omega arith)))))
    (λ le. let high : max x y ≡ x = omega arith in
    let low : min x y ≡ y = omega arith in
    subst (λ k. Joins p x y (set p k (min x y))) (sym high) (subst (λ k. Joins p x y (set p x k)) (sym low)
    (joined_at p x y forest x_below x_root le)))
    (cases_lt x y)

-- those of two items, whose roots were found one after the other
pub joins_roots : (p q r s : List ℕ) (a b x y : ℕ) → KeepsClasses p q → KeepsClasses q r → ((f : ℕ → ℕ) → AgreesAlong q f → f x ≡ f a)
    → ((f : ℕ → ℕ) → AgreesAlong r f → f y ≡ f b) → Joins r x y s → Joins p a b s
joins_roots p q r s a b x y first second at_a at_b j = record {
  length = j.length ∙ second.length ∙ first.length;
  forest = j.forest;
  both = λ f. (
    λ along. let h : AgreesAlong r f × (f x ≡ f y) = (j.both f).0 along in
        let back : AgreesAlong q f = (second.same f).0 h.0 in
        ((first.same f).0 back, sym (at_a f back) ∙ h.1 ∙ at_b f h.0),
    λ (h : AgreesAlong p f × (f a ≡ f b)). let on : AgreesAlong q f = (first.same f).1 h.0 in
        let to : AgreesAlong r f = (second.same f).1 on in
        (j.both f).1 (to, at_a f on ∙ h.1 ∙ sym (at_b f to)),
  );
}

-- ==== links sorted by their marks

abbrev before : Text × ℕ → Text × ℕ → Bool
before x y = is_lt (text_cmp x.0 y.0)

neither : (a b : Text) → is_lt (text_cmp a b) ≡ false → is_lt (text_cmp b a) ≡ false → a ≡ b
neither a b p q = by (text_cmp a b) refl p
  where
    by : (r : Ordering) → text_cmp a b ≡ r → is_lt r ≡ false → a ≡ b
    by Less e n = absurd (true≢false n)
    by Equal e n = (bytes_eq-Decides a b).0 (sym (is_eq-slice_cmp a b) ∙ ap is_eq e)
    by Greater e n = absurd (true≢false (sym (ap is_lt (nat_list_cmp_total.antisymm b a ∙ ap ordering_reverse e)) ∙ q))

-- one between two with one mark has it, too
pub between : (links : List (Text × ℕ)) → IsSortedBy before links → (i k j : ℕ) → i ≤ k → k ≤ j → j < length links
    → (link_at links i).0 ≡ (link_at links j).0 → (link_at links i).0 ≡ (link_at links k).0
between links up i k j ik kj lt e =
    let far = sorted_far before (ranks_by nat_list_cmp_total (λ (x : Text × ℕ). x.0)) links up in
    neither (link_at links i).0 (link_at links k).0
    (subst (λ m. is_lt (text_cmp m (link_at links k).0) ≡ false) (sym e) (far k j ([], 0) kj lt))
    (far i k ([], 0) ik (omega arith))

-- what is the same for neighbours with one mark is the same for all with it
along_marks : (links : List (Text × ℕ)) → IsSortedBy before links → (f : ℕ → ℕ) → AgreesBelow links (length links) f → (i n : ℕ) → i + n < length links
    → (link_at links i).0 ≡ (link_at links (i + n)).0 → f (link_at links i).1 ≡ f (link_at links (i + n)).1
along_marks links up f same i zero lt e = ap (λ k. f (link_at links k).1) (omega arith)
along_marks links up f same i (suc n) lt e =
    let next : i + suc n ≡ i + n + 1 = omega arith in
    let to : (link_at links i).0 ≡ (link_at links (i + n + 1)).0 = e ∙ ap (λ k. (link_at links k).0) next in
    let mid : (link_at links i).0 ≡ (link_at links (i + n)).0 = between links up i (i + n) (i + n + 1) (omega arith) (omega arith) (omega arith) to in
    along_marks links up f same i n (omega arith) mid ∙ same (i + n) (omega arith) (sym mid ∙ to) ∙ ap (λ k. f (link_at links k).1) (sym next)

at_both : (links : List (Text × ℕ)) → IsSortedBy before links → (f : ℕ → ℕ) → AgreesBelow links (length links) f → (i j : ℕ) → i ≤ j → j < length links
    → (link_at links i).0 ≡ (link_at links j).0 → f (link_at links i).1 ≡ f (link_at links j).1
at_both links up f same i j le lt e =
    let is : j ≡ i + (j - i) = omega arith in
    let along = along_marks links up f same i (j - i) (omega arith) in
    along (e ∙ ap (λ k. (link_at links k).0) is) ∙ ap (λ k. f (link_at links k).1) (sym is)

-- ---- neighbours are joined one after the other

-- the link at an index, as it is read
pub link_read : (links : List Link) (k : ℕ) (link : Link) → k < length links → link ≡ get_or links k link → link_at (links_of links) k ≡ link_of link
link_read links k link lt is = get_or-map link_of links k link ([], 0) lt ∙ ap link_of (sym is)

pub none_joined : (start : List ℕ) (links : List (Text × ℕ)) → IsJoined start start links 1
none_joined start links f = (λ along. (along, λ k lt. absurd (omega (arith, lt))), λ (h : AgreesAlong start f × AgreesBelow links 1 f). h.0)

abbrev IsSame : List (Text × ℕ) → (ℕ → ℕ) → ℕ → ℕ → Type 0
IsSame links f j k = (link_at links j).0 ≡ (link_at links k).0 → f (link_at links j).1 ≡ f (link_at links k).1

below_more : (links : List (Text × ℕ)) (n : ℕ) (f : ℕ → ℕ) → 0 < n → AgreesBelow links n f → IsSame links f (n - 1) n → AgreesBelow links (n + 1) f
below_more links n f some below next k lt = ⊎_elim
    (λ e. let after : k + 1 ≡ n = omega (arith, e) in
    subst (λ j. IsSame links f j (k + 1)) (sym e) (subst (IsSame links f (n - 1)) (sym after) next))
    (λ ne. below k (omega (arith, lt)))
    (cases_eq k (n - 1))

last_of : (links : List (Text × ℕ)) (n : ℕ) (f : ℕ → ℕ) → 0 < n → AgreesBelow links (n + 1) f → IsSame links f (n - 1) n
last_of links n f some below = let is : n - 1 + 1 ≡ n = omega arith in subst (IsSame links f (n - 1)) is (below (n - 1) (omega arith))

pub neighbours_joined : (start p q : List ℕ) (links : List (Text × ℕ)) (n a b : ℕ) → 0 < n → IsJoined start p links n
    → (link_at links (n - 1)).0 ≡ (link_at links n).0 → a ≡ (link_at links (n - 1)).1 → b ≡ (link_at links n).1 → Joins p a b q → IsJoined start q links (n + 1)
neighbours_joined start p q links n a b some are same a_is b_is j f = (
  λ along. let h : AgreesAlong p f × (f a ≡ f b) = (j.both f).0 along in
      let before : AgreesAlong start f × AgreesBelow links n f = (are f).0 h.0 in
      (before.0, below_more links n f some before.1 (λ _. ap f (sym a_is) ∙ h.1 ∙ ap f b_is)),
  λ (h : AgreesAlong start f × AgreesBelow links (n + 1) f).
      (j.both f).1 ((are f).1 (h.0, λ k lt. h.1 k (omega (arith, lt))), ap f a_is ∙ last_of links n f some h.1 same ∙ ap f (sym b_is)),
)

pub neighbours_apart : (start p : List ℕ) (links : List (Text × ℕ)) (n : ℕ) → 0 < n → IsJoined start p links n
    → ((link_at links (n - 1)).0 ≡ (link_at links n).0 → ⊥) → IsJoined start p links (n + 1)
neighbours_apart start p links n some are other f = (
  λ along. let before : AgreesAlong start f × AgreesBelow links n f = (are f).0 along in
      (before.0, below_more links n f some before.1 (λ same. absurd (other same))),
  λ (h : AgreesAlong start f × AgreesBelow links (n + 1) f). (are f).1 (h.0, λ k lt. h.1 k (omega (arith, lt))),
)

pub all_joined : (start p : List ℕ) (links : List (Text × ℕ)) (n count : ℕ) → count ≤ n → n ≤ max 1 count → IsJoined start p links n → IsJoined start p links count
all_joined start p links n count le most are f = (
  λ along. (((are f).0 along).0, λ k lt. ((are f).0 along).1 k (omega (arith, lt))),
  λ (h : AgreesAlong start f × AgreesBelow links count f). (are f).1 (h.0, λ k lt. h.1 k (omega (arith, lt))),
)

-- ---- from neighbours to all

contains_at : (links : List (Text × ℕ)) (k : ℕ) → k < length links → Contains links (link_at links k)
contains_at links k lt = (k, lt, get_or_default links k (link_at links k) ([], 0) lt)

agrees_from_below : (links : List (Text × ℕ)) → IsSortedBy before links → (f : ℕ → ℕ) → AgreesBelow links (length links) f → AgreesOn links f
agrees_from_below links up f below mark i j (m, m_lt, m_is) (n, n_lt, n_is) =
    let first : link_at links m ≡ (mark, i) = get_or_default links m ([], 0) (mark, i) m_lt ∙ m_is in
    let second : link_at links n ≡ (mark, j) = get_or_default links n ([], 0) (mark, j) n_lt ∙ n_is in
    let marks : (link_at links m).0 ≡ (link_at links n).0 = ap (λ (l : Text × ℕ). l.0) first ∙ sym (ap (λ (l : Text × ℕ). l.0) second) in
    let same : f (link_at links m).1 ≡ f (link_at links n).1 = ⊎_elim (λ lt. at_both links up f below m n (omega arith) n_lt marks)
    (λ le. sym (at_both links up f below n m le m_lt (sym marks))) (cases_lt m n) in
    sym (ap (λ (l : Text × ℕ). f l.1) first) ∙ same ∙ ap (λ (l : Text × ℕ). f l.1) second

below_from_agrees : (links : List (Text × ℕ)) (f : ℕ → ℕ) → AgreesOn links f → AgreesBelow links (length links) f
below_from_agrees links f agrees k lt e =
    agrees (link_at links k).0 (link_at links k).1 (link_at links (k + 1)).1 (contains_at links k (omega arith))
    (subst (λ m. Contains links (m, (link_at links (k + 1)).1)) (sym e) (contains_at links (k + 1) lt))

moved : (links sorted : List (Text × ℕ)) (f : ℕ → ℕ) → IsPermutation links sorted → AgreesOn sorted f → AgreesOn links f
moved links sorted f is agrees mark i j a b =
    agrees mark i j (Contains-permutation links sorted (mark, i) is a) (Contains-permutation links sorted (mark, j) is b)

sorted_links : (links : List Link) → IsSortedBy (λ a b. is_lt (text_cmp a.mark.text.items b.mark.text.items)) links → IsSortedBy before (links_of links)
sorted_links [] up = λ k d le lt. absurd (omega (arith, lt))
sorted_links (l ∷ ls) up = sorted_mapped link_of (λ (x : Text × ℕ). x.0) text_cmp (l ∷ ls) l up

pub are_classes : (links sorted : List Link) (start p q : List ℕ) → ((i : ℕ) → i < length start → IsRoot start i) → IsPermutation links sorted
    → IsSortedBy (λ a b. is_lt (text_cmp a.mark.text.items b.mark.text.items)) sorted → IsJoined start p (links_of sorted) (length sorted) → length p ≡ length start
    → KeepsClasses p q → ((i : ℕ) → i < length q → IsRoot q (get_or q i 0)) → AreClasses (length start) (links_of links) q
are_classes links sorted start p q alone is up joined p_is keeps flat =
    let perm = IsPermutation-map link_of links sorted is in
    let ls = links_of sorted in
    let count : length ls ≡ length sorted = length-map sorted link_of in
    let q_is : length q ≡ length start = keeps.length ∙ p_is in
    let always : (f : ℕ → ℕ) → AgreesAlong start f = λ f i lt. ap f (alone i lt) in
    let on : (i : ℕ) → i < length start → i < length q = λ i lt. subst (λ n. i < n) (sym q_is) lt in
    let from : (f : ℕ → ℕ) → AgreesOn (links_of links) f → AgreesAlong q f = λ f agrees. (keeps.same f).1 ((joined f).1 (
      always f,
      subst (λ n. AgreesBelow ls n f) count (below_from_agrees ls f (moved ls (links_of links) f (IsPermutation-sym (links_of links) ls perm) agrees)),
    )) in
    let mine : AgreesAlong p (λ i. get_or q i 0) = (keeps.same (λ i. get_or q i 0)).0 flat in
    let below : AgreesBelow ls (length sorted) (λ i. get_or q i 0) = ((joined (λ i. get_or q i 0)).0 mine).1 in
    record {
      length = q_is;
      joined = moved (links_of links) ls (λ i. get_or q i 0) perm (agrees_from_below ls (sorted_links sorted up) (λ i. get_or q i 0)
          (subst (λ n. AgreesBelow ls n (λ i. get_or q i 0)) (sym count) below));
      finest = λ f agrees i j i_lt j_lt e. sym (from f agrees i (on i i_lt)) ∙ ap f e ∙ from f agrees j (on j j_lt);
      least = λ i lt. keeps.forest i (on i lt);
      named = λ i lt. flat i (on i lt);
    }

-- as the code has them, in a `Vec` that was borrowed
pub borrowed : (n count : ℕ) (links : List (Text × ℕ)) (classes rest : List ℕ) → length classes ≡ n → AreClasses count links classes
    → AreClasses count links (take n (classes ++ rest))
borrowed n count links classes rest is are = subst (AreClasses count links) (sym (take_at classes rest n is)) are
