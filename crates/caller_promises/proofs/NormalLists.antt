-- What follows from the laws of normal lists.
use Rattle.std.proofs.Common.{◌≡◌, ◌≤◌, ◌∙◌, Bool, Err, Ok, Result, true, List, [], filter, length, sym, subst, ap, arith}
use Rattle.std.specs.Prelude.{◌↔◌, OnErr, OnOk}
use Rattle.std.specs.Ordering.{eq_by_cmp}
use Rattle.std.proofs.lemmas.List.{nil_from_length}
use Rattle.gix_mailmap.specs.Entries.{Mapping}
use Rattle.gix_mailmap.specs.Folding.{Text, folded, text_cmp}
use Rattle.gix_mailmap.specs.Semantics.{IsNormal, accepted, of_email}

-- a list without an accepted entry has an empty normal list, by the laws of reordering and of the shortest list
pub nothing_listed : ((h g n : List Mapping) → ((email : Text) → of_email h email ≡ of_email g email) → IsNormal h n ↔ IsNormal g n)
    → ((l n : List Mapping) → IsNormal l n → length n ≤ length l) → (h n : List Mapping) → accepted h ≡ [] → IsNormal h n → n ≡ []
nothing_listed reorder shortest h n none d =
    nil_from_length n (omega (arith, shortest [] n ((reorder h [] n (λ email. ap (filter (λ e. eq_by_cmp text_cmp email (folded e.old_email))) none)).0 d)))

-- two listings are equal exactly if the lists that they are made from have the same normal lists
pub equal_exactly : ((h n m : List Mapping) → IsNormal h n → IsNormal h m → n ≡ m) → (h g n m : List Mapping) → IsNormal h n → IsNormal g m → {r : Bool} → (r ≡ true) ↔ (n ≡ m)
    → (r ≡ true) ↔ ((x : List Mapping) → IsNormal h x ↔ IsNormal g x)
equal_exactly unique h g n m ours theirs is = (
  λ yes x. (λ d. subst (IsNormal g) (sym (is.0 yes) ∙ unique h n x ours d) theirs, λ d. subst (IsNormal h) (is.0 yes ∙ unique g m x theirs d) ours),
  λ same. is.1 (unique g n m ((same n).0 ours) theirs),
)

-- what holds after success and after an error
pub either_way : {T E : Type 0} (r : Result T E) (P : Type 0) → OnOk r P → OnErr r P → P
either_way (Ok value) P ok err = ok
either_way (Err error) P ok err = err
