-- What is suggested for groups, one after another.
use Rattle.std.proofs.Common.{◌≡◌, ◌∙◌, ◌+◌, ◌<◌, ◌≤◌, ◌++◌, ℕ, List, [], ◌∷◌, ap, get_or, if◌then◌else◌, length, map, sym, take}
use Rattle.std.proofs.lemmas.List.{map-append, take_all}
use Rattle.std.proofs.lemmas.Simd.{map-map}
use Rattle.mailmap_contacts.specs.Contacts.{Tally}
use Rattle.mailmap_contacts.proofs.Steps.{mapped_more}
use Rattle.mailmap_entries.specs.Folding.{Text}
use Rattle.mailmap_suggestions.specs.Counted.{counted_answers, counted_git_answers}
use Rattle.mailmap_suggestions.specs.Forms.{Histories}
use Rattle.mailmap_suggestions.specs.GroupEntries.{are_cut, proper_answer}
use Rattle.mailmap_suggestions.specs.Links.{answers}
use Rattle.mailmap_suggestions.specs.Suggestions.{Kind, Suggestion, entries_for, suggestion}

-- one more
pub one_pushed : {X Y Z : Type 0} (f : X → Y) (g : Z → Y) (old new : List X) (x : X) (zs : List Z) (k : ℕ) (z : Z) → new ≡ old ++ x ∷ [] → map f old ≡ map g (take k zs)
    → f x ≡ g (get_or zs k z) → k < length zs → map f new ≡ map g (take (k + 1) zs)
one_pushed f g old new x zs k z is so_far one lt = ap (map f) is ∙ map-append f old (x ∷ []) ∙ (λ i. so_far i ++ one i ∷ []) ∙ sym (mapped_more g zs k z lt)

-- all of them
pub all_pushed : {X Y Z W : Type 0} (f : X → Y) (g : Z → W) (h : W → Y) (xs : List X) (zs : List Z) (k : ℕ) (ws : List W) → map f xs ≡ map (λ z. h (g z)) (take k zs) → length zs ≤ k
    → map g zs ≡ ws → map f xs ≡ map h ws
all_pushed f g h xs zs k ws so_far all are = so_far ∙ ap (map (λ z. h (g z))) (take_all k zs all) ∙ sym (map-map h g zs) ∙ ap (map h) are

-- from its parts
pub suggestion_made : (shared : List Text) (base h : Histories) (kind : Kind) (g : List Tally) (s : Suggestion) → s.kind ≡ kind → s.answers ≡ counted_answers h g
    → s.git_answers ≡ counted_git_answers h g → s.proper ≡ proper_answer shared h g → s.is_cut ≡ are_cut (entries_for kind shared base h g)
    → s.entries ≡ (if s.is_cut then [] else entries_for kind shared base h g) → s ≡ suggestion shared base h kind g
suggestion_made shared base h kind g s kind_is answers git_answers proper is_cut entries =
    let es : s.entries ≡ (if are_cut (entries_for kind shared base h g) then [] else entries_for kind shared base h g) = entries ∙ ap (λ b. if b then [] else entries_for kind shared base h g) is_cut in
    λ i. record {
      kind = kind_is i;
      answers = answers i;
      git_answers = git_answers i;
      proper = proper i;
      entries = es i;
      is_cut = is_cut i;
    }
