-- The parts of an answer are shown one after another.
use Rattle.std.proofs.Common.{◌≡◌, [], ◌∷◌, ◌++◌, ap, append-nil, append_assoc, false, refl, sym, ◌∙◌}
use Rattle.mailmap_snapshot.specs.Folding.{Text}
use Rattle.shown_text.specs.Shown.{shown}
use Rattle.shown_text.proofs.Escapes.{nothing_shown, plain, shown_parted}

-- an email in brackets after a space
email_shown : (name email : Text) → shown ((name ++ 32 ∷ 60 ∷ email) ++ 62 ∷ []) ≡ (shown name ++ 32 ∷ 60 ∷ shown email) ++ 62 ∷ []
email_shown name email =
    let none = nothing_shown false false in
    shown_parted (name ++ 32 ∷ 60 ∷ email) 62 [] refl refl ∙ ap (λ t. shown (name ++ 32 ∷ 60 ∷ email) ++ 62 ∷ t) none
    ∙ ap (λ t. t ++ 62 ∷ []) (shown_parted name 32 (60 ∷ email) refl refl
    ∙ ap (λ t. shown name ++ 32 ∷ t) (shown_parted [] 60 email refl refl ∙ ap (λ t. t ++ 60 ∷ shown email) none))

pub shown_parts : (name email : Text) → shown name ++ (shown (32 ∷ 60 ∷ []) ++ (shown email ++ (shown (62 ∷ []) ++ []))) ≡ shown ((name ++ 32 ∷ 60 ∷ email) ++ 62 ∷ [])
shown_parts name email =
    (λ i. shown name ++ (plain (32 ∷ 60 ∷ []) refl i ++ (shown email ++ (plain (62 ∷ []) refl i ++ []))))
    ∙ sym (append_assoc (shown name) (32 ∷ 60 ∷ shown email) (62 ∷ [])) ∙ sym (email_shown name email)

pub shown_alone : (name : Text) → shown name ++ (shown [] ++ (shown [] ++ (shown [] ++ []))) ≡ shown name
shown_alone name =
    let none = nothing_shown false false in
    (λ i. shown name ++ (none i ++ (none i ++ (none i ++ [])))) ∙ append-nil (shown name)
