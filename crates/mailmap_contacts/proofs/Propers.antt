-- The proper one of some answers, and one more.
use Rattle.std.proofs.Common.{◌≡◌, ◌∙◌, ◌+◌, ◌<◌, ℕ, get_or, length, map, sym, take, Option, Some, List, [], ◌∷◌, ◌++◌, ap, refl}
use Rattle.mailmap_contacts.specs.Answers.{tally_of}
use Rattle.mailmap_contacts.specs.Contacts.{Tally}
use Rattle.mailmap_contacts.specs.Proper.{better, preferred, preferred_of, proper}
use Rattle.mailmap_contacts.proofs.Steps.{mapped_more}
use Rattle.mailmap_contacts.specs.declared.answers.Tally.{Tally as TheTally}

preferred-push : (best : Tally) (ts : List Tally) (t : Tally) → preferred_of best (ts ++ t ∷ []) ≡ preferred (preferred_of best ts) t
preferred-push best [] t = refl
preferred-push best (x ∷ ts) t = preferred-push (preferred best x) ts t

proper-push : (ts : List Tally) (t : Tally) → proper (ts ++ t ∷ []) ≡ Some (better (proper ts) t)
proper-push [] t = refl
proper-push (x ∷ ts) t = ap Some (preferred-push x ts t)

pub proper_more : (ts : List TheTally) (i : ℕ) (d : TheTally) (o : Option Tally) → i < length ts → o ≡ proper (map tally_of (take i ts))
    → Some (better o (tally_of (get_or ts i d))) ≡ proper (map tally_of (take (i + 1) ts))
proper_more ts i d o lt is = ap (λ o. Some (better o (tally_of (get_or ts i d)))) is
    ∙ sym (proper-push (map tally_of (take i ts)) (tally_of (get_or ts i d))) ∙ ap proper (sym (mapped_more tally_of ts i d lt))
