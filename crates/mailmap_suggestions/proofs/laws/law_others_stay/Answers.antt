use Rattle.std.proofs.Common.{◌++◌, ◌∷◌, [], ap, is_some, sym, true≢false, ◌∙◌}
use Rattle.mailmap_suggestions.proofs.Appended.{no_own, other_unreached, owned_unreached, parts_answer, parts_stay, spelling_stays}
use Rattle.mailmap_suggestions.proofs.laws.law_others_stay.Goals as goal

pub returns : goal.returns
returns c = record {
  named = λ h x c named other spells. parts_answer c (h ++ x ∷ []) h (parts_stay h c (x ∷ [])
      (spelling_stays h (x ∷ []) c (λ none. ((λ same. absurd (true≢false (sym (spells same) ∙ ap is_some none))), tt))) (other_unreached h c x named other));
  plain = λ h x c unnamed owns. parts_answer c (h ++ x ∷ []) h (parts_stay h c (x ∷ [])
      (spelling_stays h (x ∷ []) c (λ none. ((λ same. absurd (true≢false (sym (owns same) ∙ ap is_some (no_own h c none)))), tt))) (owned_unreached h c x unnamed owns));
}
