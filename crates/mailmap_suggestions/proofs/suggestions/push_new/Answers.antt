use Rattle.std.proofs.Common.{◌∙◌, ◌++◌, ◌∷◌, [], ap, append_assoc, flat_map, map, sym}
use Rattle.std.proofs.lemmas.List.{map-append}
use Rattle.mailmap_contacts.proofs.Steps.{made_more}
use Rattle.mailmap_suggestions.specs.Suggestions.{still_suggested}
use Rattle.mailmap_suggestions.specs.Views.{suggestion_of}
use Rattle.mailmap_suggestions.proofs.suggestions.push_new.Goals as goal

pub loop-suggestion-preserved : goal.loop-suggestion-preserved
loop-suggestion-preserved c = λ lines are.
    let begun = map suggestion_of c.args.found.now.items in
    let done = c.loop-suggestion.yielded in
    let still = still_suggested lines in
    let s = c.in-Some.suggestion in
    c.in_ok-push_listed.ensures ∙ (λ i. c.loop-suggestion.invariant lines are i ++ c.in_ok-listed.ensures lines are i)
    ∙ append_assoc begun (flat_map still (map suggestion_of done)) (still (suggestion_of s))
    ∙ ap (λ l. begun ++ l) (sym (made_more still (map suggestion_of done) (map suggestion_of (done ++ s ∷ [])) (suggestion_of s) (map-append suggestion_of done (s ∷ []))))
