use Rattle.std.proofs.Common.{◌∙◌, ap, map}
use Rattle.std.proofs.lemmas.Result.{IfOk-weaker}
use Rattle.mailmap_suggestions.specs.Shared as spec
use Rattle.mailmap_suggestions.proofs.shared.is_of_several.Goals as goal

pub returns : goal.returns
returns c = IfOk-weaker c.are_several.result _ _
    (λ several is. is ∙ ap (λ l. spec.are_several (map (λ n. n.now) l)) c.as_slice.ensures.value ∙ ap spec.are_several c.in_ok-names.ensures)
    c.are_several.ensures
