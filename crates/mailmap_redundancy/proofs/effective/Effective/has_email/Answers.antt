use Rattle.std.proofs.Common.{is_some, ap, ◌∙◌}
use Rattle.mailmap_entries.specs.Folding.{folded}
use Rattle.mailmap_entries.proofs.Parts.{is_some-option_map}
use Rattle.mailmap_redundancy.specs.Redundancy.{located_of_reference}
use Rattle.mailmap_redundancy.proofs.Giving.{effective_first}
use Rattle.mailmap_redundancy.proofs.effective.Effective.has_email.Goals as goal

pub returns : goal.returns
returns c =
    c.is_some.ensures ∙ is_some-option_map located_of_reference c.summary.result.of_email.first
    ∙ ap (λ s. is_some s.spelling) c.summary.ensures.summary ∙ effective_first _ _ c.summary.ensures.effective (folded c.args.email.now)
