use Rattle.std.proofs.Common.{is_some, ap, ◌∙◌}
use Rattle.mailmap_entries.specs.Folding.{folded}
use Rattle.mailmap_entries.proofs.Parts.{is_some-option_map}
use Rattle.mailmap_redundancy.specs.Redundancy.{last_of_key, located_of_reference}
use Rattle.mailmap_redundancy.proofs.Giving.{effective_last}
use Rattle.mailmap_redundancy.proofs.effective.Effective.has_own_entry.Goals as goal

pub returns : goal.returns
returns c =
    c.is_some.ensures ∙ is_some-option_map located_of_reference c.last_of_key.result
    ∙ ap is_some (c.last_of_key.ensures.last ∙ ap (last_of_key c.args.self.now.kept) c.new.ensures)
    ∙ effective_last _ _ c.last_of_key.ensures.effective (folded c.args.email.now) (folded c.args.name.now)
