use Rattle.std.proofs.Common.{◌∙◌, ◌==◌, ap, length, sym}
use Rattle.std.proofs.lemmas.List.{length-map}
use Rattle.mailmap_suggestions.proofs.shared.SharedEmails.is_empty.Goals as goal

pub returns : goal.returns
returns c =
    c.is_empty.ensures ∙ ap (λ n. n == 0) (c.self.inside.listed.ok.0 ∙ sym (length-map c.self.inside.listed.items _))
    ∙ ap (λ l. length l == 0) c.self.view_is
