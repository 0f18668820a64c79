use Rattle.std.proofs.Common.{ap, ◌∙◌}
use Rattle.mailmap_redundancy.specs.Summaries.{first_of, key_summary_of}
use Rattle.mailmap_redundancy.proofs.table.Table.summary.Goals as goal

pub returns : goal.returns
returns c = λ keys xs n t.
    let owned = ap key_summary_of c.index.ensures ∙ (t.of_keys _ _ n.own).1 c.index.result.now in
    let spelled = ap first_of c.index-2.ensures ∙ (t.of_emails _ _ n.of_email).1 c.index-2.result.now in
    λ i. record { of_key = owned i; spelling = spelled i }
