use Rattle.std.proofs.Common.{◌∷◌, ap₂, inr, refl, sym, ◌∙◌}
use Rattle.mailmap_redundancy.specs.Summaries.{joined_summary, located_mapping_of}
use Rattle.mailmap_redundancy.proofs.Rows.{summary_before}
use Rattle.mailmap_redundancy.proofs.table.Table.prepend.Goals as goal

pub returns : goal.returns
returns c = λ keys xs up n t.
    let x = located_mapping_of c.args.x.now in
    c.put.ensures keys xs (x ∷ xs) up n t (inr refl)
    (c.then-summary.ensures ∙ ap₂ joined_summary c.of.ensures (c.summary.ensures keys xs n t) ∙ sym (summary_before xs x))
