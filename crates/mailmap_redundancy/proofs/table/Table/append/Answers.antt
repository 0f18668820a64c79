use Rattle.std.proofs.Common.{[], ◌∷◌, ◌++◌, ap₂, inl, refl, sym, ◌∙◌}
use Rattle.mailmap_redundancy.specs.Summaries.{joined_summary, located_mapping_of}
use Rattle.mailmap_redundancy.proofs.Rows.{summary_after}
use Rattle.mailmap_redundancy.proofs.table.Table.append.Goals as goal

pub returns : goal.returns
returns c = λ keys xs up n t.
    let x = located_mapping_of c.args.x.now in
    c.put.ensures keys xs (xs ++ x ∷ []) up n t (inl refl)
    (c.then-summary.ensures ∙ ap₂ joined_summary (c.summary.ensures keys xs n t) c.of.ensures ∙ sym (summary_after xs x))
