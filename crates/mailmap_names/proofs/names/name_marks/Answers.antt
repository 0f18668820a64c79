use Rattle.std.proofs.Common.{◌∙◌, ◌∷◌, ap, sym}
use Rattle.mailmap_entries.specs.Folding.{folded}
use Rattle.mailmap_entries.specs.Texts.{texts}
use Rattle.mailmap_names.proofs.Marks.{marks_none, marks_some}
use Rattle.mailmap_names.proofs.names.name_marks.Goals as goal

pub returns-then-is_empty : goal.returns-then-is_empty
returns-then-is_empty c = ap texts c.new.ensures.items ∙ marks_none c.args.name.now (sym c.is_empty.ensures ∙ c.if-is_empty.true)

pub returns : goal.returns
returns c =
    let name = c.args.name.now in
    ap texts c.in_ok-insert.ensures.items ∙ ap (λ t. t ∷ texts c.in_ok-marks.marks.items) c.in_ok-name_mark.ensures
    ∙ ap (λ ks. (110 ∷ folded name) ∷ ks) c.in_ok-marks.ensures ∙ marks_some name (sym c.is_empty.ensures ∙ c.if-is_empty.false)
