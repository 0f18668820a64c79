use Rattle.std.proofs.Common.{refl, sym}
use Rattle.mailmap_grammar.specs.Lines.{reading}
use Rattle.gix_mailmap_c.proofs.AtPlaces.{parsed_held}
use Rattle.gix_mailmap_c.proofs.parsing.next_parsed.Goals as goal

pub returns-in-Some-clause-held : goal.returns-in-Some-clause-held
returns-in-Some-clause-held c =
    let line = c.in_ok-line.line.now in
    let number = c.in_ok-line.after.lines in
    parsed_held c.args.text.now c.loop-line.at.start number line c.in_ok-line.ensures.line (reading number line) c.in-Some.found refl
    (sym c.in-Some.ensures)
