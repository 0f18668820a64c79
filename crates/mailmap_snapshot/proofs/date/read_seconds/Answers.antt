-- `parse` reads what the text spells, and a `+` in front, which is ruled out before.
use Rattle.std.proofs.Common.{◌≡◌, ◌≢◌, true, false, get_or, arith, sym, ◌∙◌}
use Rattle.std.proofs.lemmas.Str.Pattern.{starts_char}
use Rattle.mailmap_snapshot.proofs.Times.{seconds-parse, seconds-ok}
use Rattle.mailmap_snapshot.proofs.date.read_seconds.Goals as goal

pub returns : goal.returns
returns c =
    let text = c.args.text.now in
    let plus = starts_char 43 text c.starts_with.result c.starts_with.ensures.cases (omega arith) (omega arith) in
    let no_plus : get_or text 0 0 ≢ 43 = λ is. let wrong : true ≡ false = sym (plus.1 is) ∙ c.if-starts_with.false in cc in
    seconds-ok text c.parse.result c.ok.result (seconds-parse text c.parse.result c.parse.ensures.value.0 no_plus) c.ok.ensures.value
