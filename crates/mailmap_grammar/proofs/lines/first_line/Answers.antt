use Rattle.std.proofs.Common.{◌≡◌, ◌+◌, ◌-◌, ◌∷◌, ◌∙◌, ap, arith, drop, length, length-drop, sym, take, take_all}
use Rattle.mailmap_grammar.specs.Lines.{pieces}
use Rattle.mailmap_grammar.proofs.LineFeeds.{pieces-line}
use Rattle.mailmap_grammar.proofs.SplitOnce.{held_before, split_at}
use Rattle.mailmap_grammar.proofs.lines.first_line.Goals as goal

pub returns-in-Some : goal.returns-in-Some
returns-in-Some c =
    let bytes = c.args.bytes.now in
    let feed = c.in-Some.feed in
    let rest = drop (feed + 1) bytes in
    let all : take (length bytes - (feed + 1)) rest ≡ rest = take_all _ rest (omega (arith, length-drop (feed + 1) bytes)) in (
      ap pieces (split_at 10 bytes feed c.in-Some.ensures) ∙ pieces-line _ rest (held_before 10 bytes feed c.in-Some.ensures)
          ∙ ap (λ r. take feed bytes ∷ pieces r) (sym all),
      omega (arith, ap length all, length-drop (feed + 1) bytes, c.in-Some.ensures.0.high),
    )
