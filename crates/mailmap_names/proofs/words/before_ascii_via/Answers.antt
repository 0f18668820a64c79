use Rattle.std.proofs.Common.{sym, ap, ◌∙◌, arith}
use Rattle.std.proofs.lemmas.List.{take_rest}
use Rattle.mailmap_names.specs.Words.{begins_with_via}
use Rattle.mailmap_names.proofs.WordLemmas.{before_via-found, before_via-more, before_via-end}
use Rattle.mailmap_names.proofs.words.before_ascii_via.Goals as goal

pub returns-then-begins_with_ascii_via : goal.returns-then-begins_with_ascii_via
returns-then-begins_with_ascii_via c =
    let rest = ap begins_with_via (sym (take_rest c.args.text.now c.loop-i.i)) in
    let here = rest ∙ sym c.begins_with_ascii_via.ensures ∙ c.if-begins_with_ascii_via.true in
    sym (before_via-found _ _ c.loop-i.invariant here)

pub loop-i-preserved : goal.loop-i-preserved
loop-i-preserved c =
    let rest = ap begins_with_via (sym (take_rest c.args.text.now c.loop-i.i)) in
    let later = rest ∙ sym c.begins_with_ascii_via.ensures ∙ c.if-begins_with_ascii_via.false in
    before_via-more _ _ c.loop-i.invariant (omega arith) later

pub returns : goal.returns
returns c = sym (before_via-end _ _ c.loop-i.invariant (omega arith))
