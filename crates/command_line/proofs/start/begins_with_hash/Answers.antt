use Rattle.std.proofs.Common.{◌≡◌, ◌∙◌, ◌&&◌, ap, drop, length, nat_le, sym, take, true}
use Rattle.std.proofs.lemmas.Bool.{le-leb}
use Rattle.std.specs.Char.{is_ascii_hexdigit}
use Rattle.std.specs.List.{list_all}
use Rattle.command_line.specs.GitLog.{ends_word}
use Rattle.command_line.proofs.start.begins_with_hash.Goals as goal

pub returns-then-is_hex : goal.returns-then-is_hex
returns-then-is_hex c =
    let text = c.args.text.now in
    let digits = c.args.digits in
    let split = c.in-Some.ensures.cases in
    let within : nat_le digits (length text) ≡ true = le-leb digits (length text) split.0 in
    let hex : list_all is_ascii_hexdigit (take digits text) ≡ true = ap (list_all is_ascii_hexdigit) (sym split.1) ∙ sym c.is_hex.ensures ∙ c.if-is_hex.true in
    c.ends_word.ensures ∙ ap ends_word split.2 ∙ sym (ap (λ b. b && list_all is_ascii_hexdigit (take digits text) && ends_word (drop digits text)) within
    ∙ ap (λ b. b && ends_word (drop digits text)) hex)
