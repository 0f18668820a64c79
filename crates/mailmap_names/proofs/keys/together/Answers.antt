use Rattle.std.proofs.Common.{◌∙◌, ◌++◌, ap, arith, chars, string_bytes}
use Rattle.std.proofs.lemmas.Str.{chars-nil}
use Rattle.mailmap_names.proofs.Spelling.{together_more}
use Rattle.mailmap_names.proofs.keys.together.Goals as goal

pub loop-word-init : goal.loop-word-init
loop-word-init c = ap chars c.new-together.ensures.bytes ∙ chars-nil

pub loop-word-preserved : goal.loop-word-preserved
loop-word-preserved c =
    together_more c.loop-word.together c.push_str.new.self c.args.words.now c.word-item.result c.loop-word.word-index (omega arith) c.word-item.is
    (c.in_ok-push_str.ensures.bytes ∙ ap (λ t. string_bytes c.loop-word.together ++ t) c.as_str.ensures.value) c.loop-word.invariant
