use Rattle.std.proofs.Common.{◌≡◌, ◌++◌, map, string_bytes, take}
use Rattle.mailmap_names.specs.Private.{spaced}
use Rattle.mailmap_names.proofs.keys.push_spaced.Given as goal

abbrev pub invariant-loop-word : goal.invariant-loop-word
invariant-loop-word l = l.text.items ≡ l.initial.text.items ++ spaced (map (λ w. string_bytes w.now) (take l.word-index l.words))
