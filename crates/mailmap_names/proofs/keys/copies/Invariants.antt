use Rattle.std.proofs.Common.{◌≡◌, map, string_bytes, take}
use Rattle.mailmap_entries.specs.Texts.{texts}
use Rattle.mailmap_names.proofs.keys.copies.Given as goal

abbrev pub invariant-loop-word : goal.invariant-loop-word
invariant-loop-word l = texts l.found.items ≡ map (λ w. string_bytes w.now) (take l.word-index l.words)
