use Rattle.std.proofs.Common.{◌≡◌, chars, string_bytes, take}
use Rattle.std.specs.List.{concat}
use Rattle.mailmap_names.specs.Keys.{characters}
use Rattle.mailmap_names.proofs.keys.together.Given as goal

abbrev pub invariant-loop-word : goal.invariant-loop-word
invariant-loop-word l = chars (string_bytes l.together) ≡ concat (characters (take l.word-index l.words))
