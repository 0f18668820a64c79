use Rattle.std.proofs.Common.{◌≡◌, take, map, chars, string_bytes}
use Rattle.mailmap_names.proofs.words.ascii_texts.Given as goal

abbrev pub invariant-loop-run : goal.invariant-loop-run
invariant-loop-run l =
    map (λ w. chars (string_bytes w)) l.found.items ≡ map (λ run. run.now) (take l.run-index l.runs)
