-- The bytes so far are appended.
use Rattle.std.proofs.Common.{◌≡◌, ◌++◌, take}
use Rattle.std.specs.List.{flat_map}
use Rattle.mailmap_report.specs.Github.{escaped_byte}
use Rattle.mailmap_report.proofs.github.push_bytes.Given as goal

abbrev pub invariant-loop-byte : goal.invariant-loop-byte
invariant-loop-byte l =
    l.line.items ≡ l.fn.line.items ++ flat_map (escaped_byte l.in_property) (take l.byte-index l.bytes)
