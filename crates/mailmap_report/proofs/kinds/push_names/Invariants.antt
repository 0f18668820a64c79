-- The names of the kinds so far are appended.
use Rattle.std.proofs.Common.{◌≡◌, ◌++◌, take}
use Rattle.mailmap_report.specs.Kinds.{kind_names}
use Rattle.mailmap_report.proofs.kinds.push_names.Given as goal

abbrev pub invariant-loop-kind : goal.invariant-loop-kind
invariant-loop-kind l = l.text.items ≡ l.fn.text.items ++ kind_names (take l.kind-index l.listed)
