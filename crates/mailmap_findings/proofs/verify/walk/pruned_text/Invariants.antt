use Rattle.std.proofs.Common.{◌≡◌, [], ◌∷◌, ◌++◌, filter}
use Rattle.std.specs.List.{flat_map}
use Rattle.mailmap_findings.specs.Findings.{is_line_kept}
use Rattle.mailmap_findings.specs.Positions.{Line, located_lines}
use Rattle.mailmap_findings.proofs.verify.walk.pruned_text.Given as goal

abbrev pub invariant-loop-line : goal.invariant-loop-line
invariant-loop-line l =
    l.text.items ++ flat_map (λ (x : Line). x.text) (filter (is_line_kept l.effective.kept) l.line-iterator)
    ≡ flat_map (λ (x : Line). x.text) (filter (is_line_kept l.effective.kept) (located_lines (l.buffer ∷ [])))
