use Rattle.mailmap_grammar.specs.Lines.{line_reading, strict_line_reading}
use Rattle.mailmap_findings.proofs.Read.{mappings_of-located_lines, readings-buffer}
use Rattle.mailmap_findings.proofs.Concatenated.{joined-whole_lines}
use Rattle.mailmap_findings.proofs.WholeLines.{lines-whole}
use Rattle.mailmap_findings.proofs.laws.law_whole_lines.Goals as goal

pub returns : goal.returns
returns c = record { whole = joined-whole_lines; lines = lines-whole; readings = readings-buffer line_reading; strict_readings = readings-buffer strict_line_reading; entries = mappings_of-located_lines 0 }
