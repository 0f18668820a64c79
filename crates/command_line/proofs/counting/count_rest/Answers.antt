use Rattle.std.proofs.Common.{◌++◌, [], append-nil, append_assoc, take}
use Rattle.std.proofs.KnownBytes.{Consumes-nil, Consumes-trans}
use Rattle.bstr.specs.Text.{lines_of}
use Rattle.mailmap_grammar.proofs.LineParts.{lines_of-append}
use Rattle.command_line.proofs.counting.count_rest.Goals as goal

pub loop-init : goal.loop-init
loop-init g c = ([], Consumes-nil (g.R.Read.remaining c.args.input.now), λ read h. rw (append-nil read) h)

pub loop-preserved : goal.loop-preserved
loop-preserved g c =
    let h = c.loop.invariant in
    let part = take c.in_ok-count.count c.read_part.new.buffer in (
      h.0 ++ part,
      Consumes-trans (g.R.Read.remaining c.args.input.now) (g.R.Read.remaining c.loop.input) (g.R.Read.remaining c.read_part.new.reader) h.0 part h.1 c.in_ok-count.ensures.part,
      λ read counted. rw (← append_assoc read h.0 part) (c.in_ok-add_part.ensures (read ++ h.0) (h.2 read counted)),
    )

pub returns-then-count-eq0-clause-counts : goal.returns-then-count-eq0-clause-counts
returns-then-count-eq0-clause-counts g c =
    let h = c.loop.invariant in
    let none = rw c.if-count-eq0.true at c.in_ok-count.ensures.part in (
      h.0,
      rw (append-nil h.0) at (Consumes-trans (g.R.Read.remaining c.args.input.now) (g.R.Read.remaining c.loop.input) (g.R.Read.remaining c.read_part.new.reader) h.0 [] h.1 none),
      λ read before. let counted = h.2 read before in
          rw (counted.is, lines_of-append counted.whole c.loop.partial.items counted.ends)
          (rw c.as_slice.ensures.value at (c.in_ok-add_lines.ensures (lines_of counted.whole) counted.counted)),
    )
