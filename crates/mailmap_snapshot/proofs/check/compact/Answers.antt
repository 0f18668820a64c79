use Rattle.std.proofs.Common.{map}
use Rattle.mailmap_grammar.proofs.WritableLines.{built_fit}
use Rattle.mailmap_snapshot.proofs.check.compact.Goals as goal

pub write_lines-requires : goal.write_lines-requires
write_lines-requires c = built_fit (map (λ b. b.now) c.args.buffers.now) c.in_ok-snapshot.snapshot c.in_ok-snapshot.ensures
