use Rattle.std.proofs.Common.{◌-◌, arith}
use Rattle.mailmap_entries.proofs.Search.{less_before}
use Rattle.mailmap_tables.proofs.search.search_last_first.Goals as goal

pub returns-in-Less-clause-missing : goal.returns-in-Less-clause-missing
returns-in-Less-clause-missing g c = (
  λ k d low high. less_before (g.P.Probe.answers c.args.p.now) (c.args.len - 1) k d c.requires.parted
      c.in-Less.ensures.answer (omega arith),
  λ k d low high. absurd (omega (arith, c.requires.whole)),
)
