use Rattle.std.proofs.Common.{arith}
use Rattle.std.proofs.lemmas.Grind.{common_steps}
use Rattle.mailmap_entries.specs.Entries.{mapping_of}
use Rattle.mailmap_tables.proofs.Merged.{both_combined}
use Rattle.mailmap_tables.proofs.merge.combined.Goals as goal

pub returns-clause-alike : goal.returns-clause-alike
returns-clause-alike c = both_combined (mapping_of c.args.first.now) (mapping_of c.args.second.now)
    (mapping_of c.entry_of.result) c.requires.accepted c.requires.first_unnamed c.requires.second_unnamed
    (grind (arith, common_steps))
