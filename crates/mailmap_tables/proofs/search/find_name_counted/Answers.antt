use Rattle.std.specs.Cmp.Lexicographic.{nat_list_cmp_total}
use Rattle.mailmap_entries.proofs.Lookups.{IsPartitioned-from_ascending}
use Rattle.mailmap_tables.specs.Groups.{folded_name}
use Rattle.mailmap_tables.proofs.search.find_name_counted.Goals as goal

pub search-found-requires-clause-parted : goal.search-found-requires-clause-parted
search-found-requires-clause-parted c = IsPartitioned-from_ascending nat_list_cmp_total folded_name _ _ c.requires.ascending
