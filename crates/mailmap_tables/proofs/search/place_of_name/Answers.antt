use Rattle.std.specs.Cmp.Lexicographic.{nat_list_cmp_total}
use Rattle.std.proofs.lemmas.List.{length-map}
use Rattle.mailmap_entries.proofs.Lookups.{IsPartitioned-from_ascending}
use Rattle.mailmap_tables.specs.Groups.{folded_name}
use Rattle.mailmap_tables.proofs.KeySearch.{is_place}
use Rattle.mailmap_tables.proofs.search.place_of_name.Goals as goal

pub search_last_first-requires-clause-parted : goal.search_last_first-requires-clause-parted
search_last_first-requires-clause-parted c = IsPartitioned-from_ascending nat_list_cmp_total folded_name _ _ c.requires.ascending

pub returns-clause-place : goal.returns-clause-place
returns-clause-place c =
    let found = c.search_last_first.ensures in is_place folded_name _ _ c.search_last_first.result (rw length-map found.within) found.found found.missing
