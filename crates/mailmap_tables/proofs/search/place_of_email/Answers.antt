use Rattle.std.specs.Cmp.Lexicographic.{nat_list_cmp_total}
use Rattle.mailmap_entries.proofs.Lookups.{IsPartitioned-from_ascending}
use Rattle.mailmap_tables.specs.Groups.{folded_email}
use Rattle.mailmap_tables.proofs.KeySearch.{is_place}
use Rattle.mailmap_tables.proofs.search.place_of_email.Goals as goal

pub search_last_first-requires-clause-parted : goal.search_last_first-requires-clause-parted
search_last_first-requires-clause-parted c = IsPartitioned-from_ascending nat_list_cmp_total folded_email _ _ c.requires

pub returns : goal.returns
returns c =
    let found = c.search_last_first.ensures in is_place folded_email _ _ c.search_last_first.result (rw (← c.email_count.ensures) found.within) found.found found.missing
