use Rattle.std.proofs.Common.{arith}
use Rattle.std.specs.Cmp.Lexicographic.{nat_list_cmp_total}
use Rattle.mailmap_entries.proofs.Lookups.{IsPartitioned-from_ascending}
use Rattle.mailmap_entries.proofs.Search.{digits-le}
use Rattle.mailmap_tables.specs.Groups.{folded_email}
use Rattle.mailmap_tables.proofs.search.find_email_counted.Goals as goal

pub search-found-requires-clause-parted : goal.search-found-requires-clause-parted
search-found-requires-clause-parted c =
    IsPartitioned-from_ascending nat_list_cmp_total folded_email _ _ c.requires.ascending

pub returns-clause-few : goal.returns-clause-few
returns-clause-few c =
    let few = digits-le 64 c.email_count.result (omega (arith, c.email_count.type_inv)) in
    omega (arith, c.search-found.ensures.at_most)
