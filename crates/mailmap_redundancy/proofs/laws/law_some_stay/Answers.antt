use Rattle.std.proofs.Common.{rules}
use Rattle.mailmap_redundancy.proofs.Kept.{effective_sublist}
use Rattle.mailmap_redundancy.proofs.Sublists.{sublist_contains, sublist_sorted}
use Rattle.mailmap_redundancy.proofs.laws.law_some_stay.Goals as goal

pub returns : goal.returns
returns c = search (rules, effective_sublist, sublist_contains, sublist_sorted)
