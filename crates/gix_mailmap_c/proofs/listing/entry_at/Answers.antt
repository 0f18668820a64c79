use Rattle.std.proofs.lemmas.Iterator.Consumers.{YieldsList-from_first, nth_from_yields_List}
use Rattle.mailmap_entries.specs.Entries.{mapping_of}
use Rattle.gix_mailmap_c.proofs.listing.entry_at.Goals as goal

pub returns : goal.returns
returns c =
    nth_from_yields_List c.nth.result c.nth.new.self c.args.index c.nth.ensures.ran (YieldsList-from_first mapping_of (λ s. s) c.args.snapshot.now c.iter.ensures.listing)
