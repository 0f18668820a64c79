-- What a snapshot lists, by the entries that it was built from.
use Rattle.std.specs.Prelude.{◌≡◌, List, length, map}
use Rattle.gix_mailmap.specs.Entries.{Mapping, mapping_of}
use Rattle.gix_mailmap.specs.Semantics.{IsNormal}
use Rattle.caller_promises.specs.declared.listings.Listings.{Listings}

-- each call lists the normal list of the entries h, and the length is that of the list
pub record AreListings (h : List Mapping) (l : Listings) : Type 0 where
  pub iterated : IsNormal h (map mapping_of l.iterated.items)
  pub entries : IsNormal h (map mapping_of l.entries.items)
  pub len : l.len ≡ length l.entries.items
