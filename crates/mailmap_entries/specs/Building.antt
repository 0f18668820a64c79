-- What snapshots list, and how merges build them.
use Rattle.std.specs.Prelude.{◌≡◌, ◌≤◌, ◌++◌, List, [], IsSome, length}
use Rattle.std.specs.List.{All}
use Rattle.mailmap_entries.specs.Entries.{Mapping}
use Rattle.mailmap_entries.specs.Folding.{Text}
use Rattle.mailmap_entries.specs.Semantics.{IsNormal, accepted, of_email, answer_of}

-- an old name comes with a new email
abbrev pub IsPaired : Mapping → Type 0
IsPaired e = IsSome e.old_name → IsSome e.new_email

-- what every snapshot lists: a list that is its own normal list, with a new email for each old name
pub record IsListing (n : List Mapping) : Type 0 where
  pub own : IsNormal n n
  pub paired : All IsPaired n

-- a merge of the entries `added` that succeeds turns the listing `old` into `new`
pub record IsMerged (old added new : List Mapping) : Type 0 where
  -- the new listing is the normal list of the old one followed by the added entries
  pub normal : IsNormal (old ++ added) new
  -- as well as of any mappings whose normal list was the old one, followed by the added entries
  pub history : (h : List Mapping) → IsNormal h old → IsNormal (h ++ added) new
  -- if no added entry is accepted, nothing changes
  pub unchanged : accepted added ≡ [] → new ≡ old

-- `IsBuilt h n`: merges of the entries h, in this order, can build the listing n. A merge that succeeds appends its
-- entries to h, and the new listing is the normal list of the old one followed by these entries. A merge that runs out
-- of memory changes neither.
pub data IsBuilt : List Mapping → List Mapping → Type 0 where
  nothing : IsBuilt [] []
  merged : (h n added new : List Mapping) → IsBuilt h n → IsNormal (n ++ added) new → IsBuilt (h ++ added) new
  out_of_memory : (h n new : List Mapping) → IsBuilt h n → new ≡ n → IsBuilt h new

-- what holds for each listing n that was built from the merged entries h
pub record IsHeadline (h n : List Mapping) : Type 0 where
  -- n has one entry for each distinct key of the accepted entries, in ascending order, which combines all entries of
  -- that key
  pub normal : IsNormal h n
  -- the entries of n rebuild n, and no other list
  pub rebuilds : IsNormal n n × ((m : List Mapping) → IsNormal n m → m ≡ n)
  -- no shorter list does
  pub shortest : (l : List Mapping) → IsNormal l n → length n ≤ length l
  -- any part of the accepted entries can be replaced by the listing of a snapshot of that part
  pub condensed : (a b c m : List Mapping) → accepted h ≡ a ++ b ++ c → IsNormal b m → IsNormal (a ++ m ++ c) n
  -- entries with different emails can be reordered
  pub reordered : (g : List Mapping) → ((email : Text) → of_email g email ≡ of_email h email) → IsNormal g n
  -- a plain scan of the merged entries gives the same answers as the listing
  pub answers : (name email : Text) → answer_of n name email ≡ answer_of h name email
