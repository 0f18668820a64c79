use Rattle.std.proofs.Common.{◌≡◌, ◌<◌, ◌∷◌, [], true, map, take}
use Rattle.mailmap_entries.specs.Alike.{Alike}
use Rattle.mailmap_entries.specs.Entries.{mapping_of}
use Rattle.mailmap_entries.specs.Folding.{Text}
use Rattle.mailmap_entries.specs.Semantics.{is_accepted}
use Rattle.mailmap_batches.specs.Batches.{mapping_at}
use Rattle.mailmap_tables.specs.Put.{with_old_email}
use Rattle.mailmap_tables.proofs.merge.combined_start.Given as goal

abbrev pub invariant-loop-i : goal.invariant-loop-i
invariant-loop-i l = record {
  some : 0 < l.i;
  accepted : is_accepted (mapping_of l.start) ≡ true;
  alike : (email : Text) → Alike (map (λ p. with_old_email email (mapping_at p)) (take l.i l.group))
      (with_old_email email (mapping_of l.start) ∷ []);
}
