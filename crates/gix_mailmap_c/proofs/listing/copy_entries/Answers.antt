use Rattle.std.proofs.Common.{◌≡◌, ◌+◌, ◌<◌, ◌∷◌, ℕ, length, sym, ap, ◌∙◌, arith}
use Rattle.mailmap_entries.specs.Entries.{mapping_of}
use Rattle.gix_mailmap_c.specs.Listed.{all_texts, entry_texts, all_listed}
use Rattle.gix_mailmap_c.specs.declared.listing.Listed.{Listed}
use Rattle.gix_mailmap_c.proofs.Copying.{copied_all, copied_more, copied_next}
use Rattle.gix_mailmap_c.proofs.listing.copy_entries.Goals as goal

pub bounds-listed-index : goal.bounds-listed-index
bounds-listed-index c = omega (arith, ap length c.in-Some.ensures.steps, c.loop-entry.invariant.room, c.requires.room)

pub loop-entry-preserved : goal.loop-entry-preserved
loop-entry-preserved c =
    let m = mapping_of c.in-Some.entry in
    let end = c.loop-entry.end in
    let rest = c.next.new.self in
    let left = ap length c.in-Some.ensures.steps in
    let lt : c.loop-entry.index < length c.loop-entry.listed = omega (arith, left, c.loop-entry.invariant.room, c.requires.room) in
    let one = c.of-one.result in
    let cut : all_listed end c.loop-entry.entry-iterator ≡ one ∷ all_listed c.copy_entry-end.result rest =
    ap (all_listed end) c.in-Some.ensures.steps
    ∙ ap (λ (x : Listed). x ∷ all_listed (end + length (entry_texts m)) rest) (sym c.of-one.ensures)
    ∙ ap (λ (k : ℕ). one ∷ all_listed k rest) (sym c.copy_entry-end.ensures.until) in
    record {
      room = omega (arith, left, c.loop-entry.invariant.room);
      listed = copied_next cut lt c.loop-entry.invariant.listed;
      written = copied_more (entry_texts m) (all_texts rest) _ end _ _ _ _
          (rw c.in-Some.ensures.steps at c.loop-entry.invariant.written) c.copy_entry-end.ensures;
    }

pub returns-clause-listed : goal.returns-clause-listed
returns-clause-listed c = copied_all _ _ _ _ (rw c.in-None.ensures.steps.0 at c.loop-entry.invariant.listed)

pub returns-clause-written : goal.returns-clause-written
returns-clause-written c = copied_all _ _ _ _ (rw c.in-None.ensures.steps.0 at c.loop-entry.invariant.written)
