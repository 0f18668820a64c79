use Rattle.std.proofs.Common.{◌≡◌, [], arith, map}
use Rattle.std.proofs.lemmas.Grind.{common_steps}
use Rattle.std.proofs.lemmas.List.{nil_from_length}
use Rattle.mailmap_entries.specs.Entries.{mapping_of}
use Rattle.mailmap_entries.proofs.Building.{accepted_good, normal_accepted, normal_unchanged}
use Rattle.mailmap_entries.proofs.Results.{on_err}
use Rattle.mailmap_tables.specs.Groups.{listing}
use Rattle.mailmap_tables.proofs.Grouped.{groups_normal}
use Rattle.mailmap_tables.proofs.Merged.{some_accepted, some_left}
use Rattle.mailmap_tables.proofs.tables.Tables.merge.Goals as goal

pub merge_accepted-requires-clause-accepted : goal.merge_accepted-requires-clause-accepted
merge_accepted-requires-clause-accepted g c =
    let w = c.in_ok-batch.ensures.ok in rw w.2 (accepted_good (map mapping_of w.0))

pub returns-in_err-merge_accepted-clause-out_of_memory : goal.returns-in_err-merge_accepted-clause-out_of_memory
returns-in_err-merge_accepted-clause-out_of_memory g c =
    let w = c.in_ok-batch.ensures.ok in
    on_err _ _ (some_accepted g.I.Iterator.next_gives w.0 c.in_ok-batch.batch.items w.1 w.2
    (grind (arith, common_steps, some_left)))

pub returns-then-is_empty-clause-ok : goal.returns-then-is_empty-clause-ok
returns-then-is_empty-clause-ok g c =
    let w = c.in_ok-batch.ensures.ok in
    let none : c.in_ok-batch.batch.items ≡ [] = nil_from_length _ (grind (arith, common_steps)) in
    let gs = c.args.self.now.groups in (
      w.0,
      w.1,
      normal_unchanged (listing gs) (map mapping_of w.0) (rw (← w.2, none))
          (groups_normal gs c.requires.groups),
    )

pub returns-clause-ok : goal.returns-clause-ok
returns-clause-ok g c =
    let w = c.in_ok-batch.ensures.ok in (
      w.0,
      w.1,
      rw c.drop_unused.ensures.same (normal_accepted (listing c.args.self.now.groups) (map mapping_of w.0) _
          (rw w.2 at c.in_ok-merge_accepted.ensures.ok.normal)),
    )
