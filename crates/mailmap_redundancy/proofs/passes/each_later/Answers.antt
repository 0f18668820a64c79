use Rattle.std.proofs.Common.{◌<◌, ◌-◌, [], ◌∷◌, ◌++◌, length, ap, arith, ◌∙◌}
use Rattle.mailmap_redundancy.specs.Summaries.{later_of, located_mapping_of}
use Rattle.mailmap_redundancy.proofs.Rows.{email_within, key_within, located_mappings_next, numbered_at}
use Rattle.mailmap_redundancy.proofs.passes.each_later.Goals as goal

pub loop-left-preserved : goal.loop-left-preserved
loop-left-preserved c =
    let all = c.args.entries.now in
    let x = c.index-entries-left.result in
    let table = c.loop-left.invariant.1 in
    let within : c.loop-left.left - 1 < length all = omega arith in
    let n = numbered_at _ all c.requires.numbered _ x within c.index-entries-left.is in
    let next = located_mappings_next all _ c.loop-left.left x within c.index-entries-left.is (omega arith) in (
      omega arith,
      rw next (c.prepend.ensures _ _ c.requires.ascending n table),
      rw (next, c.in_ok-push.ensures.items) (λ k. c.loop-left.invariant.2 k
          ++ (c.of.ensures ∙ ap (later_of (located_mapping_of x)) (c.summary.ensures _ _ n table)) k ∷ []),
    )

pub summary-requires-clause-key : goal.summary-requires-clause-key
summary-requires-clause-key c = key_within _ _ c.requires.numbered _ _ (omega arith) c.index-entries-left.is _ _ c.loop-left.invariant.1

pub summary-requires-clause-email : goal.summary-requires-clause-email
summary-requires-clause-email c = email_within _ _ c.requires.numbered _ _ (omega arith) c.index-entries-left.is _ _ c.loop-left.invariant.1

pub prepend-requires-clause-key : goal.prepend-requires-clause-key
prepend-requires-clause-key c = key_within _ _ c.requires.numbered _ _ (omega arith) c.index-entries-left.is _ _ c.loop-left.invariant.1

pub prepend-requires-clause-email : goal.prepend-requires-clause-email
prepend-requires-clause-email c = email_within _ _ c.requires.numbered _ _ (omega arith) c.index-entries-left.is _ _ c.loop-left.invariant.1
