use Rattle.std.proofs.Common.{arith}
use Rattle.mailmap_entries.specs.Texts.{texts}
use Rattle.verify_command.proofs.PrunedFiles.{prunes_next, prunes_none}
use Rattle.verify_command.proofs.in_place.replace_all.Goals as goal

pub loop-index-init : goal.loop-index-init
loop-index-init g c = prunes_none g.D.Replacer.has_replaced (texts c.args.paths.now) c.args.folder.now

pub loop-index-preserved : goal.loop-index-preserved
loop-index-preserved g c = prunes_next g.D.Replacer.has_replaced (texts c.args.paths.now) c.args.buffers.now c.loop-index.index _ c.path_at-path.result.now
    c.args.folder.now c.loop-index.folder c.replace_pruned.new.folder (omega (arith, c.loop-index-test.true)) c.path_at-path.ensures c.loop-index.invariant
    c.in_ok-replace_pruned.ensures.ok
