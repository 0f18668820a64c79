use Rattle.std.proofs.Common.{rules, length}
use Rattle.std.proofs.Math.Seq.{take-length}
use Rattle.std.proofs.lemmas.Result.{IfErr-weaker}
use Rattle.std.proofs.KnownBytes.{Appends-kept}
use Rattle.command_line.proofs.streams.write_all.Goals as goal

pub returns-clause-writes : goal.returns-clause-writes
returns-clause-writes g c =
    let text = c.args.text.now in
    let all = Appends-kept (g.W.Write.contents c.args.writer.now) _ _ text c.in_ok-write_unflushed.ensures.writes.ok c.flush.ensures.keeps in
    record { ok = search rules; err = IfErr-weaker c.flush.result _ _ (λ e only. (length text, rw take-length all)) c.flush.ensures.only }
