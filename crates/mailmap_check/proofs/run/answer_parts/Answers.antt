use Rattle.std.proofs.Common.{rules, ◌≡◌, Bor, Err, List, ℕ, flat_map, map, subst}
use Rattle.std.proofs.KnownBytes.{Consumes-nil}
use Rattle.mailmap_snapshot.specs.Contacts.{answers_by}
use Rattle.mailmap_snapshot.specs.Lines.{mappings_of}
use Rattle.command_line.specs.Answering.{LeavesLines}
use Rattle.command_line.specs.declared.failure.Failure.TheVariants.{Memory}
use Rattle.command_line.proofs.AnsweredLines.{nothing}
use Rattle.mailmap_snapshot.proofs.Streams.{answers-append}
use Rattle.mailmap_check.proofs.run.answer_parts.Goals as goal

pub returns-in_err-stream-clause-leaves : goal.returns-in_err-stream-clause-leaves
returns-in_err-stream-clause-leaves g c =
    let failed : c.from_residual.result ≡ Err Memory = search rules in
    let buffers = map (λ (b : Bor (List ℕ)). b.now) c.args.buffers.now in
    rw failed (nothing (answers_by buffers) (answers-append (flat_map mappings_of buffers)) (g.R.Read.remaining c.args.input.now) (g.W.Write.contents c.args.output.now))

pub returns-clause-leaves : goal.returns-clause-leaves
returns-clause-leaves g c =
    subst (λ (f : List ℕ → List ℕ). LeavesLines f (g.R.Read.remaining c.args.input.now) (g.R.Read.remaining c.answer_lines.new.input) (g.W.Write.contents c.args.output.now)
    (g.W.Write.contents c.answer_lines.new.output) c.answer_lines.result) (λ i text. c.in_ok-stream.ensures.1 text i)
    (c.answer_lines.ensures.leaves (g.R.Read.remaining c.args.input.now) (Consumes-nil (g.R.Read.remaining c.args.input.now)))
