use Rattle.std.proofs.Common.{rules, ◌≡◌, Bor, Err, List, ℕ, ap, map, subst}
use Rattle.mailmap_entries.specs.Texts.{texts}
use Rattle.mailmap_report.specs.Explained.{AreGrounds}
use Rattle.verify_command.specs.declared.failure.TaskFailure.TheVariants.{Run}
use Rattle.verify_command.proofs.Failing.{answering_fails, not_output, start_fails}
use Rattle.verify_command.proofs.Leaving.{explained, explaining_failed, start_failed}
use Rattle.verify_command.proofs.explanation.explain_contacts.Goals as goal

abbrev now : Bor (List ℕ) → List ℕ
now b = b.now

pub returns-in_err-start-clause-leaves : goal.returns-in_err-start-clause-leaves
returns-in_err-start-clause-leaves g c =
    let e = c.in_err-start.field-0.0 in
    let failed : c.from_residual-in_err-start.result ≡ Err (Run e) = search rules in
    let mailmaps = map now c.args.buffers.now in
    let are = subst (λ ms. AreGrounds (texts c.args.paths.now) ms c.in_ok-explainer.explainer) c.in_ok-mailmaps.ensures c.in_ok-explainer.ensures in
    λ at read. rw failed (start_failed at (texts c.args.paths.now) mailmaps c.in_ok-explainer.explainer read are (g.R.Read.remaining c.args.input.now) (g.R.Read.remaining c.read_start.new.input) g.W.Write.contents c.args.output.now e
    c.in_err-start.ensures.breaks_off (not_output e c.in_err-start.ensures.only))

pub returns-in_err-start-clause-fails : goal.returns-in_err-start-clause-fails
returns-in_err-start-clause-fails g c =
    let e = c.in_err-start.field-0.0 in
    let failed : c.from_residual-in_err-start.result ≡ Err (Run e) = search rules in
    rw failed (start_fails (g.R.Read.remaining c.args.input.now) e c.in_err-start.ensures.only (λ is. c.in_err-start.ensures.git_log (ap Err is)))

pub returns-in_err-explain-clause-leaves : goal.returns-in_err-explain-clause-leaves
returns-in_err-explain-clause-leaves g c =
    let e = c.in_err-explain.field-0.0 in
    let failed : c.from_residual-in_err-explain.result ≡ Err (Run e) = search rules in
    let mailmaps = map now c.args.buffers.now in
    let are = subst (λ ms. AreGrounds (texts c.args.paths.now) ms c.in_ok-explainer.explainer) c.in_ok-mailmaps.ensures c.in_ok-explainer.ensures in
    let unread = g.R.Read.remaining c.args.input.now in
    let leaves = c.in_err-explain.ensures.leaves unread (rw c.as_slice.ensures.value c.in_ok-start.ensures.reads) in
    λ at read. rw failed (explaining_failed at (texts c.args.paths.now) mailmaps c.in_ok-explainer.explainer read are unread (g.R.Read.remaining c.explain.new.input) g.W.Write.contents c.args.output.now c.explain.new.output e
    c.in_err-explain.ensures.only leaves)

pub returns-in_err-explain-clause-fails : goal.returns-in_err-explain-clause-fails
returns-in_err-explain-clause-fails g c =
    let e = c.in_err-explain.field-0.0 in
    let failed : c.from_residual-in_err-explain.result ≡ Err (Run e) = search rules in
    rw failed (answering_fails (g.R.Read.remaining c.args.input.now) e c.in_err-explain.ensures.only)

pub returns-clause-leaves : goal.returns-clause-leaves
returns-clause-leaves g c =
    let mailmaps = map now c.args.buffers.now in
    let are = subst (λ ms. AreGrounds (texts c.args.paths.now) ms c.in_ok-explainer.explainer) c.in_ok-mailmaps.ensures c.in_ok-explainer.ensures in
    let unread = g.R.Read.remaining c.args.input.now in
    let leaves = c.in_ok-explain.ensures.leaves unread (rw c.as_slice.ensures.value c.in_ok-start.ensures.reads) in
    λ at read. explained at (texts c.args.paths.now) mailmaps c.in_ok-explainer.explainer read are unread (g.R.Read.remaining c.explain.new.input) g.W.Write.contents c.args.output.now c.explain.new.output c.in_ok-explain.field-0 leaves
