use Rattle.std.proofs.Common.{rules, ◌≡◌, ◌∙◌, ◌&&◌, Bor, Err, List, ℕ, ap, false, map, refl, subst}
use Rattle.verify_command.specs.Arguments.{can_be_mailmap, has_none}
use Rattle.verify_command.specs.Task.{AreMailmaps, AreSuggested, IsReportBeside, LeavesExplained, takes_contacts, wanted_of}
use Rattle.command_line.specs.declared.failure.Failure.TheVariants.{Memory}
use Rattle.verify_command.specs.declared.asked.TheConstants.{USAGE}
use Rattle.verify_command.specs.declared.failure.TaskFailure.TheVariants.{Run}
use Rattle.std.proofs.lemmas.Result.{IfErr-weaker, on_ok_weaker}
use Rattle.verify_command.proofs.Failing.{contacts_failed, explained_before, explaining_fails, in_place_fails, log_before, not_of_output}
use Rattle.verify_command.proofs.Leaving.{all_replaced, in_mode, leaves_weaker, left_with, no_mailmap, no_memory, nothing_left, only_verify, too_many_left, unread_mailmaps}
use Rattle.verify_command.proofs.task.perform.Goals as goal

abbrev now : Bor (List ℕ) → List ℕ
now b = b.now

pub returns-in-Help-clause-leaves : goal.returns-in-Help-clause-leaves
returns-in-Help-clause-leaves g c =
    let is : c.as_bytes.result.now ≡ USAGE.now = search rules in
    in_mode g.W.Write.contents _ _ _ (g.F.FileSystem.at c.args.system.now) (g.R.Read.remaining c.args.input.now) _ (wanted_of c.args.request.now) c.in-Help.is
    (leaves_weaker (λ o t known. (known.0 ∙ is, known.1)) c.print_text.ensures.leaves)

pub returns-in-Version-clause-leaves : goal.returns-in-Version-clause-leaves
returns-in-Version-clause-leaves g c = in_mode g.W.Write.contents _ _ _ (g.F.FileSystem.at c.args.system.now) (g.R.Read.remaining c.args.input.now) _ (wanted_of c.args.request.now) c.in-Version.is
    c.print_version.ensures.leaves

pub returns-in-Prune-clause-leaves : goal.returns-in-Prune-clause-leaves
returns-in-Prune-clause-leaves g c = in_mode g.W.Write.contents _ _ _ (g.F.FileSystem.at c.args.system.now) (g.R.Read.remaining c.args.input.now) _ (wanted_of c.args.request.now) c.in-Prune.is
    (too_many_left refl)

pub returns-in-PruneInPlace-clause-leaves : goal.returns-in-PruneInPlace-clause-leaves
returns-in-PruneInPlace-clause-leaves g c =
    let at = g.F.FileSystem.at c.args.system.now in
    let w = wanted_of c.args.request.now in
    let fails = rw c.as_slice.ensures.value at c.prune_in_place.ensures.fails in
    in_mode g.W.Write.contents _ _ _ at (g.R.Read.remaining c.args.input.now) _ w c.in-PruneInPlace.is
    (nothing_left c.args.output.now c.prune_in_place.result c.prune_in_place.ensures.clean
    (IfErr-weaker c.prune_in_place.result _ _ (λ e f. not_of_output at w.paths e f) fails))

pub returns-in-PruneInPlace-clause-fails : goal.returns-in-PruneInPlace-clause-fails
returns-in-PruneInPlace-clause-fails g c =
    let at = g.F.FileSystem.at c.args.system.now in
    let w = wanted_of c.args.request.now in
    let fails = rw c.as_slice.ensures.value at c.prune_in_place.ensures.fails in
    IfErr-weaker c.prune_in_place.result _ _ (λ e f. in_place_fails at (g.R.Read.remaining c.args.input.now) w e c.in-PruneInPlace.is f) fails

pub returns-in-PruneInPlace-clause-replaces : goal.returns-in-PruneInPlace-clause-replaces
returns-in-PruneInPlace-clause-replaces g c =
    let w = wanted_of c.args.request.now in
    all_replaced g.D.Replacer.has_replaced _ _ _ w.mode (g.F.FileSystem.at c.args.system.now) w c.in-PruneInPlace.is
    (rw c.as_slice.ensures.value at c.prune_in_place.ensures.prunes)

pub returns-in_err-mailmaps-in_default-clause-leaves : goal.returns-in_err-mailmaps-in_default-clause-leaves
returns-in_err-mailmaps-in_default-clause-leaves g c =
    let e = c.in_err-mailmaps-in_default.field-0.0 in
    let failed : c.from_residual.result ≡ Err (Run e) = search rules in
    rw failed (unread_mailmaps g.W.Write.contents (g.F.FileSystem.at c.args.system.now) _ _ (wanted_of c.args.request.now) e
    c.in_err-mailmaps-in_default.ensures.fails refl)

pub returns-in_err-list-in_default-clause-leaves : goal.returns-in_err-list-in_default-clause-leaves
returns-in_err-list-in_default-clause-leaves g c =
    let failed : c.from_residual-in_err-list-in_default.result ≡ Err (Run Memory) = search rules in
    rw failed (no_memory g.W.Write.contents _ _ _ (wanted_of c.args.request.now) refl)

pub returns-in-Prune-mode-clause-leaves : goal.returns-in-Prune-mode-clause-leaves
returns-in-Prune-mode-clause-leaves g c =
    let mailmaps = map now c.as_slice-buffers.result.now in
    let are : AreMailmaps (g.F.FileSystem.at c.args.system.now) (g.R.Read.remaining c.args.input.now) (wanted_of c.args.request.now) mailmaps = search rules in
    in_mode g.W.Write.contents _ _ _ (g.F.FileSystem.at c.args.system.now) (g.R.Read.remaining c.args.input.now) _ (wanted_of c.args.request.now) c.in-Prune-mode.is
    (leaves_weaker (λ o t made. (mailmaps, are, made)) c.print_pruned.ensures.leaves)

pub returns-in-Explain-clause-leaves : goal.returns-in-Explain-clause-leaves
returns-in-Explain-clause-leaves g c =
    let w = wanted_of c.args.request.now in
    let mailmaps = map now c.as_slice-buffers.result.now in
    let are : AreMailmaps (g.F.FileSystem.at c.args.system.now) (g.R.Read.remaining c.args.input.now) w mailmaps = search rules in
    let none = ap (λ m. can_be_mailmap m w.contacts && has_none w.paths) c.in-Explain.is in
    let leaves = rw c.as_slice-in-Explain.ensures.value at c.explain_contacts.ensures.leaves in
    let unread = ap (λ i. g.R.Read.remaining i) (c.read_mailmaps.ensures.unread none) in
    in_mode g.W.Write.contents _ _ _ (g.F.FileSystem.at c.args.system.now) (g.R.Read.remaining c.args.input.now) _ (wanted_of c.args.request.now) c.in-Explain.is
    (subst (λ u. LeavesExplained (g.F.FileSystem.at c.args.system.now) w.paths u (g.R.Read.remaining c.explain_contacts.new.input) g.W.Write.contents c.args.output.now c.explain_contacts.new.output c.explain_contacts.result) unread
    (leaves (g.F.FileSystem.at c.args.system.now) ((are.0 none).0 (ap (λ m. takes_contacts m && w.by_default) c.in-Explain.is))))

pub returns-in-Contacts-clause-leaves : goal.returns-in-Contacts-clause-leaves
returns-in-Contacts-clause-leaves g c =
    let w = wanted_of c.args.request.now in
    in_mode g.W.Write.contents _ _ _ (g.F.FileSystem.at c.args.system.now) (g.R.Read.remaining c.args.input.now) _ (wanted_of c.args.request.now) c.in-Contacts.is
    (left_with (IsReportBeside w) (g.F.FileSystem.at c.args.system.now) (g.R.Read.remaining c.args.input.now) _ w
    (map now c.as_slice-buffers.result.now) (ap takes_contacts c.in-Contacts.is)
    (λ no. ap (λ i. g.R.Read.remaining i) (c.read_mailmaps.ensures.unread no)) (rw (c.as_slice-buffers.ensures.value, c.in_ok-list-in_default.ensures, c.as_slice-in_default.ensures.value) c.in_ok-mailmaps-in_default.ensures.ok) c.report_contacts.ensures.leaves)

pub returns-in-Suggest-clause-leaves : goal.returns-in-Suggest-clause-leaves
returns-in-Suggest-clause-leaves g c =
    let w = wanted_of c.args.request.now in
    in_mode g.W.Write.contents _ _ _ (g.F.FileSystem.at c.args.system.now) (g.R.Read.remaining c.args.input.now) _ (wanted_of c.args.request.now) c.in-Suggest.is
    (left_with AreSuggested (g.F.FileSystem.at c.args.system.now) (g.R.Read.remaining c.args.input.now) _ w
    (map now c.as_slice-buffers.result.now) (ap takes_contacts c.in-Suggest.is)
    (λ no. ap (λ i. g.R.Read.remaining i) (c.read_mailmaps.ensures.unread no)) (search rules) c.suggest_lines.ensures.leaves)

pub returns-clause-leaves : goal.returns-clause-leaves
returns-clause-leaves g c =
    let mailmaps = map now c.as_slice-buffers.result.now in
    let are : AreMailmaps (g.F.FileSystem.at c.args.system.now) (g.R.Read.remaining c.args.input.now) (wanted_of c.args.request.now) mailmaps = search rules in
    in_mode g.W.Write.contents _ _ _ (g.F.FileSystem.at c.args.system.now) (g.R.Read.remaining c.args.input.now) _ (wanted_of c.args.request.now)
    (only_verify c.args.request.now.mode (search rules) (search rules) (search rules) (search rules) (search rules) (search rules) (search rules))
    (leaves_weaker (λ o t made. (mailmaps, are, made)) c.verify.ensures.leaves)

pub returns-in-Explain-clause-refuses : goal.returns-in-Explain-clause-refuses
returns-in-Explain-clause-refuses g c =
    let w = wanted_of c.args.request.now in
    let none = ap (λ m. can_be_mailmap m w.contacts && has_none w.paths) c.in-Explain.is in
    let same = ap (λ i. g.R.Read.remaining i) (c.read_mailmaps.ensures.unread none) in
    on_ok_weaker c.explain_contacts.result (λ known. explained_before w.mode (g.F.FileSystem.at c.args.system.now) w.contacts (g.R.Read.remaining c.args.input.now) (g.R.Read.remaining c.read_mailmaps.new.input) false c.in-Explain.is same known) c.explain_contacts.ensures.refuses

pub returns-in-Explain-clause-fails : goal.returns-in-Explain-clause-fails
returns-in-Explain-clause-fails g c =
    let w = wanted_of c.args.request.now in
    let none = ap (λ m. can_be_mailmap m w.contacts && has_none w.paths) c.in-Explain.is in
    let same = ap (λ i. g.R.Read.remaining i) (c.read_mailmaps.ensures.unread none) in
    IfErr-weaker c.explain_contacts.result _ _ (λ e fails. explaining_fails (g.F.FileSystem.at c.args.system.now) (g.R.Read.remaining c.args.input.now) (g.R.Read.remaining c.read_mailmaps.new.input) w e c.in-Explain.is same fails) c.explain_contacts.ensures.fails

pub returns-in-Contacts-clause-refuses : goal.returns-in-Contacts-clause-refuses
returns-in-Contacts-clause-refuses g c =
    let w = wanted_of c.args.request.now in
    let takes = ap takes_contacts c.in-Contacts.is in
    on_ok_weaker c.report_contacts.result (λ known. log_before w.mode (g.F.FileSystem.at c.args.system.now) w.contacts (g.R.Read.remaining c.args.input.now) (g.R.Read.remaining c.read_mailmaps.new.input) false takes
    (λ dash. ap (λ i. g.R.Read.remaining i) (c.read_mailmaps.ensures.unread (no_mailmap w.mode w.contacts (has_none w.paths) takes dash))) known) c.report_contacts.ensures.refuses

pub returns-in-Contacts-clause-fails : goal.returns-in-Contacts-clause-fails
returns-in-Contacts-clause-fails g c =
    let w = wanted_of c.args.request.now in
    let takes = ap takes_contacts c.in-Contacts.is in
    IfErr-weaker c.report_contacts.result _ _ (λ e fails. contacts_failed (g.F.FileSystem.at c.args.system.now) (g.R.Read.remaining c.args.input.now) (g.R.Read.remaining c.read_mailmaps.new.input) w (map now c.as_slice-buffers.result.now) e takes (rw (c.as_slice-buffers.ensures.value, c.in_ok-list-in_default.ensures, c.as_slice-in_default.ensures.value) c.in_ok-mailmaps-in_default.ensures.ok)
    (λ dash. ap (λ i. g.R.Read.remaining i) (c.read_mailmaps.ensures.unread (no_mailmap w.mode w.contacts (has_none w.paths) takes dash))) fails) c.report_contacts.ensures.fails

pub returns-in-Suggest-clause-refuses : goal.returns-in-Suggest-clause-refuses
returns-in-Suggest-clause-refuses g c =
    let w = wanted_of c.args.request.now in
    let takes = ap takes_contacts c.in-Suggest.is in
    on_ok_weaker c.suggest_lines.result (λ known. log_before w.mode (g.F.FileSystem.at c.args.system.now) w.contacts (g.R.Read.remaining c.args.input.now) (g.R.Read.remaining c.read_mailmaps.new.input) false takes
    (λ dash. ap (λ i. g.R.Read.remaining i) (c.read_mailmaps.ensures.unread (no_mailmap w.mode w.contacts (has_none w.paths) takes dash))) known) c.suggest_lines.ensures.refuses

pub returns-in-Suggest-clause-fails : goal.returns-in-Suggest-clause-fails
returns-in-Suggest-clause-fails g c =
    let w = wanted_of c.args.request.now in
    let takes = ap takes_contacts c.in-Suggest.is in
    IfErr-weaker c.suggest_lines.result _ _ (λ e fails. contacts_failed (g.F.FileSystem.at c.args.system.now) (g.R.Read.remaining c.args.input.now) (g.R.Read.remaining c.read_mailmaps.new.input) w (map now c.as_slice-buffers.result.now) e takes (search rules)
    (λ dash. ap (λ i. g.R.Read.remaining i) (c.read_mailmaps.ensures.unread (no_mailmap w.mode w.contacts (has_none w.paths) takes dash))) fails) c.suggest_lines.ensures.fails
