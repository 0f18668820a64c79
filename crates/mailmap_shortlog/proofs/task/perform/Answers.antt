use Rattle.std.proofs.Common.{rules, ◌≡◌, Err}
use Rattle.mailmap_entries.specs.Texts.{texts}
use Rattle.mailmap_shortlog.proofs.Listing.{leaves_err, leaves_ok, leaves_weaker}
use Rattle.mailmap_shortlog.proofs.task.perform.Goals as goal

pub returns-in_err-print_shortlog-in-Shortlog-clause-leaves : goal.returns-in_err-print_shortlog-in-Shortlog-clause-leaves
returns-in_err-print_shortlog-in-Shortlog-clause-leaves g c =
    let read = c.in_ok-contacts-in-Shortlog.ensures.counts in
    let failed : c.from_residual-in_err-print_shortlog-in-Shortlog.result ≡ Err c.in_err-print_shortlog-in-Shortlog.field-0.0 = search rules in
    rw failed (leaves_err (leaves_weaker {r = Err c.in_err-print_shortlog-in-Shortlog.field-0.0} (λ text made. rw c.in-Shortlog.is (
      texts c.in_ok-mailmaps-in-Shortlog.mailmaps.items,
      c.in_ok-mailmaps-in-Shortlog.ensures.ok,
      (read.0, read.1, rw (c.as_slice-buffers.ensures.value, c.in_ok-list-in-Shortlog.ensures, c.as_slice.ensures.value) at made),
    )) (c.in_err-print_shortlog-in-Shortlog.ensures.leaves read.0 read.2)))

pub returns-in_ok-print_shortlog-in-Shortlog-clause-leaves : goal.returns-in_ok-print_shortlog-in-Shortlog-clause-leaves
returns-in_ok-print_shortlog-in-Shortlog-clause-leaves g c =
    let read = c.in_ok-contacts-in-Shortlog.ensures.counts in
    leaves_ok c.skipped_of.result (leaves_weaker (λ text made. rw c.in-Shortlog.is (
      texts c.in_ok-mailmaps-in-Shortlog.mailmaps.items,
      c.in_ok-mailmaps-in-Shortlog.ensures.ok,
      (read.0, read.1, rw (c.as_slice-buffers.ensures.value, c.in_ok-list-in-Shortlog.ensures, c.as_slice.ensures.value) at made),
    )) (c.in_ok-print_shortlog-in-Shortlog.ensures.leaves read.0 read.2))
