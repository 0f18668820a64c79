use Rattle.std.proofs.Common.{rules, flat_map, map}
use Rattle.std.proofs.lemmas.Result.{on_err_weaker, on_ok_weaker}
use Rattle.bstr.specs.Text.{lines_of}
use Rattle.mailmap_snapshot.specs.Folding.{Text}
use Rattle.mailmap_contacts.specs.Counts.{AreContactsOf}
use Rattle.mailmap_shortlog.specs.Answers.{answer_counted}
use Rattle.mailmap_shortlog.specs.Shortlog.{IsShortlog, answers_counted, counted_text}
use Rattle.mailmap_shortlog.proofs.Listing.{err_then, shortlog_made}
use Rattle.mailmap_shortlog.proofs.shortlog.print_shortlog.Given as given
use Rattle.mailmap_shortlog.proofs.shortlog.print_shortlog.Goals as goal
use Rattle.mailmap_shortlog.proofs.shortlog.print_shortlog.Goals.{After-print_lines}

-- what is printed is the shortlog of what was listed
made : (g : given.Over) (c : After-print_lines g) (text : Text) → AreContactsOf (lines_of text) c.args.contacts.now
    → IsShortlog c.args.options.by_count (answers_counted c.args.options.with_email (map (λ b. b.now) c.args.buffers.now) text)
    (flat_map counted_text (map answer_counted c.in_ok-listed.listed.items))
made g c text are =
    let listed = c.in_ok-listed.ensures in
    shortlog_made c.args.options.by_count c.args.options.with_email (map (λ b. b.now) c.args.buffers.now) c.in_ok-snapshot.snapshot
    c.in_ok-snapshot.ensures text c.args.contacts.now listed.answers c.in_ok-listed.listed.items are
    listed.tallied listed.once listed.moved listed.in_order

pub returns-clause-leaves : goal.returns-clause-leaves
returns-clause-leaves g c = λ text are.
    let a = (goal.at.returns-clause-leaves g c).After-print_lines in
    record {
      prints = on_ok_weaker c.print_lines.result
          (λ printed. (_, made g a text are, rw (a.in_ok-printer.ensures, a.as_slice.ensures.value) at printed)) c.print_lines.ensures.writes.ok;
      breaks_off = λ failed. err_then c.print_lines.result _ _ (on_err_weaker c.print_lines.result
          (λ broken. (_, made g a text are, (broken.0, rw (a.in_ok-printer.ensures, a.as_slice.ensures.value) at broken.1)))
          c.print_lines.ensures.writes.err) failed;
      silent = search rules;
    }
