use Rattle.std.proofs.Common.{◌++◌, [], inl, refl}
use Rattle.std.proofs.KnownBytes.{Consumes-trans}
use Rattle.bstr.specs.Text.{lines_of}
use Rattle.bstr.proofs.lemmas.LineLemmas.{lines-nil}
use Rattle.command_line.proofs.Reading.{all_given}
use Rattle.command_line.proofs.counting.count_contacts.Goals as goal

pub returns-clause-counts : goal.returns-clause-counts
returns-clause-counts g c =
    let start = c.in_ok-partial.partial.items in
    let h = c.in_ok-count_rest.ensures.counts in
    let old = g.R.Read.remaining c.args.input.now in
    let read = g.R.Read.remaining c.read_start.new.input in
    let later = g.R.Read.remaining c.count_rest.new.input in (
      start ++ h.0,
      all_given old later (start ++ h.0) (Consumes-trans old read later start h.0 c.in_ok-partial.ensures.reads h.1) c.in_ok-count_rest.ensures.end,
      c.in_ok-into_contacts.ensures (lines_of (start ++ h.0))
          (h.2 start (record { whole = []; ends = inl refl; is = refl; counted = rw lines-nil c.in_ok-contacts.ensures })),
    )
