use Rattle.std.proofs.Common.{List, ℕ, Bor, Vec, Global, map, subst, sym}
use Rattle.std.specs.Prelude.{OnOk}
use Rattle.mailmap_findings.specs.Needs.{AreUnneeded}
use Rattle.mailmap_findings.specs.Positions.{whole_lines}
use Rattle.mailmap_suggestions.specs.ContactFindings.{AreContactFindings}
use Rattle.mailmap_suggestions.specs.FindingViews.{finding_view}
use Rattle.gix_mailmap_c.specs.Notices.{AreWordsBeside, words_of}
use Rattle.gix_mailmap_c.proofs.notices.push_counted.Goals as goal

pub returns : goal.returns
returns c = λ contacts are empty.
    let lines = whole_lines contacts in
    let items : Vec ℕ Global → List ℕ = λ name. name.items in
    let mailmaps = c.in_ok-mailmaps.mailmaps in
    let unneeded = subst (AreUnneeded mailmaps contacts) (sym c.as_slice.ensures.value) (c.in_ok-unneeded.ensures contacts are) in
    let about = subst (λ ms. AreContactFindings ms lines (map finding_view c.as_slice-2.result.now)) (sym c.in_ok-mailmaps.ensures)
    (subst (λ fs. AreContactFindings (map (λ (b : Bor (List ℕ)). b.now) c.args.buffers.now) lines (map finding_view fs)) (sym c.as_slice-2.ensures.value) (c.in_ok-findings.ensures lines are)) in
    subst (λ ms. OnOk c.push_all.result (AreWordsBeside (map items c.args.names.now) ms c.args.file.now contacts (words_of c.push_all.new.words))) c.in_ok-mailmaps.ensures
    (c.push_all.ensures contacts unneeded about empty)
