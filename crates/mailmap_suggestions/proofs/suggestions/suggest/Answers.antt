use Rattle.std.proofs.Common.{◌≡◌, ◌∙◌, Bor, List, ℕ, ap, map, subst}
use Rattle.std.specs.Prelude.{IfOk}
use Rattle.mailmap_contacts.specs.Answers.{tally_of}
use Rattle.mailmap_contacts.specs.Contacts.{Tally, contacts_from, tallied}
use Rattle.mailmap_entries.specs.Folding.{Text}
use Rattle.mailmap_suggestions.specs.Forms.{Histories}
use Rattle.mailmap_suggestions.specs.Histories.{histories_of}
use Rattle.mailmap_suggestions.specs.Shared.{shared_emails}
use Rattle.mailmap_suggestions.specs.Suggestions.{AreGroupClasses, GroupClasses, lines_in, suggestions}
use Rattle.mailmap_suggestions.specs.Views.{suggestion_of}
use Rattle.mailmap_suggestions.proofs.suggestions.suggest.Goals as goal

pub returns : goal.returns
returns c = λ lines are.
    let mailmaps = map (λ (b : Bor (List ℕ)). b.now) c.args.buffers.now in
    let h = histories_of mailmaps in
    let ts = map tally_of c.as_slice-contacts.result.now in
    let same : ts ≡ tallied (contacts_from 1 lines) = ap (map tally_of) c.as_slice-contacts.ensures.value ∙ c.in_ok-counted.ensures lines are in
    let Found : List Text → Histories → List Tally → Type 0 = λ shared h ts. IfOk c.all_stages.result (λ found. (k : GroupClasses) × AreGroupClasses shared h ts k
    × (map suggestion_of found.items ≡ suggestions shared k (lines_in mailmaps) h ts)) in
    subst (λ us. Found (shared_emails h us) h us) same
    (subst (λ g. Found (shared_emails g ts) g ts) c.in_ok-histories.ensures
    (subst (λ shared. Found shared c.in_ok-histories.histories ts) c.in_ok-shared.ensures (c.all_stages.ensures (lines_in mailmaps) c.in_ok-remembered.ensures)))
