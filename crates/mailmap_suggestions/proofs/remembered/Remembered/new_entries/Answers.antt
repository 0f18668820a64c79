use Rattle.std.proofs.Common.{◌∙◌, ◌++◌, ◌∷◌, [], ap, if◌then◌else◌, map, not, sym, take}
use Rattle.std.proofs.lemmas.List.Elements.{filter-append}
use Rattle.mailmap_contacts.proofs.Steps.{mapped_more}
use Rattle.mailmap_entries.specs.Entries.{mapping_of}
use Rattle.mailmap_suggestions.specs.Suggestions.{is_remembered, new_entries}
use Rattle.mailmap_suggestions.proofs.remembered.Remembered.new_entries.Goals as goal

pub loop-entry-preserved : goal.loop-entry-preserved
loop-entry-preserved c = λ lines are.
    let es = c.args.entries.now in
    let k = c.loop-entry.entry-index in
    let entry = c.entry-item.result in
    c.in_ok-push_unless.ensures
    ∙ (λ i. c.loop-entry.invariant lines are i ++ (if not (c.in_ok-is_known.ensures lines are i) then mapping_of entry ∷ [] else []))
    ∙ sym (filter-append (λ e. not (is_remembered lines e)) (map mapping_of (take k es)) (mapping_of entry ∷ []))
    ∙ ap (new_entries lines) (ap (λ e. map mapping_of (take k es) ++ mapping_of e ∷ []) c.entry-item.is ∙ sym (mapped_more mapping_of es k entry c.loop-entry-test.true))
