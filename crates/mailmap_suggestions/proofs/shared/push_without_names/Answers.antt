use Rattle.std.proofs.Common.{◌≡◌, ◌∙◌, ◌++◌, Bool, ap, is_none, map, sym}
use Rattle.std.specs.List.{list_all}
use Rattle.std.proofs.lemmas.List.{map-append}
use Rattle.std.proofs.lemmas.List.Folds.{list_all-map}
use Rattle.mailmap_contacts.specs.Answers.{tally_of}
use Rattle.mailmap_contacts.specs.Folded.{folded_text}
use Rattle.mailmap_entries.specs.Entries.{Mapping, mapping_of}
use Rattle.mailmap_redundancy.specs.declared.located.LocatedEntry.{LocatedEntry}
use Rattle.mailmap_suggestions.specs.Shared.{answers_with_email, emails_of_several, without_old_names}
use Rattle.mailmap_suggestions.specs.SharedViews.{folded_texts}
use Rattle.mailmap_suggestions.proofs.Strangers.{all_kept}
use Rattle.mailmap_suggestions.proofs.shared.push_without_names.Goals as goal

pub returns-then-have_no_old_names : goal.returns-then-have_no_old_names
returns-then-have_no_old_names c =
    let h = c.args.history.now in
    let old = c.args.shared.now.items in
    let is_unnamed : Mapping → Bool = λ e. is_none e.old_name in
    let all = ap (list_all is_unnamed) (sym c.history.view_is) ∙ list_all-map is_unnamed (λ (x : LocatedEntry). mapping_of x.entry) c.history.inside.entries.items
    ∙ ap (list_all (λ (x : LocatedEntry). is_unnamed (mapping_of x.entry))) (sym c.deref.ensures.value) ∙ sym c.have_no_old_names.ensures ∙ c.if-have_no_old_names.true in
    let kept : without_old_names h ≡ h = all_kept is_unnamed h all in
    let again = c.deref-then-have_no_old_names-2.ensures.value ∙ c.in_ok-again.ensures.items ∙ c.deref-then-have_no_old_names.ensures.value in
    ap folded_texts (c.in_ok-extend_from_slice.ensures.items ∙ ap (λ l. old ++ l) again) ∙ map-append folded_text old old
    ∙ ap (λ l. folded_texts old ++ l) (c.requires ∙ ap (λ h. emails_of_several (answers_with_email h (map tally_of c.args.contacts.now))) (sym kept))
