use Rattle.std.proofs.Common.{◌≡◌, ◌∙◌, [], ap, if◌then◌else◌, map, refl, sym}
use Rattle.mailmap_entries.specs.Entries.{mapping_of}
use Rattle.mailmap_entries.proofs.Parts.{list_any-map}
use Rattle.mailmap_contacts.specs.Answers.{tally_of}
use Rattle.mailmap_contacts.specs.Proper.{proper}
use Rattle.mailmap_suggestions.specs.EntryLines.{is_cut_by_git}
use Rattle.mailmap_suggestions.specs.Forms.{entries_to}
use Rattle.mailmap_suggestions.specs.GroupEntries.{are_cut, contact_or_nobody, contacts, of_one_person, or_else, proper_answer}
use Rattle.mailmap_suggestions.specs.Suggestions.{Suggestion, entries_for, is_of_several}
use Rattle.mailmap_suggestions.specs.Views.{kind_of}
use Rattle.mailmap_suggestions.proofs.Suggested.{suggestion_made}
use Rattle.mailmap_suggestions.proofs.suggestions.suggest_for.Goals as goal

pub returns : goal.returns
returns c =
    let shared = c.args.shared.now in
    let base = c.args.base.now in
    let h = c.args.answers.now in
    let kind = kind_of c.args.kind in
    let g = map tally_of c.args.group.now in
    let proper_is : (tally_of c.in_ok-proper.proper).contact ≡ proper_answer shared h g =
    c.in_ok-proper.ensures ∙ ap (λ l. contact_or_nobody (proper (or_else (of_one_person shared l) l))) (ap (map tally_of) c.as_slice.ensures.value ∙ c.in_ok-counted.ensures) in
    let wanted : map mapping_of c.in_ok-wanted.wanted.items ≡ entries_for kind shared base h g =
    c.in_ok-wanted.ensures ∙ ap (λ to. if is_of_several kind then [] else entries_to shared base to (contacts g)) proper_is in
    let cut = c.are_cut-is_cut.ensures ∙ sym (list_any-map is_cut_by_git mapping_of c.as_slice-2.result.now) ∙ ap (λ l. are_cut (map mapping_of l)) c.as_slice-2.ensures.value ∙ ap are_cut wanted in
    let made : Suggestion = record {
      kind = kind;
      answers = map tally_of c.in_ok-counted.counted.items;
      git_answers = map tally_of c.in_ok-git_answers.git_answers.items;
      proper = (tally_of c.in_ok-proper.proper).contact;
      entries = map mapping_of c.unless_cut-entries.result.items;
      is_cut = c.are_cut-is_cut.result;
    } in
    suggestion_made shared base h kind g made refl c.in_ok-counted.ensures c.in_ok-git_answers.ensures proper_is cut
    (c.unless_cut-entries.ensures ∙ ap (λ l. if c.are_cut-is_cut.result then [] else l) wanted)
