use Rattle.std.proofs.Common.{map, refl, subst, sym}
use Rattle.std.specs.List.{AllByRecursion}
use Rattle.bstr.specs.Text.{lines_of}
use Rattle.gix_mailmap.specs.Lines.{pieces}
use Rattle.gix_mailmap.specs.CountedContacts.{contacts_from}
use Rattle.gix_mailmap.specs.Forms.{alike}
use Rattle.gix_mailmap.specs.GroupEntries.{IsWritableContact}
use Rattle.gix_mailmap.specs.Selections.{AreLinked, Selects, after_names, by_login, is_left_out_later}
use Rattle.gix_mailmap.specs.Shared.{shared_emails}
use Rattle.gix_mailmap.specs.Suggestions.{AreGroupClasses}
use Rattle.gix_mailmap.specs.Written.{ContactHoldsNoZero, HoldsNoZero}
use Rattle.caller_promises.specs.Suggested.{EmailsAgree, contacts_in, mappings_in, selection_of, with_last}
use Rattle.caller_promises.proofs.Appending.{any_ok, each_counted, selected}
use Rattle.caller_promises.proofs.suggesting.answer_selected.Goals as goal

pub returns-clause-answers : goal.returns-clause-answers
returns-clause-answers c = c.answers_with.ensures (lines_of c.args.contacts.now) c.in_ok-counted.ensures

pub returns-clause-selected : goal.returns-clause-selected
returns-clause-selected c = λ k passes next_passes edited read no_zero.
    let others = map (λ b. b.now) c.args.others.now in
    let last = c.args.last.now in
    let before = with_last others last in
    let h = mappings_in before in
    let text = c.args.contacts.now in
    let all = contacts_from 1 (lines_of text) in
    let ts = contacts_in text in
    let shared = shared_emails (alike h) ts in
    let same = c.law_read_alike.ensures.histories before read in
    let named = c.law_read_alike.ensures.names before in
    let writable = c.law_suggested_text.ensures.mappings before in
    let counted = each_counted all ts (λ d. (c.law_tallied.ensures all d).1) in
    let each_writable = counted IsWritableContact (subst (AllByRecursion (λ t. IsWritableContact t.contact)) (sym (c.law_line_feeds.ensures.contacts 1 text))
    (c.law_suggested_text.ensures.contacts (pieces text) ((c.law_pieces.ensures text (pieces text)).0 refl).no_feed)) in
    let free = subst (AllByRecursion HoldsNoZero) same (c.law_no_zero.ensures.mappings before) in
    let each_free = counted ContactHoldsNoZero no_zero in
    let are = subst (λ g. AreGroupClasses (shared_emails (record { ours = h; gits = g }) ts) (record { ours = h; gits = g }) ts k) same edited.are_classes in
    let s = selection_of before ts k passes next_passes in
    let linked : AreLinked s = record { by_name = are.by_name; by_login = λ j passed. are.by_login } in
    let found = selected others last c.args.text.now ts same k passes next_passes edited.is c.law_text_after.ensures.ours_fed c.law_text_after.ensures.gits_fed
    (c.law_suggested_text.ensures.selected s writable each_writable linked)
    (c.law_suggested_text.ensures.selected_gits s writable each_writable linked free each_free) in
    any_ok c.answers_with.result _ (record {
      read = found.0;
      by_name = c.law_selected.ensures.names s named linked;
      by_login = subst (Selects s.seen (is_left_out_later s) (by_login s) (after_names s)) (sym found.1) (c.law_selected.ensures.logins s named linked);
      emails = subst (EmailsAgree s) (sym found.1) (c.law_selected.ensures.emails s named linked);
    })
