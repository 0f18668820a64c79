use Rattle.std.proofs.Common.{◌≡◌, map, refl, subst, sym}
use Rattle.std.specs.List.{AllByRecursion}
use Rattle.bstr.specs.Text.{lines_of}
use Rattle.gix_mailmap.specs.Lines.{pieces}
use Rattle.gix_mailmap.specs.CountedContacts.{contacts_from}
use Rattle.gix_mailmap.specs.Forms.{alike}
use Rattle.gix_mailmap.specs.GroupEntries.{IsWritableContact}
use Rattle.gix_mailmap.specs.Printed.{IsSuggested}
use Rattle.gix_mailmap.specs.Shared.{shared_emails}
use Rattle.gix_mailmap.specs.Suggestions.{lines_in}
use Rattle.gix_mailmap.specs.Written.{ContactHoldsNoZero, HoldsNoZero}
use Rattle.caller_promises.specs.Suggested.{contacts_in, mappings_in, with_last}
use Rattle.caller_promises.proofs.Appending.{any_ok, each_counted, united}
use Rattle.caller_promises.proofs.suggesting.answer_suggested.Goals as goal

pub returns-clause-answers : goal.returns-clause-answers
returns-clause-answers c = c.answers_with.ensures (lines_of c.args.contacts.now) c.in_ok-counted.ensures

pub returns-clause-united : goal.returns-clause-united
returns-clause-united c = λ printed read no_zero.
    let others = map (λ b. b.now) c.args.others.now in
    let last = c.args.last.now in
    let before = with_last others last in
    let h = mappings_in before in
    let text = c.args.contacts.now in
    let all = contacts_from 1 (lines_of text) in
    let ts = contacts_in text in
    let shared = shared_emails (alike h) ts in
    let is = subst (λ lines. IsSuggested before lines c.args.text.now) (sym (c.law_whole_lines.ensures.lines text)) printed in
    let same = c.law_read_alike.ensures.histories before read in
    let named = c.law_read_alike.ensures.names before in
    let writable = c.law_suggested_text.ensures.mappings before in
    let counted = each_counted all ts (λ d. (c.law_tallied.ensures all d).1) in
    let each_writable = counted IsWritableContact (subst (AllByRecursion (λ t. IsWritableContact t.contact)) (sym (c.law_line_feeds.ensures.contacts 1 text))
    (c.law_suggested_text.ensures.contacts (pieces text) ((c.law_pieces.ensures text (pieces text)).0 refl).no_feed)) in
    let free = subst (AllByRecursion HoldsNoZero) same (c.law_no_zero.ensures.mappings before) in
    let each_free = counted ContactHoldsNoZero no_zero in
    let found = united others last c.args.text.now ts same is.0 is.2 c.law_text_after.ensures.ours_fed c.law_text_after.ensures.gits_fed
    (c.law_suggested_text.ensures.emails shared is.0 (lines_in before) h ts writable each_writable)
    (c.law_suggested_text.ensures.gits shared is.0 (lines_in before) h ts writable each_writable free each_free)
    (record {
      emails = c.law_suggestions.ensures.emails shared h ts named;
      others = c.law_suggestions.ensures.others shared h ts named;
      at_shared = c.law_suggestions.ensures.at_shared shared h ts named;
      joined = c.law_suggestions.ensures.joined shared h ts named;
    }) in
    any_ok c.answers_with.result _ found
