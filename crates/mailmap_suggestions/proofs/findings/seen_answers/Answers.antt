use Rattle.std.proofs.Common.{◌+◌, map, subst, sym, take}
use Rattle.std.specs.List.Sorted.{IsStrictlySortedBy}
use Rattle.std.specs.Map.{keys_of}
use Rattle.std.proofs.lemmas.Cmp.{on_total}
use Rattle.mailmap_contacts.specs.Answers.{answer_key, tally_of}
use Rattle.mailmap_contacts.specs.Contacts.{Tally, answered}
use Rattle.mailmap_contacts.proofs.Entries.{contact_total, entries_more, key_cmp}
use Rattle.mailmap_suggestions.proofs.Ordered.{order_kept}
use Rattle.mailmap_suggestions.proofs.Seeing.{answered_more}
use Rattle.mailmap_suggestions.proofs.findings.seen_answers.Goals as goal

pub loop-contact-preserved : goal.loop-contact-preserved
loop-contact-preserved c =
    let ts = c.args.contacts.now in
    let k = c.loop-contact.contact-index in
    let answer : Tally → Tally = answered c.args.answers.now.ours in
    let more = c.in_ok-add_to.ensures.ok in
    record {
      ordered = subst (λ es. IsStrictlySortedBy (key_cmp answer_key) (keys_of es)) (sym more.inserted)
          (order_kept (key_cmp answer_key) (on_total answer_key contact_total) _ _ c.loop-contact.by_answer.entries more.ordered);
      same = entries_more answer_key c.loop-contact.by_answer.entries c.add_to.new.tallies.entries _ _ (map answer (map tally_of (take k ts))) (map answer (map tally_of (take (k + 1) ts))) _
          more c.loop-contact.invariant.same c.ours-answer.ensures
          (answered_more answer ts k _ c.loop-contact-test.true);
    }

pub invariant_of-result : goal.invariant_of-result
invariant_of-result c = c.loop-contact.invariant.ordered
