use Rattle.std.proofs.Common.{◌+◌, take}
use Rattle.mailmap_contacts.specs.Folded.{folded_text}
use Rattle.mailmap_contacts.specs.declared.folded.Folded.{Folded}
use Rattle.mailmap_contacts.proofs.Steps.{mapped_more}
use Rattle.mailmap_suggestions.proofs.Strangers.{index_more}
use Rattle.mailmap_suggestions.proofs.shared.index_of.Goals as goal

pub loop-email-preserved : goal.loop-email-preserved
loop-email-preserved c =
    let emails = c.args.emails.now in
    let k = c.loop-email.email-index in
    let key : Folded = record { text = record { ref_ptr = (0, 0); now = _ } } in
    index_more (take k emails) (take (k + 1) emails) key c.loop-email.index c.insert.new.self (mapped_more folded_text emails k _ c.loop-email-test.true)
    c.loop-email.invariant c.in_ok-insert.ensures.updates.0
