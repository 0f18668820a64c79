use Rattle.std.proofs.Common.{◌≡◌, ◌∙◌, ◌∷◌, [], ◌&&◌, ap, false, sym, true}
use Rattle.std.specs.List.{list_all}
use Rattle.mailmap_entries.specs.Entries.{mapping_of}
use Rattle.mailmap_contacts.specs.Answers.{tally_of}
use Rattle.mailmap_suggestions.specs.Private.{are_enough, contacts_of}
use Rattle.mailmap_suggestions.specs.Forms.{are_answered}
use Rattle.mailmap_suggestions.proofs.Forms.{answered_all, plain_first, plain_tried}
use Rattle.mailmap_suggestions.proofs.entries.plain_entry.Goals as goal
use Rattle.mailmap_suggestions.proofs.entries.plain_entry.Goals.{else-fits-via-then-fits+else-are_enough_for_all, else-fits-via-else-fits}

pub returns-then-are_answered : goal.returns-then-are_answered
returns-then-are_answered c =
    let h = c.args.answers.now in
    let to = (tally_of c.args.to.now).contact in
    let ts = c.args.contacts.now in
    let answered : are_answered h to (contacts_of ts) ≡ true = sym (answered_all h to ts) ∙ sym c.are_answered.ensures ∙ c.if-are_answered.true in
    sym (rw answered at (plain_first h to ts c.in_ok-first.first.now c.in_ok-first.ensures.value))

pub returns-then-are_enough_for_all : goal.returns-then-are_enough_for_all
returns-then-are_enough_for_all c =
    let h = c.args.answers.now in
    let to = (tally_of c.args.to.now).contact in
    let ts = c.args.contacts.now in
    let short = c.change_name_by_email-short in
    ap (λ x. x ∷ []) short.ensures
    ∙ plain_tried h to ts c.in_ok-first.first.now c.in_ok-first.ensures.value (sym (answered_all h to ts) ∙ sym c.are_answered.ensures ∙ c.if-are_answered.false) c.requires.0 c.requires.1
    c.new-changes.result (mapping_of short.result) short.ensures (c.new-changes.ensures to c.requires.0) true
    (λ i. (sym c.fits.ensures ∙ c.if-fits.true) i && (sym c.are_enough_for_all.ensures ∙ c.if-are_enough_for_all.true) i)

pub returns : goal.returns
returns c =
    let h = c.args.answers.now in
    let to = (tally_of c.args.to.now).contact in
    let ts = c.args.contacts.now in
    let short = c.change_name_by_email-short in
    ap (λ x. x ∷ []) c.long_form.ensures
    ∙ plain_tried h to ts c.in_ok-first.first.now c.in_ok-first.ensures.value (sym (answered_all h to ts) ∙ sym c.are_answered.ensures ∙ c.if-are_answered.false) c.requires.0 c.requires.1
    c.new-changes.result (mapping_of short.result) short.ensures (c.new-changes.ensures to c.requires.0) false
    (elim c.else-fits.branch [
      | else-fits-via-then-fits+else-are_enough_for_all w ↦ (λ i. (sym c.fits.ensures ∙ w.if-fits.true) i && (sym w.are_enough_for_all.ensures ∙ w.if-are_enough_for_all.false) i)
      | else-fits-via-else-fits w ↦ (λ i. (sym c.fits.ensures ∙ w.if-fits.false) i && list_all (are_enough c.new-changes.result h to) ts)
    ])
