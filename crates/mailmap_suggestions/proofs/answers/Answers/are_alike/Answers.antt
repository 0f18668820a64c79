use Rattle.std.proofs.Common.{◌≡◌, ◌∙◌, Some, ap, option_copied, slice_get, sym}
use Rattle.std.specs.List.{list_all}
use Rattle.mailmap_contacts.specs.Answers.{tally_of}
use Rattle.mailmap_contacts.specs.Contacts.{Tally}
use Rattle.mailmap_suggestions.specs.Forms.{is_answered}
use Rattle.mailmap_suggestions.proofs.Forms.{answered_as_first}
use Rattle.mailmap_suggestions.proofs.answers.Answers.are_alike.Goals as goal

pub returns-in-Some : goal.returns-in-Some
returns-in-Some c =
    let h = c.args.self.now in
    let group = c.args.group.now in
    let first : slice_get group 0 ≡ Some c.in-Some.first.now = sym c.first.ensures.value ∙ ap option_copied c.in-Some.is in
    c.are_answered.ensures ∙ ap (λ (t : Tally). list_all (λ u. is_answered h t.contact (tally_of u).contact) group) c.ours.ensures
    ∙ answered_as_first h group c.in-Some.first.now first
