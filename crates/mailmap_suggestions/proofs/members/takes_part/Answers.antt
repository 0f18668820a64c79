use Rattle.std.proofs.Common.{◌≡◌, ◌≢◌, ◌∙◌, ◌&&◌, Bool, [], ap, filter, not, refl, sym, true≢false}
use Rattle.std.specs.List.{list_all}
use Rattle.mailmap_contacts.specs.Contacts.{answer_to, has_text}
use Rattle.mailmap_suggestions.specs.Forms.{is_shared}
use Rattle.mailmap_suggestions.specs.GroupEntries.{contacts}
use Rattle.mailmap_suggestions.specs.Links.{are_like, is_spelled_once}
use Rattle.mailmap_suggestions.specs.LinkViews.{answer_in}
use Rattle.mailmap_suggestions.proofs.Participating.{if_shared, in_list, is_apart, not_apart, respelled_is, unnamed_is}
use Rattle.mailmap_suggestions.proofs.members.takes_part.Goals as goal
use Rattle.mailmap_suggestions.proofs.members.takes_part.Goals.{then-not-contains, else-not-contains}

pub returns-else-not-contains-2 : goal.returns-else-not-contains-2
returns-else-not-contains-2 c = λ h ts ms are unnamed respelled among.
    let m = c.args.member.now in
    let a = answer_in m in
    let named : Bool = list_all (λ c. has_text c.name) (filter (λ c. are_like (answer_to h.ours c) a) (contacts ts)) in
    let once : Bool = is_spelled_once h ts a.email in
    let some : c.args.shared.now ≢ [] =
    λ e. true≢false (sym (sym c.contains-then-has_text.ensures ∙ c.if-not-contains-2.false) ∙ ap (λ l. is_shared l a.email) e) in
    let found : c.contains.result ≡ not named = c.contains.ensures
    ∙ unnamed_is h ts ms c.args.unnamed.now a c.folded.result are (unnamed some) c.folded.ensures.name c.folded.ensures.email in
    let apart : c.if-not-contains.is_apart ≡ (named && once) = elim c.if-not-contains.branch [
      | then-not-contains w ↦ w.is_apart-is ∙ is_apart named once c.contains.result found w.if-not-contains.true w.contains-then-not-contains.result
          (w.contains-then-not-contains.ensures ∙ respelled_is h ts ms c.args.respelled.now m (record { text = record { ref_ptr = (0, 0); now = a.email } }) are (respelled some) (in_list ms m among) refl)
      | else-not-contains w ↦ w.is_apart-is ∙ not_apart named once c.contains.result found w.if-not-contains.false
    ] in
    apart ∙ if_shared (has_text a.email) (is_shared c.args.shared.now a.email) (named && once)
    (sym c.has_text.ensures ∙ c.if-has_text.true) (sym c.contains-then-has_text.ensures ∙ c.if-not-contains-2.false)
