use Rattle.std.proofs.Common.{◌≡◌, ◌∙◌, ◌++◌, None, Some, ap, append-nil, false, map, option_copied, slice_get, sym, true}
use Rattle.std.proofs.lemmas.List.{map-append}
use Rattle.mailmap_contacts.specs.Folded.{folded_text}
use Rattle.mailmap_suggestions.specs.Forms.{distinct}
use Rattle.mailmap_suggestions.specs.Private.{contacts_of}
use Rattle.mailmap_suggestions.specs.Shared as spec
use Rattle.mailmap_suggestions.specs.SharedViews.{folded_texts}
use Rattle.mailmap_suggestions.proofs.Strangers.{several_at, several_none}
use Rattle.mailmap_suggestions.proofs.shared.push_if_several.Goals as goal

pub returns-in_default : goal.returns-in_default
returns-in_default c =
    let group = c.args.group.now in
    let old = folded_texts c.args.shared.now.items in
    let none : slice_get group 0 ≡ None = sym c.first.ensures.value ∙ ap option_copied c.in_default.is in
    sym (append-nil old) ∙ ap (λ l. old ++ l) (sym (several_none group none))

pub returns-in_ok-push : goal.returns-in_ok-push
returns-in_ok-push c =
    let group = c.args.group.now in
    let old = c.args.shared.now.items in
    let first : slice_get group 0 ≡ Some c.in-Some.first.now = sym c.first.ensures.value ∙ ap option_copied c.in-Some.is in
    let several : true ≡ spec.are_several (distinct (map (λ c. c.name) (contacts_of group))) = sym c.if-several.true ∙ c.in_ok-several.ensures in
    ap folded_texts c.in_ok-push.ensures.items ∙ map-append folded_text old _ ∙ ap (λ l. folded_texts old ++ l) (sym (several_at group c.in-Some.first.now true first several))

pub returns-else-several : goal.returns-else-several
returns-else-several c =
    let group = c.args.group.now in
    let old = folded_texts c.args.shared.now.items in
    let first : slice_get group 0 ≡ Some c.in-Some.first.now = sym c.first.ensures.value ∙ ap option_copied c.in-Some.is in
    let several : false ≡ spec.are_several (distinct (map (λ c. c.name) (contacts_of group))) = sym c.if-several.false ∙ c.in_ok-several.ensures in
    sym (append-nil old) ∙ ap (λ l. old ++ l) (sym (several_at group c.in-Some.first.now false first several))
