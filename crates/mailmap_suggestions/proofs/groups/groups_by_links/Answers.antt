use Rattle.std.proofs.Common.{◌≡◌, ◌∙◌, ap, map}
use Rattle.std.proofs.lemmas.List.{length-map}
use Rattle.std.proofs.lemmas.Result.{IfOk-weaker}
use Rattle.mailmap_contacts.specs.Answers.{tally_of}
use Rattle.mailmap_contacts.specs.Contacts.{Contact}
use Rattle.mailmap_entries.specs.Folding.{Text, folded}
use Rattle.mailmap_suggestions.specs.GroupEntries.{groups}
use Rattle.mailmap_suggestions.specs.Links.{AreClassesBy, answers}
use Rattle.mailmap_suggestions.specs.Private.{tallies_in, text_of}
use Rattle.mailmap_suggestions.proofs.Grouping.{class_texts, each_first, each_link, same_length}
use Rattle.mailmap_suggestions.proofs.groups.groups_by_links.Goals as goal

pub classes_by-requires : goal.classes_by-requires
classes_by-requires c =
    let h = c.args.answers.now in
    let ts = map tally_of c.args.contacts.now in
    let ms = c.args.members.now in
    let are = c.requires.members in
    let by = c.requires.links in
    record { links = each_link h ts ms are by.0 c.args.links.items by.1; firsts = each_first h ts ms are }

pub groups_by_class-requires : goal.groups_by_class-requires
groups_by_class-requires c =
    let h = c.args.answers.now in
    let ts = map tally_of c.args.contacts.now in
    let are = c.requires.members in
    let by = c.in_ok-classes.ensures h ts c.requires.links.0 are c.requires.links.1 in
    let texts : map (λ v. folded v.items) c.as_slice.result.now ≡ map (text_of by.0 h) ts = ap (map (λ v. folded v.items)) c.as_slice.ensures.value ∙ by.2 ∙ class_texts h ts c.args.members.now are by.0 in
    same_length (λ v. folded v.items) (text_of by.0 h) c.as_slice.result.now ts texts ∙ length-map c.args.contacts.now tally_of

pub returns : goal.returns
returns c = λ marks_of links.
    let h = c.args.answers.now in
    let ts = map tally_of c.args.contacts.now in
    let are = c.requires.members in
    let by = c.in_ok-classes.ensures h ts marks_of are links in
    let texts : map (λ v. folded v.items) c.as_slice.result.now ≡ map (text_of by.0 h) ts = ap (map (λ v. folded v.items)) c.as_slice.ensures.value ∙ by.2 ∙ class_texts h ts c.args.members.now are by.0 in
    IfOk-weaker c.groups_by_class.result (λ found. map tallies_in found.items ≡ groups by.0 h ts)
    (λ found. (class : Contact → Text) × AreClassesBy marks_of (answers h ts) class × (map tallies_in found.items ≡ groups class h ts))
    (λ found is. (by.0, by.1, is)) (c.groups_by_class.ensures by.0 texts)
