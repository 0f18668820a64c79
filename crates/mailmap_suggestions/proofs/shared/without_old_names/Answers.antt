use Rattle.std.proofs.Common.{rules, ◌≡◌, ◌∙◌, Bool, List, ap, filter, is_none, map, subst, sym, true}
use Rattle.std.specs.List.{AllByRecursion}
use Rattle.std.proofs.lemmas.Fn.{filter_same}
use Rattle.mailmap_contacts.proofs.Steps.{all_filtered}
use Rattle.mailmap_entries.specs.Entries.{Mapping, mapping_of}
use Rattle.mailmap_entries.specs.Semantics.{is_accepted}
use Rattle.mailmap_entries.proofs.Parts.{filter-map}
use Rattle.mailmap_redundancy.specs.declared.located.LocatedEntry.{LocatedEntry}
use Rattle.mailmap_suggestions.proofs.shared.without_old_names.Goals as goal

abbrev mapping : LocatedEntry → Mapping
mapping x = mapping_of x.entry

abbrev is_unnamed : LocatedEntry → Bool
is_unnamed x = is_none (mapping x).old_name

abbrev IsAccepted : LocatedEntry → Type 0
IsAccepted x = is_accepted (mapping x) ≡ true

pub invariant_of-result : goal.invariant_of-result
invariant_of-result c =
    let all : List LocatedEntry = c.in_ok-entries.entries.items in
    let kept : c.retain.new.self.items ≡ filter is_unnamed all = filter_same _ is_unnamed _ (λ g b f' k. search rules) _ _ c.retain.ensures.filtered in
    let are : AllByRecursion IsAccepted all = subst (AllByRecursion IsAccepted) (sym (c.in_ok-entries.ensures.items ∙ c.deref.ensures.value)) c.history.invariant in
    subst (AllByRecursion IsAccepted) (sym kept) (all_filtered is_unnamed IsAccepted IsAccepted (λ x a _. a) all are)

pub returns : goal.returns
returns c =
    let all : List LocatedEntry = c.in_ok-entries.entries.items in
    let kept : c.retain.new.self.items ≡ filter is_unnamed all = filter_same _ is_unnamed _ (λ g b f' k. search rules) _ _ c.retain.ensures.filtered in
    ap (map mapping) kept ∙ sym (filter-map (λ (e : Mapping). is_none e.old_name) mapping all)
    ∙ ap (filter (λ (e : Mapping). is_none e.old_name)) (ap (map mapping) (c.in_ok-entries.ensures.items ∙ c.deref.ensures.value) ∙ c.history.view_is)
