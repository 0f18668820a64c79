use Rattle.std.proofs.Common.{rules, ◌≡◌, ◌∙◌, ◌∷◌, [], ℕ, Bor, ap, filter, map, not, refl, sym}
use Rattle.std.specs.Prelude.{is_some}
use Rattle.std.specs.Global.{Vec}
use Rattle.std.specs.Map.Iter.{deref_pair}
use Rattle.std.proofs.lemmas.List.{map-append}
use Rattle.std.proofs.lemmas.List.Elements.{filter_agree}
use Rattle.std.proofs.lemmas.Map.Iter.{iter_end}
use Rattle.mailmap_findings.specs.Needs.{any_needs, needs}
use Rattle.mailmap_findings.proofs.ContactNeeds.{unneeded_none}
use Rattle.mailmap_grammar.specs.Trimming.{trim}
use Rattle.mailmap_contacts.specs.Contacts.{Tally, read_by, seen_where, trimmed}
use Rattle.mailmap_contacts.specs.declared.occurrences.Occurrences.{Occurrences}
use Rattle.mailmap_contacts.proofs.Entries.{item_tally, items_are}
use Rattle.mailmap_contacts.proofs.RawContacts.{trimmed_same}
use Rattle.mailmap_suggestions.proofs.Needing.{any_on_lines, crossed_off, needing}
use Rattle.mailmap_suggestions.proofs.unneeded.add_to_needs.Goals as goal

pub loop-name-init : goal.loop-name-init
loop-name-init c = (refl, (refl, unneeded_none c.args.needs.now.kept c.args.needs.now.left))

pub loop-name-preserved : goal.loop-name-preserved
loop-name-preserved c =
    let kept = c.args.needs.now.kept in
    let all = c.args.needs.now.left in
    let done = c.loop-name.yielded in
    let item : Bor (Vec ℕ × Vec ℕ) × Bor Occurrences = (c.in-Some.field-0-0, c.in-Some.field-0-1) in
    let read : Tally → Tally = read_by trimmed in
    let name : c.trim.result.now ≡ trim c.in-Some.field-0-0.now.0.items = search rules in
    let email : c.trim-in-loop-name.result.now ≡ trim c.in-Some.field-0-0.now.1.items = search rules in
    let before = c.loop-name.invariant in (
      c.add_contact.ensures.history ∙ before.0,
      (
        c.add_contact.ensures.kept ∙ before.1.0,
        c.add_contact.ensures.left ∙ (λ i. filter (λ p. not (needs (before.1.0 i) (name i) (email i) p)) (before.1.1 i))
            ∙ crossed_off kept (map read (map item_tally done)) (read (item_tally item)) all
            ∙ ap (λ ts. filter (λ p. not (is_some (seen_where (needing kept p) ts))) all)
            (sym (ap (map read) (map-append item_tally done (item ∷ [])) ∙ map-append read (map item_tally done) (item_tally item ∷ []))),
      ),
    )

pub returns-clause-left : goal.returns-clause-left
returns-clause-left c = λ lines are.
    let kept = c.args.needs.now.kept in
    let end : map deref_pair c.loop-name.yielded ≡ c.tallies.result.now.entries = search (rules, iter_end) in
    let items = items_are c.loop-name.yielded c.tallies.result.now.entries end ∙ c.tallies.ensures in
    c.loop-name.invariant.1.1 ∙ filter_agree _ (λ p. not (any_needs kept lines p))
    (λ p. ap not (ap (λ ts. is_some (seen_where (needing kept p) (map (read_by trimmed) ts))) items
    ∙ ap is_some (trimmed_same lines c.args.contacts.now are (needing kept p)) ∙ any_on_lines kept p 1 lines))
    c.args.needs.now.left
