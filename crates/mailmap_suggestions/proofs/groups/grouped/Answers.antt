use Rattle.std.proofs.Common.{◌∙◌, ◌≤◌, ◌++◌, ◌∷◌, [], Some, ap, cond, length, map, subst, sym, take, take_all, unwrap_or}
use Rattle.std.specs.BTreeMap.{get, is_at}
use Rattle.mailmap_contacts.specs.Answers.{tally_of}
use Rattle.mailmap_contacts.proofs.Steps.{mapped_more}
use Rattle.mailmap_suggestions.specs.Keys.{key_cmp}
use Rattle.mailmap_suggestions.specs.Private.{grouped, keyed_of, tallies_in, with_member}
use Rattle.mailmap_suggestions.proofs.Numbered.{AreGrouped, grouped_more, group_within}
use Rattle.mailmap_suggestions.proofs.groups.grouped.Goals as goal

pub loop-key-preserved : goal.loop-key-preserved
loop-key-preserved c =
    let keyed = c.args.keyed.now in
    let k = c.loop-key.key-index in
    let item = c.loop-key-item.result in
    let numbers = c.loop-key.numbers in
    let groups = c.loop-key.groups.items in
    let before = map keyed_of (take k keyed) in
    let number = c.in_ok-number.ensures.first ∙ ap (unwrap_or (get key_cmp numbers item.0)) (c.len.ensures ∙ c.loop-key.groups.ok.0) in
    subst (λ l. AreGrouped l c.first_value.new.values c.add_to.new.groups.items)
    (sym (mapped_more keyed_of keyed k item c.loop-key-test.true ∙ ap (λ x. before ++ keyed_of x ∷ []) (sym c.loop-key-item.is)))
    (grouped_more before item.0 numbers groups c.loop-key.invariant (tally_of item.1) c.first_value.new.values c.add_to.new.groups.items
    (c.in_ok-add_to.ensures ∙ ap (λ n. with_member n (tally_of item.1) (map tallies_in groups)) number)
    (λ q. c.in_ok-number.ensures.updates q ∙ ap (λ n. cond (is_at (key_cmp item.0) q) (Some n) (get key_cmp numbers q)) number))

pub add_to-requires : goal.add_to-requires
add_to-requires c =
    let item = c.loop-key-item.result in
    let groups = c.loop-key.groups in
    let number = c.in_ok-number.ensures.first ∙ ap (unwrap_or (get key_cmp c.loop-key.numbers item.0)) (c.len.ensures ∙ groups.ok.0) in
    subst (λ n. n ≤ length groups.items) (sym number)
    (group_within (map keyed_of (take c.loop-key.key-index c.args.keyed.now)) item.0 c.loop-key.numbers groups.items c.loop-key.invariant)

pub returns : goal.returns
returns c =
    c.loop-key.invariant.groups
    ∙ ap (λ l. grouped (map keyed_of l)) (take_all c.loop-key.key-index c.args.keyed.now c.loop-key-test.false)
