use Rattle.std.proofs.Common.{◌∙◌, ap, map, rules}
use Rattle.mailmap_names.specs.Keys.{keys}
use Rattle.mailmap_suggestions.specs.LinkViews.{mark_texts, own_and, vec_texts}
use Rattle.mailmap_suggestions.proofs.Holding.{holders_joined, mapped_after}
use Rattle.mailmap_suggestions.proofs.links.names_of.Goals as goal

pub loop-member-preserved : goal.loop-member-preserved
loop-member-preserved c =
    let members = c.args.participants.now in
    let i = c.loop-member.member-index in (
      holders_joined (λ c. keys c.name) members i _ c.loop-member.names c.add_all.new.self (mark_texts c.in_ok-keys.keys.items) c.loop-member-test.true
          c.loop-member.invariant.0 c.in_ok-keys.ensures c.in_ok-add_all.ensures,
      mapped_after (own_and (λ c. keys c.name)) members i _ vec_texts (map vec_texts c.args.name_keys.now.items) c.loop-member.name_keys.items c.push.new.self.items
          c.in_ok-copies.field-0 c.loop-member-test.true c.loop-member.invariant.1 (search rules)
          (c.in_ok-copies.ensures ∙ ap mark_texts c.deref.ensures.value ∙ c.in_ok-keys.ensures),
    )
