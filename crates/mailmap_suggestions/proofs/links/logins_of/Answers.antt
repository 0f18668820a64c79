use Rattle.std.proofs.Common.{◌∙◌, ap}
use Rattle.mailmap_suggestions.specs.Forests.{links_of}
use Rattle.mailmap_suggestions.specs.LinkViews.{is_name_by, known_email_keys, mark_texts}
use Rattle.mailmap_suggestions.proofs.Holding.{holders_joined, links_joined}
use Rattle.mailmap_suggestions.proofs.links.logins_of.Goals as goal

pub loop-member-preserved : goal.loop-member-preserved
loop-member-preserved c =
    let members = c.args.participants.now in
    let shared = c.args.shared.now in
    let names = c.args.names.now in
    let i = c.loop-member.member-index in (
      holders_joined (λ x. known_email_keys shared names x.email) members i _ c.loop-member.logins c.add_all.new.self (mark_texts c.in_ok-keys.keys.items) c.loop-member-test.true
          c.loop-member.invariant.0 c.in_ok-keys.ensures c.in_ok-add_all.ensures,
      links_joined (is_name_by names c.args.first_names.now) (λ x. known_email_keys shared names x.email) members i _ (links_of c.args.links.now.items)
          (links_of c.loop-member.links.items) (links_of c.push_email_links.new.links.items) (mark_texts c.deref.result.now) c.loop-member-test.true
          c.loop-member.invariant.1 (ap mark_texts c.deref.ensures.value ∙ c.in_ok-keys.ensures) c.in_ok-push_email_links.ensures,
    )
