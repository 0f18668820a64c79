use Rattle.std.proofs.Common.{◌∙◌, ◌<◌, ap, arith, length}
use Rattle.mailmap_names.specs.Keys.{keys}
use Rattle.mailmap_suggestions.specs.Forests.{links_of}
use Rattle.mailmap_suggestions.specs.LinkViews.{is_login_in, mark_texts, own_and, vec_texts}
use Rattle.mailmap_suggestions.proofs.Holding.{links_joined, texts_at}
use Rattle.mailmap_suggestions.proofs.links.LoginKeys.push_name_links.Goals as goal

pub loop-index-preserved : goal.loop-index-preserved
loop-index-preserved c = λ are.
    let marks = c.args.name_keys.now in
    let members = c.args.participants.now in
    let k = c.loop-index.index in
    let within : k < length members = omega arith in
    let below : k < length marks = omega arith in
    links_joined (is_login_in c.args.self.now) (λ c. keys c.name) members k _ (links_of c.args.links.now.items) (links_of c.loop-index.links.items)
    (links_of c.push_links.new.links.items) (mark_texts c.deref.result.now) within (c.loop-index.invariant are)
    (ap mark_texts c.deref.ensures.value ∙ ap vec_texts c.index-name_keys-index.is
    ∙ texts_at (own_and (λ c. keys c.name)) marks members k c.index-name_keys-index.result _ below within are)
    c.in_ok-push_links.ensures
