use Rattle.std.proofs.Common.{◌≡◌, ◌∙◌, ◌++◌, [], ap, flat_map, length, map, rules, sym}
use Rattle.std.proofs.lemmas.List.{length-map}
use Rattle.mailmap_names.specs.Keys.{keys}
use Rattle.mailmap_suggestions.specs.Forests.{links_of}
use Rattle.mailmap_suggestions.specs.LinkViews.{email_links_of, name_key_links_of, own_and, vec_texts}
use Rattle.mailmap_suggestions.specs.declared.links.LoginKeys.{LoginKeys}
use Rattle.mailmap_suggestions.proofs.LoginLinks.{keys_are, login_links_are_links}
use Rattle.mailmap_suggestions.proofs.links.LoginKeys.read.Goals as goal

pub push_name_links-requires : goal.push_name_links-requires
push_name_links-requires c =
    let none : c.in_ok-name_keys.name_keys.items ≡ [] = search rules in
    let kept : map vec_texts c.deref.result.now ≡ map (own_and (λ c. keys c.name)) c.args.participants.now =
    ap (map vec_texts) c.deref.ensures.value ∙ c.in_ok-names.ensures.keys
    ∙ ap (λ l. map vec_texts l ++ map (own_and (λ c. keys c.name)) c.args.participants.now) none in
    sym (length-map c.deref.result.now vec_texts) ∙ ap length kept ∙ length-map c.args.participants.now (own_and (λ c. keys c.name))

pub returns : goal.returns
returns c = λ h ts are taken.
    let ms = c.args.members.now in
    let shared = c.args.shared.now in
    let ps = c.args.participants.now in
    let found : LoginKeys = record { names = c.in_ok-names.names; logins = c.in_ok-logins.logins; first_names = c.in_ok-first_names.first_names } in
    let none : c.in_ok-name_keys.name_keys.items ≡ [] = search rules in
    let empty : c.new-links.result.items ≡ [] = search rules in
    let kept : map vec_texts c.deref.result.now ≡ map (own_and (λ c. keys c.name)) ps =
    ap (map vec_texts) c.deref.ensures.value ∙ c.in_ok-names.ensures.keys ∙ ap (λ l. map vec_texts l ++ map (own_and (λ c. keys c.name)) ps) none in
    let keys = keys_are h ts ms are shared ps taken found c.in_ok-names.ensures.names c.in_ok-logins.ensures.logins c.in_ok-first_names.ensures in (
      keys,
      login_links_are_links h ts ms are shared ps taken found keys (links_of c.push_name_links.new.links.items) (c.in_ok-push_name_links.ensures kept
          ∙ ap (λ l. l ++ flat_map (name_key_links_of found) ps)
          (c.in_ok-logins.ensures.links ∙ ap (λ l. links_of l ++ flat_map (email_links_of shared found.names found.first_names) ps) empty)),
    )
