use Rattle.std.proofs.Common.{◌≡◌, ◌∙◌, ap, filter, rules, sym}
use Rattle.std.proofs.lemmas.Fn.{filter_same}
use Rattle.mailmap_entries.proofs.Parts.{filter-map}
use Rattle.mailmap_suggestions.specs.LinkViews.{has_key, mark_text, mark_texts}
use Rattle.mailmap_suggestions.proofs.links.known_email_keys.Goals as goal

pub returns : goal.returns
returns c =
    let names = c.args.names.now in
    let all = c.in_ok-keys.keys.items in
    let kept : c.retain.new.self.items ≡ filter (λ key. has_key names (mark_text key)) all =
    filter_same _ (λ key. has_key names (mark_text key)) _ (λ g b f' k. search rules) _ _ c.retain.ensures.filtered in
    ap mark_texts kept ∙ sym (filter-map (has_key names) mark_text all) ∙ ap (filter (has_key names)) c.in_ok-keys.ensures
