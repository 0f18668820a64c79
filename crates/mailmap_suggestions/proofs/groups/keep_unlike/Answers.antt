use Rattle.std.proofs.Common.{◌≡◌, ◌∙◌, ap, filter, map, not, rules, sym}
use Rattle.std.proofs.lemmas.Fn.{filter_same}
use Rattle.mailmap_suggestions.specs.GroupEntries.{are_alike, contacts}
use Rattle.mailmap_suggestions.specs.Private.{tallies_in}
use Rattle.mailmap_suggestions.proofs.groups.keep_unlike.Goals as goal
use Rattle.mailmap_entries.proofs.Parts.{filter-map}

pub returns : goal.returns
returns c =
    let h = c.args.answers.now in
    let all = c.args.groups.now.items in
    let kept : c.retain.new.self.items ≡ filter (λ g. not (are_alike h (contacts (tallies_in g)))) all =
    filter_same _ (λ g. not (are_alike h (contacts (tallies_in g)))) _ (λ g b f' k. search rules) _ _ c.retain.ensures.filtered in
    ap (map tallies_in) kept ∙ sym (filter-map (λ g. not (are_alike h (contacts g))) tallies_in all)
