use Rattle.std.proofs.Common.{◌∙◌, ap}
use Rattle.std.specs.List.{list_any}
use Rattle.mailmap_names.specs.Keys.{is_among, telling_words}
use Rattle.mailmap_names.proofs.Searches.{common_sorted}
use Rattle.mailmap_names.proofs.names.Name.has_common_word.Goals as goal

pub returns : goal.returns
returns c =
    let a = telling_words c.args.self.now.text.now in
    let b = telling_words c.args.other.now.text.now in
    c.has_any_word.ensures ∙ ap (list_any (λ w. is_among b w.items)) c.deref.ensures.value
    ∙ common_sorted c.args.self.now.telling.items a b c.args.self.now.telling_read
