use Rattle.std.proofs.Common.{◌∙◌, ◌∷◌, Bor, ap, string_bytes}
use Rattle.std.specs.Prelude.{String}
use Rattle.std.specs.Global.{Global}
use Rattle.std.proofs.lemmas.List.{take_rest}
use Rattle.mailmap_names.proofs.Spelling.{joined_is}
use Rattle.mailmap_names.proofs.keys.joined.Goals as goal

pub returns : goal.returns
returns c =
    joined_is (λ (w : Bor (String Global)). string_bytes w.now) c.args.words.now _ c.first-item.result c.in_ok-joined.joined.items c.push_spaced.new.text.items c.in-len1-up.len_at_least c.first-item.is
    (take_rest c.args.words.now 1) (c.in_ok-joined.ensures ∙ ap (λ t. 119 ∷ t) c.as_bytes.ensures.value) c.in_ok-push_spaced.ensures
