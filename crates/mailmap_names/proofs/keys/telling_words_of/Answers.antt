use Rattle.std.proofs.Common.{◌∙◌, ℕ, Bor, ap, map, string_bytes, sym}
use Rattle.std.specs.Prelude.{String}
use Rattle.std.specs.Global.{Global, Vec}
use Rattle.mailmap_names.specs.Keys.{ascending}
use Rattle.mailmap_names.proofs.Orders.{sorted_is}
use Rattle.mailmap_names.proofs.Spelling.{map-map, telling}
use Rattle.mailmap_names.proofs.keys.telling_words_of.Goals as goal

pub returns-clause-is : goal.returns-clause-is
returns-clause-is c =
    let longer = c.in_ok-longer_words.field-0.items in
    let copied = c.in_ok-telling.ensures ∙ ap (map (λ (w : Bor (String Global)). string_bytes w.now)) c.deref.ensures.value
    ∙ sym (map-map string_bytes (λ (w : Bor (String Global)). w.now) longer)
    ∙ ap (map string_bytes) c.in_ok-longer_words.ensures ∙ telling c.args.words.now in
    sorted_is (λ (v : Vec ℕ). v.items) c.in_ok-telling.telling.items c.sort.new.self.items c.in_ok-sort.ensures.permutation c.in_ok-sort.ensures.sorted
    ∙ ap ascending copied
