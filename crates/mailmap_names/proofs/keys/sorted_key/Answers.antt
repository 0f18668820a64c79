use Rattle.std.proofs.Common.{◌≡◌, ◌∙◌, ◌∷◌, Bor, IfOk, List, ap, map, string_bytes, subst, sym}
use Rattle.std.specs.Prelude.{String}
use Rattle.std.specs.Global.{Global}
use Rattle.std.specs.List.{join_with_byte}
use Rattle.mailmap_entries.specs.Folding.{Text}
use Rattle.mailmap_names.specs.Keys.{ascending}
use Rattle.mailmap_names.proofs.Orders.{sorted_is}
use Rattle.mailmap_names.proofs.Spelling.{main_spelled, map-map}
use Rattle.mailmap_names.proofs.keys.sorted_key.Goals as goal

abbrev text : Bor (String Global) → Text
text w = string_bytes w.now

pub returns : goal.returns
returns c =
    let main = c.in_ok-main.main.items in
    let sorted = sorted_is text main c.sort.new.self.items c.in_ok-sort.ensures.permutation c.in_ok-sort.ensures.sorted in
    let spelled = sym (map-map string_bytes (λ (w : Bor (String Global)). w.now) main) ∙ ap (map string_bytes) c.in_ok-main.ensures ∙ main_spelled c.args.words.now in
    let P : List Text → Type 0 = λ ts. IfOk c.joined.result (λ found. found.items ≡ 119 ∷ join_with_byte 32 ts) in
    subst P (ap (map text) c.deref.ensures.value ∙ sorted ∙ ap ascending spelled) c.joined.ensures
