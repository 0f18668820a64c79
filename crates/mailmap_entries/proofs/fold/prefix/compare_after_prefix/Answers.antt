use Rattle.std.proofs.Common.{◌≡◌, ◌-◌, ◌∙◌, length, take, drop, length-drop, take_all, sym, ap, ap₂, arith}
use Rattle.std.proofs.lemmas.List.{length-map, drop-map}
use Rattle.std.specs.Char.{to_ascii_lowercase}
use Rattle.mailmap_entries.specs.Folding.{Text, folded, text_cmp}
use Rattle.mailmap_entries.proofs.Prefixes.{prefix_alike, folded_bytes}
use Rattle.mailmap_entries.proofs.fold.prefix.compare_after_prefix.Goals as goal

pub returns : goal.returns
returns c =
    let a = c.args.a.now in
    let b = c.args.b.now in
    let rest : (xs : Text) → folded (take (length xs - 16) (drop 16 xs)) ≡ drop 16 (folded xs) = λ xs.
    ap folded (take_all (length xs - 16) (drop 16 xs) (omega (arith, length-drop 16 xs))) ∙ sym (drop-map to_ascii_lowercase 16 xs) in
    c.cmp_ignore_ascii_case-2.ensures.value ∙ ap₂ text_cmp (rest a) (rest b)
    ∙ sym (prefix_alike 16 (folded a) (folded b) (folded_bytes a (λ i. (c.type_inv.a i).fits)) (folded_bytes b (λ i. (c.type_inv.b i).fits))
    (omega (arith, c.if-a-lt16.false, length-map a to_ascii_lowercase)) (omega (arith, c.if-b-lt16.false, length-map b to_ascii_lowercase)) c.requires)
