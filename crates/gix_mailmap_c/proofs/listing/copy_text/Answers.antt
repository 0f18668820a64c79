use Rattle.std.proofs.Common.{rules, ◌≡◌, ◌+◌, ◌-◌, ◌≤◌, ◌++◌, ℕ, List, take, length, ap, ◌∙◌, arith}
use Rattle.std.specs.Option.{option_copied}
use Rattle.std.proofs.lemmas.Slice.{take-put_mid, drop-put_mid}
use Rattle.gix_mailmap_c.specs.Listed.{text_or_empty}
use Rattle.gix_mailmap_c.proofs.listing.copy_text.Goals as goal

pub returns : goal.returns
returns c =
    let start = c.args.start in
    let out = c.args.out.now in
    let text = c.unwrap_or-text.result.now in
    let part = c.copy_from_slice.new.self in
    let same : text ≡ text_or_empty (option_copied c.args.text) = search rules in
    let len = ap length c.copy_from_slice.ensures.after in
    let within : start ≤ length out = omega (arith, c.requires) in
    record {
      until = ap (λ (t : List ℕ). start + length t) same;
      front = take-put_mid start (start + length text - start) out part (start + length text) (omega (arith, len)) within
          ∙ ap (λ (t : List ℕ). take start out ++ t) (c.copy_from_slice.ensures.after ∙ same);
      rest = drop-put_mid start (start + length text - start) out part (start + length text) (omega arith) within (omega (arith, len));
    }
