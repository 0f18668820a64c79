use Rattle.std.proofs.Common.{◌≡◌, ◌+◌, ◌-◌, ◌∙◌, ℕ, Some, take, drop, length, length-take-le, sym, ap, arith}
use Rattle.mailmap_entries.specs.Folding.{Text}
use Rattle.mailmap_grammar.specs.Lines.{Closed, cut, cut_at_closing, cut_at_opening}
use Rattle.mailmap_grammar.proofs.SplitOnce.{split_once-some}
use Rattle.gix_mailmap_c.specs.Places.{PlacedContact, place_of, placed_contact}
use Rattle.gix_mailmap_c.specs.declared.parsing.Place.{Place}
use Rattle.gix_mailmap_c.proofs.parsing.contact_at.Goals as goal

abbrev contact : Place → Place → Text → ℕ → PlacedContact
contact name email rest end = record { name = name; email = email; rest = rest; end = end }

-- a contact by the lengths of its parts
placed : (start o k : ℕ) (name email : Place) (a b rest : Text) → length a ≡ o → length b ≡ k
    → name ≡ place_of start a → email ≡ place_of (start + o + 1) b
    → Some (contact name email rest (start + o + k + 2)) ≡ placed_contact start (Closed a b rest)
placed start o k name email a b rest la lb is_name is_email =
    let at = is_email ∙ ap (λ l. place_of (start + l + 1) b) (sym la) in
    let end = ap (λ l. start + l + k + 2) (sym la) ∙ ap (λ l. start + length a + l + 2) (sym lb) in
    λ i. Some (contact (is_name i) (at i) rest (end i))

pub returns-clause-value : goal.returns-clause-value
returns-clause-value c =
    let text = c.args.text.now in
    let start = c.args.start in
    let o = c.in_ok-opening.opening in
    let k = c.in_ok-closing.closing in
    let after = take (length text - (o + 1)) (drop (o + 1) text) in
    let rest = take (length after - (k + 1)) (drop (k + 1) after) in
    let is : cut text ≡ Closed (take o text) (take k after) rest =
    ap cut_at_opening (split_once-some 60 text o c.in_ok-opening.ensures)
    ∙ ap (cut_at_closing (take o text)) (split_once-some 62 after k c.in_ok-closing.ensures) in
    placed start o k c.place_of.result c.place_of-2.result (take o text) (take k after) rest
    (length-take-le o text (omega (arith, c.in_ok-opening.ensures.0.high)))
    (length-take-le k after (omega (arith, c.in_ok-closing.ensures.0.high)))
    c.place_of.ensures.value c.place_of-2.ensures.value
    ∙ ap (placed_contact start) (sym is)
