use Rattle.std.proofs.Common.{◌≡◌, ◌∙◌, List, ap, arith, if◌then◌else◌, length, map, sym}
use Rattle.std.specs.List.{list_any}
use Rattle.std.specs.Prelude.{nat_le}
use Rattle.std.proofs.lemmas.List.{length-map}
use Rattle.mailmap_entries.specs.Folding.{Text}
use Rattle.mailmap_entries.proofs.Parts.{list_any-map}
use Rattle.mailmap_suggestions.specs.Shared.{has_via}
use Rattle.mailmap_suggestions.specs.SharedViews.{names_in}
use Rattle.mailmap_suggestions.proofs.Strangers.{enough_known, one_name}
use Rattle.mailmap_suggestions.proofs.shared.are_several.Goals as goal
use Rattle.mailmap_suggestions.proofs.shared.are_several.Goals.{then-have_via, else-have_via}

pub returns-then-names-lt2 : goal.returns-then-names-lt2
returns-then-names-lt2 c =
    let names : List Text = map (λ n. n.now) c.args.names.now in
    let count : length names ≡ length c.args.names.now = length-map c.args.names.now (λ n. n.now) in
    sym (one_name names (omega arith))

pub returns : goal.returns
returns c =
    let names : List Text = map (λ n. n.now) c.args.names.now in
    let known = c.in_ok-strangers.field-0.items in
    let count : length (names_in known) ≡ length known = length-map known (λ n. n.text.now) in
    let len : c.len.result ≡ length (names_in known) = omega arith in
    let any : c.have_via.result ≡ list_any has_via names = c.have_via.ensures ∙ sym (list_any-map has_via (λ n. n.now) c.args.names.now) in
    let needed : c.if-have_via.needed ≡ (if list_any has_via names then 2 else 4) = elim c.if-have_via.branch [
      | then-have_via w ↦ w.needed-is ∙ ap (λ b. if b then 2 else 4) (sym w.if-have_via.true ∙ any)
      | else-have_via w ↦ w.needed-is ∙ ap (λ b. if b then 2 else 4) (sym w.if-have_via.false ∙ any)
    ] in
    ap (λ n. nat_le n c.len.result) needed ∙ ap (nat_le (if list_any has_via names then 2 else 4)) len ∙ enough_known names (names_in known) c.in_ok-strangers.ensures
