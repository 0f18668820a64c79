use Rattle.std.proofs.Common.{◌≡◌, ◌<◌, ◌++◌, List, [], ◌∷◌, ℕ, zero, suc, get_or, map, take, drop, length, refl, ap, ◌∙◌, arith}
use Rattle.std.proofs.lemmas.List.{get_or_default}
use Rattle.std.proofs.lemmas.List.Edits.{map_over_more}
use Rattle.std.proofs.lemmas.List.Elements.{All-from_recursion}
use Rattle.mailmap_tables.specs.Rows.{raised}
use Rattle.mailmap_tables.specs.declared.rows.EmailRow.{EmailRow}
use Rattle.mailmap_tables.proofs.tables.raise_starts.Goals as goal

abbrev none : EmailRow
none = record { texts = record { start = 0; old_len = 0; new_name_len = 0; new_email_len = 0 }; names_start = 0 }

-- those that are left are as they were
still : (xs : List EmailRow) (i : ℕ) → i < length xs
    → get_or (map raised (take i xs) ++ drop i xs) i none ≡ get_or xs i none
still [] i lt = absurd (omega arith)
still (x ∷ xs) zero lt = refl
still (x ∷ xs) (suc i) lt = still xs i (omega arith)

pub overflow_add-email : goal.overflow_add-email
overflow_add-email c =
    let xs = c.args.emails.now in
    let i = c.loop-email.email-index in
    let lt : i < length xs = omega arith in
    let here : get_or c.loop-email.email-items i none ≡ get_or xs i none =
    ap (λ l. get_or l i none) c.loop-email.invariant ∙ still xs i lt in
    omega (arith, All-from_recursion _ xs c.requires i none lt, ap (λ (e : EmailRow). e.names_start) here)

pub loop-email-preserved : goal.loop-email-preserved
loop-email-preserved c =
    let xs = c.args.emails.now in
    let ys = c.loop-email.email-items in
    let i = c.loop-email.email-index in
    let lt : i < length xs = omega arith in
    let x = get_or ys i none in
    map_over_more raised xs ys i x lt c.loop-email.invariant (get_or_default ys i none x (omega arith))
