use Rattle.std.proofs.Common.{◌≡◌, ◌||◌, ◌&&◌, ◌∷◌, ◌∙◌, [], Bool, true, false, List, map, ap, arith, refl}
use Rattle.std.specs.List.{list_any}
use Rattle.std.proofs.lemmas.Result.{IfOk-weaker}
use Rattle.gix_mailmap.specs.Findings.{Finding, finding_of, has_no_effect, is_reported_redundant}
use Rattle.gix_mailmap.specs.Positions.{Line, same_position}
use Rattle.caller_promises.proofs.pruning.findings_left.Goals as goal

or_rest : (a b : Bool) → (a || b) ≡ false → b ≡ false
or_rest a b e = grind arith

first_false : (a b c : Bool) → b ≡ true → ((a && b) || c) ≡ false → a ≡ false
first_false a b c t e = grind arith

-- if no line is reported as without effect, no finding is such a report
none_says : ((l : Line) → same_position l.position l.position ≡ true) → (xs : List Finding) → ((l : Line) → is_reported_redundant xs l ≡ false) → list_any (λ f. has_no_effect f.kind) xs ≡ false
none_says same [] each = refl
none_says same (x ∷ xs) each =
    let at : Line = record { position = x.position; text = [] } in
    let here = first_false (has_no_effect x.kind) (same_position x.position x.position) (is_reported_redundant xs at) (same at) (each at) in
    ap (λ b. b || list_any (λ f. has_no_effect f.kind) xs) here
    ∙ none_says same xs (λ l. or_rest (has_no_effect x.kind && same_position x.position l.position) (is_reported_redundant xs l) (each l))

pub returns : goal.returns
returns c =
    let pruned = c.args.pruned.now in
    IfOk-weaker c.verify.result _ _ (λ left are. λ buffer found is_pruned found_are.
    let left_found = map finding_of left.items in
    record {
      none = none_says (λ l. (c.law_equal_contacts.ensures.positions l.position l.position).1 refl) left_found
          (λ l. c.law_pruned_findings.ensures.none buffer pruned left_found l is_pruned are);
      others = c.law_pruned_findings.ensures.others buffer pruned found left_found found_are is_pruned are;
    }) c.verify.ensures.findings
