use Rattle.std.proofs.Common.{◌≡◌, ◌∙◌, Bool, false, List, Option, None, Some, ap, option_map, refl, sym, unwrap_or}
use Rattle.std.specs.Option.{option_and_then}
use Rattle.mailmap_entries.specs.Entries.{Mapping, mapping_of}
use Rattle.mailmap_entries.specs.Semantics.{key}
use Rattle.mailmap_entries.specs.declared.entry.Entry.{Entry}
use Rattle.mailmap_redundancy.specs.Redundancy.{LocatedMapping, entries, last_of_key}
use Rattle.mailmap_findings.specs.Findings.{FindingKind, no_effect_beside, reported_of_entry}
use Rattle.mailmap_findings.specs.Marks.{is_marked, unmarked}
use Rattle.mailmap_findings.specs.Positions.{Line, entry, line_of}
use Rattle.mailmap_findings.proofs.verify.walk.reported_of_effect.Goals as goal

mapped_or : (o : Option Entry) (e : Entry) → mapping_of (unwrap_or o e) ≡ unwrap_or (option_map mapping_of o) (mapping_of e)
mapped_or None e = refl
mapped_or (Some x) e = refl

without_effect : (h : List Mapping) (kept : List LocatedMapping) (is_kept bare : Bool) (taken own : Option Mapping)
    (e t : Mapping) (r : Option FindingKind) → is_kept ≡ false → own ≡ Some e → unwrap_or taken e ≡ t
    → r ≡ option_map (no_effect_beside t) (last_of_key kept (key e))
    → r ≡ option_and_then (reported_of_entry h kept is_kept bare taken) own
without_effect h kept is_kept bare taken own e t r none some same said = rw (none, some, same) said

pub returns : goal.returns
returns c =
    let e = c.in_ok-entry.entry in
    let l : Line = line_of c.args.line.now in
    without_effect (entries c.args.effective.now.history) c.args.effective.now.kept _ (is_marked l) (entry (unmarked l)) _
    (mapping_of e) (mapping_of c.unwrap_or.result) _
    (sym c.is_kept.ensures ∙ c.if-is_kept.false) (sym c.in_ok-entry.ensures)
    (ap (λ o. unwrap_or o (mapping_of e)) (sym c.requires.entry) ∙ sym (mapped_or c.args.unmarked e)
    ∙ ap mapping_of (sym c.unwrap_or.ensures))
    c.reported_without_effect.ensures
