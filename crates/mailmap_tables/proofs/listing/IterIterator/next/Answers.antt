use Rattle.std.proofs.Common.{rules, ◌∷◌, [], eqb-true, length, sym, ap, ◌∙◌}
use Rattle.std.proofs.lemmas.List.{nil_from_length}
use Rattle.mailmap_entries.specs.Entries.{mapping_of}
use Rattle.mailmap_tables.specs.Pool.{spelled}
use Rattle.mailmap_tables.proofs.Grouped.{next_email}
use Rattle.mailmap_tables.proofs.listing.IterIterator.next.Goals as goal

pub returns-in-Some-clause-steps : goal.returns-in-Some-clause-steps
returns-in-Some-clause-steps c =
    let t = c.loop-self.self-inside.tables in
    let none = nil_from_length _ (eqb-true _ _ (sym c.is_empty.ensures ∙ c.loop-self-test.true)) in
    sym c.loop-self.invariant.left ∙ next_email t c.loop-self.self-inside.old_email.now c.loop-self.self-inside.names.now
    c.loop-self.self-inside.reached c.email.result.0 c.email.result.1.now (mapping_of c.in-Some.entry ∷ [])
    c.text-self-inside.result.now none c.email.ensures.group c.in-Some.ensures
    (c.text-self-inside.ensures ∙ ap (spelled t.pool) c.old.ensures)

pub returns-in-Some-clause-goes : goal.returns-in-Some-clause-goes
returns-in-Some-clause-goes c = let e = ap length (returns-in-Some-clause-steps c) in search rules

pub loop-self-preserved : goal.loop-self-preserved
loop-self-preserved c =
    let t = c.loop-self.self-inside.tables in
    let none = nil_from_length _ (eqb-true _ _ (sym c.is_empty.ensures ∙ c.loop-self-test.true)) in
    record {
      in_pool = c.email.ensures.in_pool.names_lie;
      left = sym (next_email t c.loop-self.self-inside.old_email.now c.loop-self.self-inside.names.now
          c.loop-self.self-inside.reached c.email.result.0 c.email.result.1.now [] c.text-self-inside.result.now none
          c.email.ensures.group c.in_default.ensures (c.text-self-inside.ensures ∙ ap (spelled t.pool) c.old.ensures))
          ∙ c.loop-self.invariant.left;
    }
