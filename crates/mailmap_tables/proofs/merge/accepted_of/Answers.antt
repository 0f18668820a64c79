use Rattle.std.proofs.Common.{◌≢◌, List, [], ◌∷◌, ◌++◌, map, subst, sym, ap, ◌∙◌}
use Rattle.std.specs.Iterator.{Yields}
use Rattle.std.proofs.iter.Next.{Yields-more}
use Rattle.std.proofs.lemmas.List.{map_push}
use Rattle.mailmap_entries.specs.Entries.{mapping_of}
use Rattle.mailmap_entries.specs.declared.entry.Entry.{Entry as Item}
use Rattle.mailmap_entries.specs.Semantics.{accepted}
use Rattle.mailmap_entries.proofs.Results.{on_err}
use Rattle.mailmap_tables.proofs.Merged.{some_taken}
use Rattle.mailmap_tables.proofs.merge.accepted_of.Goals as goal

pub returns-in_err-push-clause-out_of_memory : goal.returns-in_err-push-clause-out_of_memory
returns-in_err-push-clause-out_of_memory g c =
    let xs = c.loop-entry.yielded in
    let x = c.in-Some.entry in
    let more = Yields-more g.I.Iterator.next_gives c.into_iter-entry-iterator.result xs c.loop-entry.entry-iterator x
    c.next.new.self c.loop-entry.yielded_by c.in-Some.ensures.steps in
    let why : (ys : List Item) × (rest : _) × Yields g.I.Iterator.next_gives c.args.entries ys rest
    × (accepted (map mapping_of ys) ≢ []) = (
      xs ++ x ∷ [],
      c.next.new.self,
      subst (λ s. Yields g.I.Iterator.next_gives s (xs ++ x ∷ []) c.next.new.self)
          c.into_iter-entry-iterator.ensures.into_iter_gives more,
      λ e. some_taken (map mapping_of xs) (mapping_of x) (sym c.has_new_name_or_email.ensures
          ∙ c.if-has_new_name_or_email.true) (ap accepted (sym (map_push mapping_of xs x)) ∙ e),
    ) in
    on_err _ _ why
