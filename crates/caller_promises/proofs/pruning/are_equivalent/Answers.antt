use Rattle.std.proofs.Common.{subst}
use Rattle.std.proofs.lemmas.Bool.{false_from_ne_true}
use Rattle.gix_mailmap.specs.Semantics.{IsNormal}
use Rattle.gix_mailmap.specs.Lines.{mappings_of}
use Rattle.caller_promises.proofs.NormalLists.{equal_exactly}
use Rattle.caller_promises.proofs.pruning.are_equivalent.Goals as goal

pub returns-clause-without_one : goal.returns-clause-without_one
returns-clause-without_one c = λ buffer pruned without.
    let whole = c.in_ok-whole.whole in
    let rest = c.in_ok-rest.rest in
    false_from_ne_true c.eq.result (λ t.
    c.law_none_left.ensures.text buffer c.args.pruned.now without.before without.after without.line without.mapping whole rest
    pruned without.whole without.is_entry c.in_ok-whole.ensures.ok
    (subst (λ s. IsNormal (mappings_of s) rest) without.rest c.in_ok-rest.ensures.ok) (c.eq.ensures.same.0 t))

pub returns-clause-exactly : goal.returns-clause-exactly
returns-clause-exactly c =
    equal_exactly c.law_unique.ensures (mappings_of c.args.pruned.now) (mappings_of c.args.shorter.now) c.in_ok-whole.whole c.in_ok-rest.rest
    c.in_ok-whole.ensures.ok c.in_ok-rest.ensures.ok c.eq.ensures.same
