use Rattle.std.proofs.Common.{◌≡◌, ◌∙◌, ◌++◌, ap, map, subst, sym}
use Rattle.gix_mailmap.specs.Lines.{mappings_of}
use Rattle.gix_mailmap.specs.Semantics.{IsNormal}
use Rattle.caller_promises.specs.Suggested.{mappings_in, with_last}
use Rattle.caller_promises.proofs.Appending.{one_last}
use Rattle.caller_promises.proofs.suggesting.answers_with.Goals as goal

pub returns : goal.returns
returns c = λ lines are.
    let others = map (λ b. b.now) c.args.others.now in
    let whole = c.args.last.now ++ c.args.text.now in
    let is : mappings_in others ++ mappings_of c.deref.result.now ≡ mappings_in (with_last others whole) =
    ap (λ t. mappings_in others ++ mappings_of t) (c.deref.ensures.value ∙ c.in_ok-whole.ensures) ∙ sym (one_last mappings_of others whole) in
    c.answers_to.ensures (mappings_in (with_last others whole)) lines (subst (λ g. IsNormal g c.merge.new.snapshot) is (c.in_ok-merge.ensures (mappings_in others) c.in_ok-snapshot.ensures)) are
