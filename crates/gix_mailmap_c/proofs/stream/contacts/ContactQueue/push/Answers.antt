-- The state after a push, from what the stream has read.
use Rattle.std.proofs.Common.{ap, drop, subst, ◌∙◌}
use Rattle.std.proofs.lemmas.List.{drop-append-le}
use Rattle.gix_mailmap_c.specs.Streamed.{HasTakenOf, Pending}
use Rattle.gix_mailmap_c.proofs.stream.contacts.ContactQueue.push.Goals as goal

pub returns-clause-ok : goal.returns-clause-ok
returns-clause-ok c =
    let read = c.self.inside.read in
    let new = c.push.new.self in
    let more = c.in_ok-taken.ensures.answers in
    let after : Pending = record { mappings = new.mappings; partial = new.partial; unread = drop read c.push.new.text.items } in
    subst (λ (p : Pending). HasTakenOf c.args.part.now c.in_ok-taken.taken.count p after) c.self.view_is (record {
      within = c.in_ok-taken.ensures.takes.0;
      some = c.in_ok-taken.ensures.takes.1;
      made = more.0;
      mappings = c.in_ok-taken.ensures.keeps.1;
      unread = ap (drop read) more.1 ∙ drop-append-le read c.self.inside.answers.items more.0 c.self.invariant;
      front = more.2;
      partial = c.in_ok-taken.ensures.keeps.0;
    })
