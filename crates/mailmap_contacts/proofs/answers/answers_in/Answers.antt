use Rattle.std.proofs.Common.{◌≡◌, ◌∙◌, ◌++◌, ap, append-nil, map, sym}
use Rattle.std.proofs.lemmas.Map.Iter.{rest_all}
use Rattle.std.proofs.lemmas.Simd.{map-map}
use Rattle.mailmap_contacts.specs.Counts.{answer_key, answer_key_tally, tally_of}
use Rattle.mailmap_contacts.proofs.Entries.{entry_of}
use Rattle.mailmap_contacts.proofs.Tallied.{map_tallies}
use Rattle.mailmap_contacts.proofs.answers.answers_in.Goals as goal

pub returns : goal.returns
returns c = λ ts same.
    let es = c.args.tallies.entries in
    let answers = c.loop-name.answers.items in
    let none = rest_all (λ p. p) c.loop-name.name-iterator c.next.new.self c.next.result c.in-None.is
    c.next.ensures.steps in
    let all : map entry_of answers ≡ es =
    sym (append-nil (map entry_of answers)) ∙ sym (ap (λ l. map entry_of answers ++ l) none) ∙ c.loop-name.invariant in
    map_tallies answer_key es ts (map tally_of answers) c.len.ensures.ordered
    (sym (map-map answer_key_tally entry_of answers) ∙ ap (map answer_key_tally) all) same
