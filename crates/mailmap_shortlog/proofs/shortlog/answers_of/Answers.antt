use Rattle.std.proofs.Common.{rules, ◌≡◌, ◌∙◌, ap, map, refl, sym}
use Rattle.std.specs.Map.Iter.{deref_pair}
use Rattle.std.proofs.lemmas.Map.Iter.{iter_end}
use Rattle.std.proofs.lemmas.Simd.{map-map}
use Rattle.mailmap_contacts.specs.Contacts.{Tally, read_by, seen_where, trimmed}
use Rattle.mailmap_contacts.proofs.Entries.{item_more, item_tally, items_are}
use Rattle.mailmap_shortlog.specs.Answers.{alone, answer_tally, printed, text_tally}
use Rattle.mailmap_shortlog.specs.declared.answer.Answer.{Answer}
use Rattle.mailmap_shortlog.proofs.shortlog.answers_of.Goals as goal

pub loop-name-preserved : goal.loop-name-preserved
loop-name-preserved c =
    let h = c.args.snapshot.now in
    let text : Tally → Tally = λ t. text_tally c.args.with_email h (read_by trimmed t) in
    let is : answer_tally (c.answer_to-answer.result, c.in-Some.seen.now)
    ≡ text (item_tally (c.in-Some.field-0-0, c.in-Some.seen)) =
    rw (c.answer_to-answer.ensures, c.trim-name.ensures, c.trim-email.ensures, c.as_slice.ensures.value, c.as_slice-in-loop-name.ensures.value) refl in
    item_more (λ (a : Answer). alone (printed a)) text c.loop-name.answers.entries c.add_to.new.tallies.entries
    c.answer_to-answer.result
    c.loop-name.yielded (c.in-Some.field-0-0, c.in-Some.seen) c.in_ok-add_to.ensures.ok c.loop-name.invariant is

pub returns : goal.returns
returns c =
    let text : Tally → Tally = text_tally c.args.with_email c.args.snapshot.now in
    let end : map deref_pair c.loop-name.yielded ≡ c.tallies.result.now.entries = search (rules, iter_end) in
    λ test. c.loop-name.invariant test ∙ ap (λ ts. seen_where test (map (λ t. text (read_by trimmed t)) ts))
    (items_are c.loop-name.yielded c.tallies.result.now.entries end ∙ c.tallies.ensures)
    ∙ ap (seen_where test) (sym (map-map text (read_by trimmed) c.args.contacts.now.tallies))
