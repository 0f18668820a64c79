use Rattle.std.proofs.Common.{rules, ◌≡◌, ◌∙◌, ℕ, Bor, List, ap, map, sym, subst}
use Rattle.std.specs.Prelude.{IfOk}
use Rattle.std.specs.Global.{Vec}
use Rattle.std.specs.Map.Iter.{deref_pair}
use Rattle.std.proofs.lemmas.Map.Iter.{iter_end}
use Rattle.mailmap_entries.specs.Folding.{Text}
use Rattle.mailmap_contacts.specs.Contacts.{Tally, raw_contacts_from, read_by, seen_where, tallied, trimmed}
use Rattle.mailmap_contacts.specs.Counts.{SameTallies, answer_key, answer_key_tally, tally_of}
use Rattle.mailmap_contacts.specs.declared.occurrences.Occurrences.{Occurrences}
use Rattle.mailmap_contacts.proofs.Entries.{item_more, item_tally, items_are}
use Rattle.mailmap_contacts.proofs.RawContacts.{contacts_are}
use Rattle.mailmap_contacts.proofs.Sums.{same_mapped}
use Rattle.mailmap_contacts.proofs.counter.Contacts.in_order.Goals as goal

pub loop-name-preserved : goal.loop-name-preserved
loop-name-preserved c =
    let p : Bor (Vec ℕ × Vec ℕ) × Bor Occurrences = (c.in-Some.field-0-0, c.in-Some.seen) in
    let key : Bor Text × Bor Text = (c.trim.result, c.trim-in-loop-name.result) in
    let is : answer_key_tally (key, c.in-Some.seen.now) ≡ read_by trimmed (item_tally p) = search rules in
    item_more answer_key (read_by trimmed) c.loop-name.tallies.entries c.add_to.new.tallies.entries key c.loop-name.yielded p
    c.in_ok-add_to.ensures.ok c.loop-name.invariant is

pub returns : goal.returns
returns c = λ lines are.
    let es = c.self.inside.tallies.entries in
    let end : map deref_pair c.loop-name.yielded ≡ es = search (rules, iter_end) in
    let same : SameTallies (map answer_key_tally c.loop-name.tallies.entries) (map (read_by trimmed) (raw_contacts_from 1 lines)) =
    λ test. c.loop-name.invariant test ∙ ap (λ ts. seen_where test (map (read_by trimmed) ts)) (items_are c.loop-name.yielded es end)
    ∙ ap (λ s. seen_where test (map (read_by trimmed) s.tallies)) c.self.view_is
    ∙ same_mapped trimmed c.args.self.now.tallies (raw_contacts_from 1 lines) are.tallies test in
    subst (λ (ts : List Tally). IfOk c.by_first_lines.result (λ all. map tally_of all.items ≡ tallied ts)) (sym (contacts_are 1 lines))
    (c.by_first_lines.ensures trimmed lines same)
