use Rattle.std.proofs.Common.{rules, ◌≡◌, ◌∙◌, ℕ, Bor, ap, map}
use Rattle.std.specs.Global.{Vec}
use Rattle.std.specs.Map.Iter.{deref_pair}
use Rattle.std.proofs.lemmas.Map.Iter.{iter_end}
use Rattle.mailmap_contacts.specs.declared.occurrences.Occurrences.{Occurrences}
use Rattle.mailmap_contacts.proofs.Sums.{same_mapped}
use Rattle.mailmap_contacts.specs.Answers.{answer_key, answer_key_tally}
use Rattle.mailmap_contacts.specs.Contacts.{raw_contacts_from, read_by, seen_where}
use Rattle.mailmap_contacts.specs.Counts.{SameTallies}
use Rattle.mailmap_contacts.proofs.Entries.{item_more, item_tally, items_are}
use Rattle.mailmap_entries.specs.Folding.{Text}
use Rattle.mailmap_suggestions.specs.GitContacts.{read_by_git}
use Rattle.mailmap_suggestions.proofs.git_contacts.contacts_of_git.Goals as goal

pub loop-name-preserved : goal.loop-name-preserved
loop-name-preserved c =
    let p : Bor (Vec ℕ × Vec ℕ) × Bor Occurrences = (c.in-Some.field-0-0, c.in-Some.seen) in
    let key : Bor Text × Bor Text = (c.trim_end_of_name-name.result, c.as_slice-in-loop-name.result) in
    let is : answer_key_tally (key, c.in-Some.seen.now) ≡ read_by read_by_git (item_tally p) = search rules in
    item_more answer_key (read_by read_by_git) c.loop-name.tallies.entries c.add_to.new.tallies.entries key c.loop-name.yielded p
    c.in_ok-add_to.ensures.ok c.loop-name.invariant is

pub returns : goal.returns
returns c = λ lines are.
    let end : map deref_pair c.loop-name.yielded ≡ c.tallies.result.now.entries = search (rules, iter_end) in
    let same : SameTallies (map answer_key_tally c.loop-name.tallies.entries) (map (read_by read_by_git) (raw_contacts_from 1 lines)) =
    λ test. c.loop-name.invariant test ∙ ap (λ ts. seen_where test (map (read_by read_by_git) ts))
    (items_are c.loop-name.yielded c.tallies.result.now.entries end ∙ c.tallies.ensures)
    ∙ same_mapped read_by_git c.args.contacts.now.tallies (raw_contacts_from 1 lines) are.tallies test in
    c.by_first_lines.ensures read_by_git lines same
