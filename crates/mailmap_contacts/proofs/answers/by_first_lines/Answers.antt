use Rattle.std.proofs.Common.{rules, ◌≡◌, map}
use Rattle.std.proofs.lemmas.Cmp.{nat_cmp_total, on_total}
use Rattle.std.proofs.lemmas.List.Sorted.{IsPermutation-map, answers_always}
use Rattle.mailmap_contacts.specs.Contacts.{Tally, raw_contacts_from, read_by}
use Rattle.mailmap_contacts.specs.Counts.{tally_of}
use Rattle.mailmap_contacts.proofs.Steps.{none_before}
use Rattle.mailmap_contacts.proofs.Tallied.{line_cmp, sorted_tallies}
use Rattle.mailmap_contacts.proofs.answers.by_first_lines.Goals as goal

pub returns : goal.returns
returns c = λ read lines same.
    let before = c.in_ok-all.all.items in
    let all = c.sort_unstable_by_key.new.self.items in
    let computes = answers_always _ (λ a r. r ≡ a.0.now.seen.first_line) _
    (λ f a r f' k. let e : r ≡ a.0.now.seen.first_line = search rules in e) in
    sorted_tallies read lines (map tally_of before) (map tally_of all)
    (c.in_ok-all.ensures (map (read_by read) (raw_contacts_from 1 lines)) same)
    (IsPermutation-map tally_of before all c.sort_unstable_by_key.ensures.permutation)
    (none_before line_cmp (on_total (λ (t : Tally). t.seen.first_line) nat_cmp_total) tally_of all
    (c.sort_unstable_by_key.ensures.sorted (λ t. t.seen.first_line) computes))
