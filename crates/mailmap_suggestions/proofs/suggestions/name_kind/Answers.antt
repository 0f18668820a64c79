use Rattle.std.proofs.Common.{◌≡◌, ◌∙◌, Bool, ap, bytes_eq, false, if◌then◌else◌, map, sym, true}
use Rattle.std.specs.List.{list_all}
use Rattle.mailmap_entries.specs.Folding.{folded}
use Rattle.mailmap_contacts.specs.Answers.{tally_of}
use Rattle.mailmap_contacts.specs.Contacts.{Contact, answer_to}
use Rattle.mailmap_suggestions.specs.Suggestions.{by_alike_names, by_name, first_answer, have_one_name}
use Rattle.mailmap_suggestions.proofs.Forms.{all_contacts}
use Rattle.mailmap_suggestions.proofs.suggestions.name_kind.Goals as goal

pub returns-then-have_name : goal.returns-then-have_name
returns-then-have_name c =
    let h = c.args.answers.now in
    let g = c.args.group.now in
    let has : Contact → Contact → Bool = λ a b. bytes_eq (folded (answer_to h.ours b).name) (folded a.name) in
    let one : have_one_name h (map tally_of g) ≡ true =
    sym (all_contacts (has (first_answer h (map tally_of g))) g) ∙ ap (λ a. list_all (λ t. has a (tally_of t).contact) g) (sym c.first_answer.ensures)
    ∙ sym c.have_name.ensures ∙ c.if-have_name.true in
    ap (λ b. if b then by_name else by_alike_names) (sym one)

pub returns-else-have_name : goal.returns-else-have_name
returns-else-have_name c =
    let h = c.args.answers.now in
    let g = c.args.group.now in
    let has : Contact → Contact → Bool = λ a b. bytes_eq (folded (answer_to h.ours b).name) (folded a.name) in
    let one : have_one_name h (map tally_of g) ≡ false =
    sym (all_contacts (has (first_answer h (map tally_of g))) g) ∙ ap (λ a. list_all (λ t. has a (tally_of t).contact) g) (sym c.first_answer.ensures)
    ∙ sym c.have_name.ensures ∙ c.if-have_name.false in
    ap (λ b. if b then by_name else by_alike_names) (sym one)
