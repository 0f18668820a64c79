use Rattle.std.proofs.Common.{◌∙◌, ◌++◌, ◌∷◌, [], List, ap, map}
use Rattle.std.proofs.lemmas.Result.{on_ok_weaker}
use Rattle.mailmap_contacts.specs.Contacts.{Contact, Tally, seen_where}
use Rattle.mailmap_contacts.specs.Counts.{key_contact, key_tally}
use Rattle.mailmap_contacts.proofs.Entries.{tallies_more}
use Rattle.mailmap_contacts.proofs.counter.Contacts.add_contact.Goals as goal

pub returns-clause-tallies : goal.returns-clause-tallies
returns-clause-tallies c =
    let es = c.self.inside.tallies.entries in
    let one : Contact → List Tally = λ contact. record { contact = contact; seen = c.args.seen } ∷ [] in
    on_ok_weaker c.add_to.result (λ more test. tallies_more key_contact es c.add_to.new.tallies.entries
    (c.in_ok-name.name, c.in_ok-email.email) c.args.seen more test ∙ (λ i. seen_where test (map key_tally es
    ++ one (record { name = c.in_ok-name.ensures.items i; email = c.in_ok-email.ensures.items i })))
    ∙ ap (λ s. seen_where test (s.tallies ++ one (record { name = c.args.name.now; email = c.args.email.now })))
    c.self.view_is) c.add_to.ensures.ok
