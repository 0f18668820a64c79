use Rattle.std.proofs.Common.{◌++◌, ◌∷◌, [], List, refl, subst}
use Rattle.mailmap_contacts.specs.Answers.{tally_of}
use Rattle.mailmap_contacts.specs.Contacts.{Contact}
use Rattle.mailmap_entries.specs.Folding.{Text}
use Rattle.mailmap_suggestions.specs.LinkViews.{HoldersOf, mark_texts, with_answer}
use Rattle.mailmap_suggestions.proofs.Holding.{pairs_more}
use Rattle.mailmap_suggestions.proofs.holders.Holders.add_all.Goals as goal

pub loop-key-preserved : goal.loop-key-preserved
loop-key-preserved c = λ pairs are.
    let a : Contact = (tally_of c.args.answer.now).contact in
    let before : List (Text × Contact) = pairs ++ with_answer a (mark_texts c.loop-key.yielded) in
    subst (λ (l : List (Text × Contact)). HoldersOf l c.add.new.self)
    (pairs_more pairs a c.loop-key.yielded (c.loop-key.yielded ++ c.in-Some.key ∷ []) c.in-Some.key refl)
    (c.in_ok-add.ensures before (c.loop-key.invariant pairs are))
