use Rattle.std.proofs.Common.{◌∙◌, ap, sym, true, false, Some, take_all}
use Rattle.std.specs.List.{list_any}
use Rattle.mailmap_contacts.specs.Answers.{tally_of}
use Rattle.mailmap_suggestions.specs.LinkViews.{is_name_in, mark_texts}
use Rattle.mailmap_suggestions.proofs.FirstLogin.{key_found, keys_more, login_by}
use Rattle.mailmap_suggestions.proofs.links.LoginKeys.linking_login.Goals as goal

pub loop-key-preserved : goal.loop-key-preserved
loop-key-preserved c =
    keys_more (is_name_in c.args.self.now (tally_of c.args.answer.now).contact) c.deref-key-items.result.now c.loop-key.key-index c.key-item.result c.loop-key-test.true c.key-item.is c.loop-key.invariant
    (sym c.is_name_of_another.ensures ∙ c.if-is_name_of_another.false)

pub returns-then-is_name_of_another : goal.returns-then-is_name_of_another
returns-then-is_name_of_another c = λ h ts are.
    ap Some c.login.ensures
    ∙ login_by c.args.shared.now h ts c.args.self.now are (tally_of c.args.answer.now).contact c.args.email.now c.deref-key-items.result.now true (ap mark_texts c.deref-key-items.ensures.value ∙ c.in_ok-keys.ensures)
    (key_found (is_name_in c.args.self.now (tally_of c.args.answer.now).contact) c.deref-key-items.result.now c.loop-key.key-index c.key-item.result c.loop-key-test.true c.key-item.is
    (sym c.is_name_of_another.ensures ∙ c.if-is_name_of_another.true))

pub returns : goal.returns
returns c = λ h ts are.
    login_by c.args.shared.now h ts c.args.self.now are (tally_of c.args.answer.now).contact c.args.email.now c.deref-key-items.result.now false (ap mark_texts c.deref-key-items.ensures.value ∙ c.in_ok-keys.ensures)
    (ap (λ l. list_any (is_name_in c.args.self.now (tally_of c.args.answer.now).contact) (mark_texts l)) (sym (take_all c.loop-key.key-index c.deref-key-items.result.now c.loop-key-test.false)) ∙ c.loop-key.invariant)
