use Rattle.std.proofs.Common.{◌≡◌, ◌<◌, ◌==◌, length, sym, ◌∙◌, rules, tests}
use Rattle.std.proofs.lemmas.Iterator.{YieldsList-from_slice}
use Rattle.std.proofs.lemmas.Iterator.Search.{position_from_yields_List}
use Rattle.std.proofs.lemmas.List.{get_or_read}
use Rattle.std.proofs.lemmas.List.Quantifiers.{position-Some}
use Rattle.std.specs.Prelude.{position, ◌||◌}
use Rattle.mailmap_names.proofs.WordLemmas.{len_to_closing-none, len_to_closing-closed, len_to_closing-other}
use Rattle.mailmap_names.proofs.words.len_to_closing.Goals as goal

pub returns-in-Some-clause-value : goal.returns-in-Some-clause-value
returns-in-Some-clause-value c =
    let found : c.position.result ≡ position (λ x. x == c.args.opening || x == c.args.closing) c.args.after.now =
    position_from_yields_List _ _ _ _ c.position.ensures.ran
    (YieldsList-from_slice c.args.after.now (cc)) (λ x b q k. search (rules, tests)) in
    let at_end = sym found ∙ c.in-Some.is in
    let below : c.in-Some.end < length c.args.after.now = (position-Some _ _ _ 0 at_end).0 in
    let read = get_or_read c.args.after.now c.in-Some.end c.index-after-end.result below c.index-after-end.is 0 in
    sym (len_to_closing-closed _ _ _ _ at_end (sym read ∙ c.if-after-end.true))

pub returns-in_default-clause-value : goal.returns-in_default-clause-value
returns-in_default-clause-value c =
    let found : c.position.result ≡ position (λ x. x == c.args.opening || x == c.args.closing) c.args.after.now =
    position_from_yields_List _ _ _ _ c.position.ensures.ran
    (YieldsList-from_slice c.args.after.now (cc)) (λ x b q k. search (rules, tests)) in
    let at_end = sym found ∙ c.in-Some.is in
    let below : c.in-Some.end < length c.args.after.now = (position-Some _ _ _ 0 at_end).0 in
    let read = get_or_read c.args.after.now c.in-Some.end c.index-after-end.result below c.index-after-end.is 0 in
    sym (len_to_closing-other _ _ _ _ at_end (λ same. c.if-after-end.false (read ∙ same)))

pub returns-in_default-2-clause-value : goal.returns-in_default-2-clause-value
returns-in_default-2-clause-value c =
    let found : c.position.result ≡ position (λ x. x == c.args.opening || x == c.args.closing) c.args.after.now =
    position_from_yields_List _ _ _ _ c.position.ensures.ran
    (YieldsList-from_slice c.args.after.now (cc)) (λ x b q k. search (rules, tests)) in
    sym (len_to_closing-none _ _ _ (sym found ∙ c.in_default.is))
