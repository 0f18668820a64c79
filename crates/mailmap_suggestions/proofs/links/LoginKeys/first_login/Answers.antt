use Rattle.std.proofs.Common.{◌∙◌, ap, flat_map, fold, map}
use Rattle.std.specs.Prelude.{option_to_list}
use Rattle.std.specs.Option.{option_copied}
use Rattle.mailmap_suggestions.specs.FirstLogins.{with_login}
use Rattle.mailmap_suggestions.specs.Suggestions.{first_or_empty}
use Rattle.mailmap_suggestions.proofs.FirstLogin.{first_linking}
use Rattle.mailmap_suggestions.proofs.links.LoginKeys.first_login.Goals as goal

pub returns : goal.returns
returns c = λ h ts us keys are whole.
    c.first_found.ensures ∙ ap (λ l. first_or_empty (flat_map option_to_list (map option_copied l))) c.deref.ensures.value
    ∙ ap (λ l. first_or_empty (flat_map option_to_list l))
    (c.in_ok-found.ensures h ts keys ∙ ap (λ l. fold (with_login c.args.shared.now h ts) l c.args.group.now) (c.in_ok-own.ensures h ts keys))
    ∙ first_linking c.args.shared.now h ts us c.args.group.now are whole
