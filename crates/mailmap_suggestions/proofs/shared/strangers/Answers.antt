use Rattle.std.proofs.Common.{◌∙◌, ap, map, take, take_all}
use Rattle.mailmap_suggestions.specs.Shared as spec
use Rattle.mailmap_suggestions.specs.SharedViews.{names_in}
use Rattle.mailmap_suggestions.proofs.Strangers.{four_at_most, strangers_more}
use Rattle.mailmap_suggestions.proofs.shared.strangers.Goals as goal

pub add_name-requires : goal.add_name-requires
add_name-requires c = four_at_most c.loop-name.known.items _ c.loop-name.invariant

pub loop-name-preserved : goal.loop-name-preserved
loop-name-preserved c =
    strangers_more c.args.names.now c.loop-name.name-index _ (names_in c.loop-name.known.items) (names_in c.add_name.new.known.items) c.loop-name-test.true c.loop-name.invariant c.in_ok-add_name.ensures

pub returns : goal.returns
returns c = c.loop-name.invariant ∙ ap (λ l. take 4 (spec.strangers (map (λ n. n.now) l))) (take_all c.loop-name.name-index c.args.names.now c.loop-name-test.false)
