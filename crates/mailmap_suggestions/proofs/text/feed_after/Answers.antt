use Rattle.std.proofs.Common.{◌∙◌, [], ap, option_copied, sym, unwrap_or}
use Rattle.mailmap_entries.specs.Semantics.{last}
use Rattle.mailmap_suggestions.specs.SuggestedText.{feed_unless}
use Rattle.mailmap_suggestions.proofs.Counting.{last_buffer}
use Rattle.mailmap_suggestions.proofs.text.feed_after.Goals as goal

pub returns-in-Some : goal.returns-in-Some
returns-in-Some c = c.missing_feed.ensures
    ∙ ap (λ o. feed_unless (last (unwrap_or o []))) (sym (last_buffer c.args.buffers.now _ (sym (ap option_copied c.in-Some.is) ∙ c.last.ensures.value)))

pub returns-in-None : goal.returns-in-None
returns-in-None c =
    ap (λ o. feed_unless (last (unwrap_or o []))) (sym (last_buffer c.args.buffers.now _ (sym (ap option_copied c.in-None.is) ∙ c.last.ensures.value)))
