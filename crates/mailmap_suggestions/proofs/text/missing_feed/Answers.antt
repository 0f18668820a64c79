use Rattle.std.proofs.Common.{◌∙◌, ap, option_copied, sym}
use Rattle.mailmap_suggestions.specs.SuggestedText.{feed_unless}
use Rattle.mailmap_suggestions.proofs.Counting.{last_is}
use Rattle.mailmap_suggestions.proofs.text.missing_feed.Goals as goal

pub returns-in-Some : goal.returns-in-Some
returns-in-Some c = c.feed_unless.ensures ∙ ap feed_unless (sym (ap option_copied c.in-Some.is) ∙ c.last.ensures.value ∙ last_is c.args.text.now)

pub returns-in-None : goal.returns-in-None
returns-in-None c = ap feed_unless (sym (ap option_copied c.in-None.is) ∙ c.last.ensures.value ∙ last_is c.args.text.now)
