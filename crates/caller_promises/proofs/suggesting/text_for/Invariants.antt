-- The text so far has the suggestions so far.
use Rattle.std.proofs.Common.{◌≡◌, ◌++◌, map, take}
use Rattle.gix_mailmap.specs.SuggestedText.{suggestions_text}
use Rattle.gix_mailmap.specs.Views.{suggestion_of}
use Rattle.caller_promises.proofs.suggesting.text_for.Given as goal

abbrev pub invariant-loop-suggestion : goal.invariant-loop-suggestion
invariant-loop-suggestion l = l.text.items ≡ l.initial.text.items ++ suggestions_text (map suggestion_of (take l.suggestion-index l.suggestion-items))
