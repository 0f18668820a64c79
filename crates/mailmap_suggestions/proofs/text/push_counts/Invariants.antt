-- The text so far and the lines of the remaining answers are the whole.
use Rattle.std.proofs.Common.{◌≡◌, ◌++◌, drop, map}
use Rattle.mailmap_contacts.specs.Answers.{tally_of}
use Rattle.mailmap_suggestions.specs.SuggestedText.{count_lines}
use Rattle.mailmap_suggestions.proofs.text.push_counts.Given as goal

abbrev pub invariant-loop-answer : goal.invariant-loop-answer
invariant-loop-answer l =
    l.out.items ++ count_lines l.are_gits (map tally_of (drop l.answer-index l.answers)) ≡ l.fn.out.items ++ count_lines l.are_gits (map tally_of l.answers)
