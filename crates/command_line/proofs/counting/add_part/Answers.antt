use Rattle.std.proofs.Common.{◌∙◌, ◌++◌, ◌-◌, ◌+◌, ap, drop, length, take}
use Rattle.command_line.proofs.Parts.{counted_up_to, unended_part}
use Rattle.command_line.proofs.counting.add_part.Goals as goal

pub returns-in_default : goal.returns-in_default
returns-in_default c = λ read h. rw c.in_ok-extend_from_slice.ensures.items (unended_part c.args.part.now h)

pub returns : goal.returns
returns c = λ read h.
    let part = c.args.part.now in
    let rest = take (length part - (c.in-Some.feed + 1)) (drop (c.in-Some.feed + 1) part) in
    counted_up_to part c.extend_from_slice-2.new.self.items c.extend_from_slice-3.new.self.items c.in-Some.feed c.in-Some.ensures c.in_ok-extend_from_slice-2.ensures.items
    (c.in_ok-extend_from_slice-3.ensures.items ∙ ap (λ t. t ++ rest) c.clear.ensures.items) (rw c.as_slice.ensures.value at c.in_ok-add_lines.ensures) h
