use Rattle.gix_mailmap_c.proofs.notices.push_alone.Goals as goal

pub returns : goal.returns
returns c = λ empty. rw (c.as_slice.ensures.value, c.in_ok-names.ensures, c.as_slice-2.ensures.value, c.in_ok-buffers.ensures) at c.push_found.ensures empty
