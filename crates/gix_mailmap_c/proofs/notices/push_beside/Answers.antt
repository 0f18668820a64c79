use Rattle.gix_mailmap_c.proofs.notices.push_beside.Goals as goal

pub returns : goal.returns
returns c = λ empty.
    let made = c.push_counted.ensures c.args.contacts.now c.in_ok-counted.ensures empty in
    rw (c.as_slice.ensures.value, c.in_ok-names.ensures, c.as_slice-2.ensures.value, c.in_ok-buffers.ensures) at made
