use Rattle.gix_mailmap_c.proofs.several.report_beside.Goals as goal

pub returns : goal.returns
returns c =
    let made = c.report_counted.ensures c.args.contacts.now c.in_ok-counted.ensures in
    rw (c.settings_in-settings.ensures, c.as_slice.ensures.value, c.in_ok-names.ensures, c.as_slice-2.ensures.value, c.in_ok-buffers.ensures) at made
