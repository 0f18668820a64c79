use Rattle.gix_mailmap_c.proofs.several.report.Goals as goal

pub returns : goal.returns
returns c =
    rw (c.settings_in-settings.ensures, c.as_slice.ensures.value, c.in_ok-names.ensures, c.as_slice-2.ensures.value, c.in_ok-buffers.ensures) at c.report_in.ensures
