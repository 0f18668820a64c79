use Rattle.gix_mailmap_c.proofs.Copying.{after_both}
use Rattle.gix_mailmap_c.proofs.listing.copy_entry.Goals as goal

pub returns : goal.returns
returns c = rw (c.new_name.ensures, c.new_email.ensures, c.old_name.ensures, c.old_email.ensures)
    at (after_both (after_both (after_both c.copy_text-end.ensures c.copy_text-end-2.ensures) c.copy_text-end-3.ensures) c.copy_text.ensures)
