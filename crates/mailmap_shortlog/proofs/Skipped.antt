-- The lines of the contacts that weren't counted.
use Rattle.std.proofs.Common.{◌≡◌, ◌∙◌, ℕ, List, Option, None, Some, IfSome, ap}
use Rattle.bstr.specs.Text.{lines_of}
use Rattle.mailmap_contacts.specs.Contacts.{no_contacts_from}
use Rattle.mailmap_snapshot.specs.Folding.{Text}
use Rattle.mailmap_shortlog.specs.Task.{skipped_of}

pub skipped_known : (input : Option Text) (text : Text) (lines : List ℕ) → IfSome input (λ bytes. text ≡ bytes)
    → lines ≡ no_contacts_from 1 (lines_of text)
    → IfSome input (λ bytes. skipped_of lines ≡ skipped_of (no_contacts_from 1 (lines_of bytes)))
skipped_known None text lines is are = tt
skipped_known (Some bytes) text lines is are = ap skipped_of (are ∙ ap (λ t. no_contacts_from 1 (lines_of t)) is)
