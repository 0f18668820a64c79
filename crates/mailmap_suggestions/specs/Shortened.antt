-- Long texts, which are cut, so that what is printed stays short however often they come.
use Rattle.std.specs.Prelude.{ℕ, ◌-◌, nat_lt, Bool, ◌&&◌, if◌then◌else◌, is_some, length, take, drop, ◌++◌, codes}
use Rattle.bstr.specs.Utf8.{decoded}
use Rattle.mailmap_entries.specs.Folding.{Text}
use Rattle.mailmap_grammar.specs.CanonicalText.{contact_line}

-- a character begins so many bytes before a limit, and goes beyond it
unfoldable pub crosses : ℕ → ℕ → Text → Bool
crosses back limit text =
    is_some (decoded (drop (limit - back) text)).char && nat_lt back (decoded (drop (limit - back) text)).size

-- as many bytes as the limit says, or up to three fewer so that no character is cut
abbrev pub front_len : ℕ → Text → ℕ
front_len limit text = if crosses 1 limit text then limit - 1 else if crosses 2 limit text then limit - 2
    else if crosses 3 limit text then limit - 3 else limit

-- a text that is longer than the limit is shown as its front and two dots, a shorter one whole
unfoldable pub shortened_to : ℕ → Text → Text
shortened_to limit text =
    if nat_lt limit (length text) then take (front_len limit text) text ++ codes ".." else text

abbrev pub shortened : Text → Text
shortened text = shortened_to 256 text

-- a contact with its texts shortened
abbrev pub short_contact : Text → Text → Text
short_contact name email = contact_line (shortened name) (shortened email)
