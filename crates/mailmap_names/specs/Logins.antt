-- The login of an email, which may be the name of its owner.
use Rattle.std.specs.Prelude.{ℕ, ◌+◌, Bool, ◌&&◌, ◌==◌, if◌then◌else◌, nat_lt, List, [], ◌∷◌, drop, bytes_eq}
use Rattle.std.specs.Prelude.{codes, slice_index}
use Rattle.std.specs.Char.{is_ascii_digit}
use Rattle.std.specs.List.{before_first, before_last, after_last, list_any, prefix_len}
use Rattle.mailmap_entries.specs.Folding.{Text, folded}
use Rattle.mailmap_names.specs.Keys.{keys}

abbrev pub is_at : ℕ → Bool
is_at byte = byte == 64

abbrev pub is_plus : ℕ → Bool
is_plus byte = byte == 43

-- what is before the last `@`, all if there is none
abbrev pub local_part : Text → Text
local_part email = if list_any is_at email then before_last is_at email else email

-- whether what is after the last `@` is the domain of the emails that GitHub gives, as `12345+jane@..`
abbrev pub is_github : Text → Bool
is_github email = bytes_eq (folded (after_last is_at email)) (folded (codes "users.noreply.github.com"))

-- whether a `+` is after so many bytes, at least one
abbrev pub has_plus_after : ℕ → Text → Bool
has_plus_after count text = nat_lt 0 count && slice_index text count == 43

-- without the digits, at least one, and the `+` after them that it begins with
abbrev pub without_number : Text → Text
without_number local = let digits = prefix_len is_ascii_digit local in
    if has_plus_after digits local then drop (digits + 1) local else local

-- without the first `+` that has something before it, and what follows
abbrev pub without_tag : Text → Text
without_tag [] = []
without_tag (first ∷ rest) = first ∷ before_first is_plus rest

unfoldable pub login : Text → Text
login email = without_tag (if is_github email then without_number (local_part email) else local_part email)

-- logins that many people have
abbrev pub generic_logins : List Text
generic_logins = codes "root" ∷ codes "admin" ∷ codes "administrator" ∷ codes "info" ∷ codes "mail" ∷ codes "me"
    ∷ codes "git" ∷ codes "github" ∷ codes "contact" ∷ codes "dev" ∷ codes "devel" ∷ codes "noreply"
    ∷ codes "no-reply" ∷ codes "hello" ∷ codes "user" ∷ codes "unknown" ∷ codes "none" ∷ codes "nobody"
    ∷ codes "webmaster" ∷ codes "postmaster" ∷ codes "devnull" ∷ codes "anonymous" ∷ codes "support"
    ∷ codes "test" ∷ codes "linux" ∷ codes "email" ∷ codes "web" ∷ codes "home" ∷ codes "office" ∷ codes "hi"
    ∷ codes "code" ∷ []

-- one of these, whatever its case
unfoldable pub is_generic : Text → Bool
is_generic text = list_any (λ generic. bytes_eq (folded generic) (folded text)) generic_logins

-- the keys of the login of an email, as those of a name; none if the login is generic
unfoldable pub login_keys : Text → List Text
login_keys email = if is_generic (login email) then [] else keys (login email)
