-- An input that is read part by part while its contacts are counted.
use Rattle.std.specs.Prelude.{◌≡◌, ◌++◌, ℕ, List}
use Rattle.bstr.specs.Text.{lines_of}
use Rattle.mailmap_grammar.specs.LineParts.{EndsLine}
use Rattle.mailmap_contacts.specs.Counts.{Counter, HasCounted}

-- `read` is whole lines, whose contacts are counted, and after them `rest`, which isn't counted yet
pub record HasCountedRead (read rest : List ℕ) (counter : Counter) : Type 0 where
  pub whole : List ℕ
  pub ends : EndsLine whole
  pub is : read ≡ whole ++ rest
  pub counted : HasCounted (lines_of whole) counter
