-- Files that were replaced in memory.
use Rattle.caller_promises.specs.declared.shelf.Replacement.{Replacement}
use Rattle.verify_command.specs.InPlace.{Replaced}

abbrev pub replaced_of : Replacement → Replaced
replaced_of r = record { path = r.path.items; text = r.text.items }
