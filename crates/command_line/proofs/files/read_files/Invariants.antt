-- The list has the contents of the files at the paths so far.
use Rattle.std.proofs.Common.{◌≡◌, ◌<◌, ℕ, [], get_or, vec_len}
use Rattle.command_line.specs.Files.{Gives}
use Rattle.mailmap_entries.specs.Texts.{texts}
use Rattle.command_line.proofs.files.read_files.Given as goal

abbrev pub invariant-loop-index : goal.invariant-loop-index
invariant-loop-index g l = (vec_len l.contents ≡ l.index) × ((k : ℕ) → k < l.index →
    Gives (g.F.FileSystem.at l.system (get_or (texts l.paths) k [])) (get_or (texts l.contents.items) k []))
