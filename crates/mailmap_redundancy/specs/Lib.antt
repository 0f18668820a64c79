pub use Rattle.mailmap_entries.specs.Folding
pub use Rattle.mailmap_entries.specs.Entries
pub use Rattle.mailmap_entries.specs.Semantics
pub mod Redundancy
pub mod Origins
pub mod Summaries
