pub use Rattle.mailmap_entries.specs.Folding
pub use Rattle.mailmap_entries.specs.Entries
pub use Rattle.mailmap_entries.specs.Prefixes
pub use Rattle.mailmap_entries.specs.Semantics
pub mod Batches
