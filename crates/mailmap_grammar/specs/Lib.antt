pub use Rattle.mailmap_entries.specs.Folding
pub use Rattle.mailmap_entries.specs.Entries
pub use Rattle.mailmap_entries.specs.Search
pub mod Trimming
pub mod Lines
pub mod LineParts
pub mod CanonicalText
pub mod CachedLines
