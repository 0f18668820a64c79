mod Distinct
pub mod Counting
mod Classed
mod FirstLogin
mod Forests
pub mod Proper
mod Frequent
mod Ordered
mod Remembering
mod Spelled
mod Participating
mod Seeing
mod Strangers
pub mod Appended
pub mod Changed
pub mod Forms
mod ListTests
mod FirstBytes
mod MemberMarks
mod LoginLinks
mod NameLinks
mod Grouping
mod Holding
mod Numbered
pub mod Staged
mod Suggested
pub mod United
pub mod After
pub mod Fed
mod GitTrim
pub mod Careful
mod Held
mod Shortening
pub mod Texts
pub mod Selected
pub mod Writable
mod GitText
mod Needed
mod Needing
mod NewNames
mod NoZero
mod Overlapping
mod Kept
mod Together
mod Selections
