-- The ownership of a handle: while it is open, it owns the content that it points to, as a box does.
use Rattle.std.specs.Prelude.{Bool, true, false}
use base.Fml.{Fml, ftrue}
use denote.RawPtr.{Ptr}
use Rattle.std.specs.Box.Ownership.{box_owns}
use Rattle.std.specs.Global.{Global}
use Rattle.std.specs.contracts.impls.GlobalAllocator.TheImpl.{ghosts}
use Rattle.gix_mailmap_c.specs.declared.held.Content.{Content}
use Rattle.gix_mailmap_c.specs.contracts.held.Content.{the_row}

abbrev pub owns_content : Global → Bool → Ptr → Content → Fml
owns_content alloc true at content = box_owns (ghosts.dealloc_token alloc) the_row at content
owns_content alloc false at content = ftrue
