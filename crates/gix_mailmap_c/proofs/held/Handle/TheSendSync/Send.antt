use mathlib.Core.Bool.{Bool, true, false}
use mir.Raw.{raw}
use base.Shift.{Keyless}
use denote.Memory.{lone}
use denote.RawPtr.{Ptr}
use denote.Struct.Struct.{exits_of}
use denote.Struct.Owning.{shape, fields, to}
use denote.Param.Send.{IsSend, AllSend, owning_send, struct_send, sendable}
use Rattle.std.proofs.Crossing as heap
use Rattle.std_alloc.proofs.SendSync.{quiet, lies}
use Rattle.std_heap.proofs.Global.TheSendSync as handle
use Rattle.std_heap.specs.contracts.Global as Heap
use Rattle.gix_mailmap_c.specs.contracts.held.Content as Content
use Rattle.gix_mailmap_c.proofs.held.Content.TheSendSync.{the_send as sends}
use Rattle.gix_mailmap_c.specs.Ownership.{owns_content}
use Rattle.gix_mailmap_c.specs.contracts.held.Handle.{the_row, the_type}

keyless : (alloc : Heap.the_row.Denot) (is_open : Bool) (at : Ptr) (content : Content.the_row.Denot) → Keyless (owns_content alloc is_open at content)
keyless alloc true at content = (lies Content.the_row sends at content, heap.frees.frees alloc (raw (lone Content.the_row.mir)) at)
keyless alloc false at content = tt

pub send : IsSend the_row
send =
    let all : AllSend (fields the_type) = (search sendable, (search sendable, (handle.the_field_send, tt))) in
    owning_send the_type all (λ m. keyless m.alloc m.is_open m.at m.content)
    (λ k. quiet (to the_type) (exits_of k (fields the_type)) ((struct_send (shape the_type) all).leaving k))
