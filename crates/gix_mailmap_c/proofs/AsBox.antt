-- A box of what a handle holds, in the form that the steps for boxes need.
use mir.Syntax.{impl, tnil, dnil}
use mathlib.Core.List.{[]}
use Rattle.std_alloc.proofs.BoxSteps.Form.{Bx}
use Rattle.std_heap.specs.contracts.Global as Heap
use Rattle.std_heap.specs.contracts.GlobalAllocator.TheImpl.{ghosts, dict}
use Rattle.std_heap.proofs.Global.TheLaws as heap
use Rattle.gix_mailmap_c.specs.contracts.held.Content as Content
use Rattle.gix_mailmap_c.proofs.held.Content.TheLaws as content

abbrev pub E : Bx
E = record { row = Content.the_row; laws = content.the_row_laws; al = record { row = Heap.the_row; laws = heap.the_row_laws; g = ghosts; d = dict; drops = impl [] tnil dnil } }
