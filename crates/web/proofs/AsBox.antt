-- The seal and its parts own what a box at the same types owns.
use mir.Syntax.{impl, tnil, dnil}
use mathlib.Core.List.{[]}
use denote.Signature.{Slot, plain}
use Rattle.std_alloc.proofs.BoxSteps.Form.{Bx}
use Rattle.std_heap.specs.contracts.Global as Heap
use Rattle.std_heap.specs.contracts.GlobalAllocator.TheImpl.{ghosts, dict}
use Rattle.std_heap.proofs.Global.TheLaws as heap
use Rattle.web.specs.contracts.desk.Desk as Desk
use Rattle.web.proofs.desk.Desk.TheLaws as desk
use Rattle.web.specs.contracts.parts.Parts as Parts
use Rattle.web.specs.contracts.held.Held as Held
use Rattle.web.specs.contracts.cell.DeskCell as Cell

abbrev pub E : Bx
E = record { row = Desk.the_row; laws = desk.the_row_laws; al = record { row = Heap.the_row; laws = heap.the_row_laws; g = ghosts; d = dict; drops = impl [] tnil dnil } }

abbrev pub FromParts : Slot 0
FromParts = plain (λ _. Parts.the_row Desk.the_row Heap.the_row ghosts)

abbrev pub FromHeld : Slot 0
FromHeld = plain (λ _. Held.the_row)

abbrev pub FromCell : Slot 0
FromCell = plain (λ _. Cell.the_row)
