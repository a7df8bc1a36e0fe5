-- The desk behind the host's pointer owns what a box of it owns.
use base.Fml.{Fml, ftrue}
use base.Stored.{Coded}
use denote.RawPtr.{Ptr}
use Rattle.std.specs.Prelude.{◌≡◌, [], Option, None, Some}
use Rattle.std.specs.Box.Ownership.{box_owns}
use Rattle.std.specs.Global.{Global}
use Rattle.std_heap.specs.contracts.GlobalAllocator.TheImpl.{ghosts}
use Rattle.web.specs.declared.desk.Desk.{Desk}
use Rattle.web.specs.contracts.desk.Desk.{the_row}

abbrev pub held_owns : Global → Ptr → the_row.Denot → Fml
held_owns alloc = box_owns (ghosts.dealloc_token alloc) the_row

abbrev pub desk_coded : Coded the_row.Denot
desk_coded = the_row.coded

-- what a host's cell owns: nothing where there is no desk, whatever pointer it holds
abbrev pub cell_owns : Global → Ptr → Option the_row.Denot → Fml
cell_owns alloc ptr None = ftrue
cell_owns alloc ptr (Some desk) = held_owns alloc ptr desk

-- no bench is open, and no handle was given
abbrev pub IsEmpty : Desk → Type 0
IsEmpty desk = (desk.seats.items ≡ []) × (desk.given ≡ 0)
