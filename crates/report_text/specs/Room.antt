-- How much room texts take, so that a caller can reserve it before it computes what they say.
use Rattle.std.specs.Prelude.{ℕ, ◌+◌, ◌*◌, ◌<◌, ◌≤◌, length, OnErr, OnOk, Result, vec_capacity, vec_len}
use Rattle.std.specs.declared.vec.Vec.{Vec}
use Rattle.std.specs.declared.alloc.Global.{Global}
use Rattle.picture.specs.Rows.{width_of, Rows}

-- A call that appends at most `most` bytes to a text. Where there is that much room it is not refused, and the room of
-- the text does not shrink.
pub record TakesRoom (old new : Vec ℕ Global) (most : ℕ) {X E : Type 0} (result : Result X E) : Type 0 where
  pub kept : vec_capacity old ≤ vec_capacity new
  pub taken : OnOk result (vec_len new ≤ vec_len old + most)
  pub short : OnErr result (vec_capacity old < vec_len old + most)

-- the letters of a picture, with a line feed after each row
abbrev pub picture_room : Rows → ℕ
picture_room rows = length rows * (width_of rows + 1)
