-- What a picture is judged to be: no other picture has the clues
-- and the givens, one has, or a part costs more than is allowed.
pub data Verdict : Type 0 where
  Unique : Verdict
  Other : Verdict
  Undecided : Verdict
