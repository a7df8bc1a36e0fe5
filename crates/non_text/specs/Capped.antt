-- Numbers as read: capped at 255, which no size or length reaches.
use Rattle.std.specs.Prelude.{ℕ, List, map, min, Result, Ok}
use Rattle.picture.specs.Readers.{◌>>=◌}
use Rattle.non_text.specs.declared.fault.NonFault.{NonFault}

abbrev pub all_capped : Result (List ℕ) NonFault → Result (List ℕ) NonFault
all_capped read = read >>= λ numbers. Ok (map (min 255) numbers)
