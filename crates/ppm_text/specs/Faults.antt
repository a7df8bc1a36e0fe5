-- The names of the errors, and the places that they carry.
use Rattle.std.specs.Prelude.{ℕ, List, codes, Option, Some, None}
use Rattle.ppm_text.specs.declared.fault.PpmFault.{PpmFault}
use Rattle.ppm_text.specs.declared.fault.PpmFault.TheVariants.{NotP3, BadNumber, Truncated, BadMaxval, EmptySize}
use Rattle.ppm_text.specs.declared.fault.PpmFault.TheVariants.{TooLarge, SampleOver, TooManyColours, TrailingToken}
use Rattle.ppm_text.specs.declared.fault.PpmFault.TheVariants.{Memory}

-- the name, and the byte at which the error was met, where it has one
abbrev pub told_of : PpmFault → List ℕ × Option ℕ
told_of (NotP3 at) = (codes "NotP3", Some at)
told_of (BadNumber at) = (codes "BadNumber", Some at)
told_of (Truncated at) = (codes "Truncated", Some at)
told_of (BadMaxval at) = (codes "BadMaxval", Some at)
told_of (EmptySize at) = (codes "EmptySize", Some at)
told_of (TooLarge at) = (codes "TooLarge", Some at)
told_of (SampleOver at) = (codes "SampleOver", Some at)
told_of (TooManyColours at) = (codes "TooManyColours", Some at)
told_of (TrailingToken at) = (codes "TrailingToken", Some at)
told_of Memory = (codes "Memory", None)

abbrev pub name_of : PpmFault → List ℕ
name_of fault = (told_of fault).0

abbrev pub place_of : PpmFault → Option ℕ
place_of fault = (told_of fault).1
