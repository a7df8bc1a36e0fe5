-- Why a new triple was refused by the palette.
use Rattle.std.specs.Prelude.{ℕ}
use Rattle.picture.specs.declared.palette.PaletteFault.{PaletteFault}
use Rattle.picture.specs.declared.palette.PaletteFault.TheVariants as palette
use Rattle.ppm_text.specs.declared.fault.PpmFault.{PpmFault}
use Rattle.ppm_text.specs.declared.fault.PpmFault.TheVariants.{TooManyColours, Memory}

abbrev pub adding_fault : PaletteFault → ℕ → PpmFault
adding_fault palette.Memory place = Memory
adding_fault palette.Full place = TooManyColours place
adding_fault palette.Duplicate place = TooManyColours place
adding_fault palette.SampleOver place = TooManyColours place
adding_fault palette.Background place = TooManyColours place
