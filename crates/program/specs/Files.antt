-- What the names of files hold, what the bytes of a file are, and when a fault happened.
use Rattle.std.specs.Prelude.{◌≡◌, ◌⊎◌, ℕ, ◌<◌, ◌≤◌, List, length, Option, None, Some, Result, Ok, Err, IfSome}
use Rattle.std.proofs.Common.{Vec, Global}
use Rattle.program_options.specs.declared.fault.ProgramFault.{ProgramFault}
use Rattle.program_options.specs.declared.fault.ProgramFault.TheVariants.{Memory, TooLong, Read}

-- What a name holds: that is unknown; or no file; or a file with these bytes.
pub data Held : Type 0 where
  Unknown : Held
  Missing : Held
  Holds : List ℕ → Held

-- a file that was opened and gives these bytes is what its name holds, where that is known
abbrev pub IsOpened : Held → Option (List ℕ) → Type 0
IsOpened Unknown given = Unit {0}
IsOpened Missing given = ⊥
IsOpened (Holds bytes) given = given ≡ Some bytes

-- a name whose file could not be opened holds no file, where that is known
abbrev pub IsAbsent : Held → Type 0
IsAbsent Unknown = Unit {0}
IsAbsent Missing = Unit {0}
IsAbsent (Holds bytes) = ⊥

-- why an input is not read to its end: it is too long, a read failed, or memory ran out
abbrev pub IsUnread : Option (List ℕ) → ProgramFault → Type 0
IsUnread had fault =
    ((fault ≡ TooLong) × IfSome had (λ input. 16777216 < length input)) ⊎ ((fault ≡ Read) ⊎ (fault ≡ Memory))

-- The count of faults rises for `Read`, and for no other error.
abbrev pub HasFailed : ℕ → ℕ → ProgramFault → Type 0
HasFailed before now Read = before < now
HasFailed before now fault = now ≡ before

-- the same for the answer of a call, which has no error where it is Ok
abbrev pub FailsBy : {X : Type 0} → ℕ → ℕ → Result X ProgramFault → Type 0
FailsBy before now (Ok x) = now ≡ before
FailsBy before now (Err fault) = HasFailed before now fault

-- the bytes of a name's file
abbrev pub IsContent : Held → List ℕ → Type 0
IsContent Unknown bytes = Unit {0}
IsContent Missing bytes = ⊥
IsContent (Holds held) bytes = bytes ≡ held

-- why a name's file is not read
abbrev pub IsUnreadFile : Held → ProgramFault → Type 0
IsUnreadFile Unknown fault = IsUnread None fault
IsUnreadFile Missing fault = fault ≡ Read
IsUnreadFile (Holds held) fault = IsUnread (Some held) fault

-- what comes of reading a name's file: its bytes, at most 16,777,216, or why it is not read
abbrev pub ReadsFile : Held → Result (Vec ℕ Global) ProgramFault → Type 0
ReadsFile held (Ok bytes) = IsContent held bytes.items × (length bytes.items ≤ 16777216)
ReadsFile held (Err fault) = IsUnreadFile held fault
