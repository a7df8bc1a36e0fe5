-- What was written in two steps is one prefix of the bytes.
use Rattle.std.proofs.Common.{ℕ, ◌+◌, ◌-◌, List, take, drop, length, Option}
use Rattle.std.proofs.Math.Seq.{take-add}
use Rattle.std.proofs.lemmas.List.{take_rest}
use Rattle.std.proofs.KnownBytes.{Appends-trans}
use Rattle.std.specs.Io.KnownBytes.{Appends}

pub sent_more : (a b c : Option (List ℕ)) (bytes : List ℕ) (sent count : ℕ) → Appends a b (take sent bytes) → Appends b c (take count (take (length bytes - sent) (drop sent bytes)))
    → Appends a c (take (sent + count) bytes)
sent_more a b c bytes sent count before now = rw (take-add sent count bytes) (Appends-trans a b c _ _ before (rw take_rest at now))

pub ruleset sending = (sent_more)
