-- The bits of masks.
use Rattle.std.proofs.Common.{ℕ, bit_and, IsBitSet, arith}
use Rattle.std.proofs.lemmas.Nat.Bits.{bit_at-lt, bit_at_and}
use Rattle.picture.proofs.BitLaws.{bit_is_set, set_bit}

pub bits_of_and : (a b k : ℕ) → IsBitSet (bit_and a b) k → IsBitSet a k × IsBitSet b k
bits_of_and a b k s =
    let both = set_bit (bit_and a b) k s in
    let least = bit_at_and a b k in
    let l = bit_at-lt a k in
    let m = bit_at-lt b k in
    (bit_is_set a k (omega arith), bit_is_set b k (omega arith))

pub bits_in_and : (a b k : ℕ) → IsBitSet a k → IsBitSet b k → IsBitSet (bit_and a b) k
bits_in_and a b k s t =
    let x = set_bit a k s in
    let y = set_bit b k t in
    let least = bit_at_and a b k in
    bit_is_set (bit_and a b) k (omega arith)
