use Rattle.std.proofs.Common.{ℕ, ◌-◌, ◌<◌, arith, inl, inr, subst, bit_and, length, get_or}
use Rattle.std.specs.Prelude.{IsBitSet}
use Rattle.line_facts.proofs.MaskLaws.{without_bit}
use Rattle.std.proofs.Math.ListN.{set}
use Rattle.std.proofs.lemmas.Bool.{cases_eq}
use Rattle.std.proofs.lemmas.List.{get_or-set_same, get_or-set_other}
use Rattle.tables.proofs.sweeping.take_out.Goals as goal

pub loop-i-preserved : goal.loop-i-preserved
loop-i-preserved c =
    let out = c.args.out.now in
    let drawn = c.loop-i.drawn in
    let i = c.loop-i.i in
    let some = get_or c.args.left.now i 0 in
    let mask = bit_and some (65535 - get_or out i 0) in
    let few = c.type_inv.left i in
    let fits = c.type_inv.out i in
    let inside : i < length drawn = omega arith in
    λ j k h d o. elim (cases_eq j i) [
      | inl e ↦
          let P : ℕ → Type 0 = λ n. IsBitSet (get_or (set drawn i mask) n 0) k in
          let Q : ℕ → Type 0 = λ n. IsBitSet n k in
          let R : ℕ → Type 0 = λ n. IsBitSet (get_or out n 0) k in
          let here = subst Q (get_or-set_same drawn i mask 0 inside) (subst P e d) in
          ((without_bit some (get_or out i 0) k (omega arith) (omega arith)).0 here).1 (subst R e o)
      | inr n ↦
          let Q : ℕ → Type 0 = λ m. IsBitSet m k in
          c.loop-i.invariant j k (omega arith) (subst Q (get_or-set_other drawn i j mask 0 n) d) o
    ]
