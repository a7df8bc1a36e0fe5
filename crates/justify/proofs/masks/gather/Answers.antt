use Rattle.std.proofs.Common.{◌≡◌, ◌+◌, ◌<◌, ◌^◌, ℕ, List, arith, refl, sym, subst, get_or, length}
use Rattle.justify.specs.declared.premise.Premise.{Premise}
use Rattle.justify.specs.GatheredCells.{Gathered}
use Rattle.justify.proofs.GatherLemmas.{gathered_over, gathered_take, gathered_all, premise}
use Rattle.justify.proofs.masks.gather.Goals as goal
use Rattle.justify.proofs.masks.gather.Goals.{then-colours-ne0, else-colours-ne0}

pub loop-place-preserved : goal.loop-place-preserved
loop-place-preserved c =
    let masks = c.args.masks.now in
    let s = c.loop-place in
    let C : List Premise → Type 0 = λ found. Gathered masks (s.place + 1) found c.if-colours-ne0.count in
    elim c.if-colours-ne0.branch [
      | then-colours-ne0 w ↦
          let room : s.count < length s.found = (let v = s.invariant.within in omega arith) in
          subst C (sym w.found-is) (rw w.count-is (gathered_take masks s.place s.found s.count (premise s.place (get_or masks s.place 0)) s.invariant room refl refl (omega arith)))
      | else-colours-ne0 w ↦
          subst C (sym w.found-is) (rw w.count-is (gathered_over masks s.place (s.place + 1) s.found s.count (omega arith)
          (λ i h l. let e : i ≡ s.place = omega arith in let P : ℕ → Type 0 = λ n. get_or masks n 0 ≡ 0 in subst P (sym e) (omega arith)) s.invariant))
    ]

pub returns-clause-gathers : goal.returns-clause-gathers
returns-clause-gathers c =
    let s = c.loop-place in
    let masks = c.args.masks.now in
    let small : (i : ℕ) → get_or masks i 0 < 2 ^ 16 = λ i. (let f = c.type_inv.masks i in omega arith) in
    gathered_all masks s.place s.found s.count c.loop-place-test.false (omega arith) small s.invariant
