use Rattle.std.proofs.Common.{◌+◌, ◌<◌, ℕ, arith, refl, get_or, length}
use Rattle.justify.proofs.GatherLemmas.{gathered_over, gathered_take, none_coloured, premise}
use Rattle.justify.proofs.masks.gather_eight.Goals as goal

pub cells-preserved : goal.cells-preserved
cells-preserved c =
    let masks = c.args.masks.now in
    let s = c.cells in
    let at : ℕ = s.place + c.empty_before-empty.result in
    let told = c.empty_before-empty.ensures in
    let over = gathered_over masks s.place at s.found s.count (omega arith) told.none s.invariant.gathered in
    let room : s.count < length s.found = (let w = s.invariant.within in let i = told.inside in omega arith) in
    record {
      within = (let w = s.invariant.within in omega arith);
      inside = (let i = told.inside in omega arith);
      gathered = gathered_take masks at s.found s.count (premise at (get_or masks at 0)) over room refl refl told.here;
      rest = told.behind;
    }

pub returns : goal.returns
returns c = grind (arith, gathered_over, none_coloured)
