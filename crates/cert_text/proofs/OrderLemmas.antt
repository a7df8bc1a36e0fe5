-- Cells that are checked one by one are in order so far; and runs found one by one.
use Rattle.std.proofs.Common.{◌≡◌, ℕ, ◌+◌, ◌<◌, ◌≤◌, ◌↔◌, List, [], ◌∷◌, ◌++◌, length, get_or, take, drop, drop-cons, add-one, append_assoc, refl, sym, subst, arith, zero, suc}
use Rattle.std.proofs.lemmas.List.{drop_all}
use Rattle.std.specs.List.{AllByRecursion}
use Rattle.std.proofs.lemmas.List.{append-nil, length-take-le, take_more}
use Rattle.picture.proofs.ColourLaws.{every_append}
use Rattle.cert_text.specs.declared.cert_line.CertLine.{CertLine}
use Rattle.cert_text.specs.Cert.{AreLongest, AreOrdered, AreRuns, IsLongest, IsRun, ShareWord, rank}
use Rattle.cert_text.specs.declared.cert_line.CellNumber.{CellNumber}

-- all cells are in order exactly if those that are left are, from a rank on
pub record OrderedSoFar (cells : List CellNumber) (i least : ℕ) : Type 0 where
  pub whole : AreOrdered 0 cells ↔ AreOrdered least (drop i cells)

pub order_start : (cells : List CellNumber) → OrderedSoFar cells 0 0
order_start cells = record { whole = (λ o. o, λ o. o) }

module _ (cells : List CellNumber) (i least : ℕ) (cell : CellNumber) (l : i < length cells) (e : cell ≡ get_or cells i cell) (so_far : OrderedSoFar cells i least) where
  here : drop i cells ≡ cell ∷ drop (i + 1) cells
  here = rw (add-one, e) (drop-cons cells i cell l)

  pub order_next : cell.row < 1000 → cell.col < 1000 → least ≤ rank cell → OrderedSoFar cells (i + 1) (rank cell + 1)
  order_next r c up = record {
    whole = (
      λ o. (subst (λ (rest : List CellNumber). AreOrdered least rest) here (so_far.whole.0 o)).3,
      λ o. so_far.whole.1 (subst (λ (rest : List CellNumber). AreOrdered least rest) (sym here) (r, c, omega (arith, up), o)),
    );
  }

  pub order_stop : (cell.row < 1000 → cell.col < 1000 → least ≤ rank cell → ⊥) → AreOrdered 0 cells → ⊥
  order_stop apart o =
      let now = subst (λ (rest : List CellNumber). AreOrdered least rest) here (so_far.whole.0 o) in
      apart now.0 now.1 (omega (arith, now.2))

pub order_end : (cells : List CellNumber) (i least : ℕ) → length cells ≤ i → OrderedSoFar cells i least → AreOrdered 0 cells
order_end cells i least all so_far = so_far.whole.1 (subst (λ (rest : List CellNumber). AreOrdered least rest) (sym (drop_all i cells all)) tt)

-- ---- runs

-- a single step is a run
pub one_is_run : (steps : List CertLine) → 0 < length steps → IsRun (take 1 steps)
one_is_run [] some = absurd (omega (arith, some))
one_is_run (step ∷ steps) some = (omega arith, tt)

-- one more step that shares the word of the first
pub run_more : (steps : List CertLine) (count : ℕ) (d : CertLine) → 0 < count → count < length steps → count < 1000 → ShareWord (get_or steps 0 d) (get_or steps count d)
    → IsRun (take count steps) → IsRun (take (count + 1) steps)
run_more [] count d some l few s r = absurd (omega (arith, l))
run_more (step ∷ steps) zero d some l few s r = absurd (omega (arith, some))
run_more (step ∷ steps) (suc k) d some l few s r =
    let short : k < length steps = omega (arith, l) in
    let all : AllByRecursion (ShareWord step) (take (k + 1) steps) =
    rw (take_more steps k d short) (every_append (ShareWord step) (take k steps) (get_or steps k d ∷ []) r.1 (s, tt)) in
    let next : suc (k + 1) ≡ suc k + 1 = omega arith in
    subst (λ (n : ℕ). IsRun (take n (step ∷ steps))) next (omega (arith, few, length-take-le (k + 1) steps (omega (arith, short))), all)

last_of_all : (P : CertLine → Type 0) (steps : List CertLine) (last : CertLine) → AllByRecursion P (steps ++ last ∷ []) → P last
last_of_all P [] last all = all.0
last_of_all P (step ∷ steps) last all = last_of_all P steps last all.1

module _ (step : CertLine) (steps : List CertLine) (k : ℕ) (l : k < length steps) where
  all_next : IsRun (take (suc k + 1) (step ∷ steps)) → IsRun (take (suc (k + 1)) (step ∷ steps))
  all_next r = let next : suc k + 1 ≡ suc (k + 1) = omega arith in subst (λ (n : ℕ). IsRun (take n (step ∷ steps))) next r

  next_fits : IsRun (take (suc k + 1) (step ∷ steps)) → suc k < 1000
  next_fits r = omega (arith, (all_next r).0, length-take-le (k + 1) steps (omega (arith, l)))

  next_shares : (d : CertLine) → IsRun (take (suc k + 1) (step ∷ steps)) → ShareWord step (get_or steps k d)
  next_shares d r = last_of_all (ShareWord step) (take k steps) (get_or steps k d)
      (subst (λ (ss : List CertLine). AllByRecursion (ShareWord step) ss) (take_more steps k d l) (all_next r).1)

-- a run that has one step more has room for it
pub run_fits : (steps : List CertLine) (count : ℕ) → 0 < count → count < length steps → IsRun (take (count + 1) steps) → count < 1000
run_fits [] count some l r = absurd (omega (arith, l))
run_fits (step ∷ steps) zero some l r = absurd (omega (arith, some))
run_fits (step ∷ steps) (suc k) some l r = next_fits step steps k (omega (arith, l)) r

-- and that step shares the word of the first
pub run_shares : (steps : List CertLine) (count : ℕ) (d : CertLine) → 0 < count → count < length steps → IsRun (take (count + 1) steps)
    → ShareWord (get_or steps 0 d) (get_or steps count d)
run_shares [] count d some l r = absurd (omega (arith, l))
run_shares (step ∷ steps) zero d some l r = absurd (omega (arith, some))
run_shares (step ∷ steps) (suc k) d some l r = next_shares step steps k (omega (arith, l)) d r

-- the runs so far, and one more
pub runs_more : (runs : List ℕ) (run : ℕ) (rest steps : List CertLine) → run ≤ length rest → IsRun (take run rest) → ((more : List ℕ) → AreRuns more rest → AreRuns (runs ++ more) steps)
    → (more : List ℕ) → AreRuns more (drop run rest) → AreRuns ((runs ++ run ∷ []) ++ more) steps
runs_more runs run rest steps l r so_far more m = rw append_assoc (so_far (run ∷ more) (l, r, m))

-- all runs
pub runs_end : (runs : List ℕ) (rest steps : List CertLine) → length rest ≡ 0 → ((more : List ℕ) → AreRuns more rest → AreRuns (runs ++ more) steps) → AreRuns runs steps
runs_end runs [] steps e so_far = subst (λ (ns : List ℕ). AreRuns ns steps) (append-nil runs) (so_far [] refl)
runs_end runs (step ∷ rest) steps e so_far = absurd (omega (arith, e))

-- runs that are as long as they can be, so far
pub longest_more : (runs : List ℕ) (run : ℕ) (rest steps : List CertLine) → IsLongest run rest → ((more : List ℕ) → AreLongest more rest → AreLongest (runs ++ more) steps)
    → (more : List ℕ) → AreLongest more (drop run rest) → AreLongest ((runs ++ run ∷ []) ++ more) steps
longest_more runs run rest steps l so_far more m = rw append_assoc (so_far (run ∷ more) (l, m))

pub longest_end : (runs : List ℕ) (rest steps : List CertLine) → ((more : List ℕ) → AreLongest more rest → AreLongest (runs ++ more) steps) → AreLongest runs steps
longest_end runs rest steps so_far = subst (λ (ns : List ℕ). AreLongest ns steps) (append-nil runs) (so_far [] tt)
