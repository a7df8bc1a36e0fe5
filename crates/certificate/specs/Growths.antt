-- How far trees are grown, and what they decide.
use Rattle.std.specs.Prelude.{◌≡◌, ℕ, ◌+◌, ◌*◌, ◌≤◌, List}
use Rattle.line_facts.specs.Masks.{Masks}
use Rattle.picture.specs.CellSet.{HasCell}
use Rattle.picture.specs.Rows.{Rows}
use Rattle.clues.specs.ClueBook.{clues_of}
use Rattle.clues.specs.Solution.{IsOther}
use Rattle.certificate.specs.MadeCert.{IsMade}
use Rattle.certificate.specs.declared.proving.Reach.TheVariants.{Bounded}
use Rattle.certificate.specs.declared.trees.Growth.{Growth}
use Rattle.lemma_proof.specs.declared.making.Made.{Made}
use Rattle.lemma_proof.specs.declared.making.Made.TheVariants.{Proof, Other, Undecided}
use Rattle.second_search.specs.Evaluations.{BothReach, most_in_tree}

-- within a bound, the evaluations of two trees
abbrev pub AreFewFor : Growth → Masks → ℕ → ℕ → Type 0
AreFewFor growth facts before after = growth.reach ≡ Bounded → after ≤ before + 2 * most_in_tree facts growth.bound

-- a certificate in the form of a tree, or another picture; neither only if both trees have reached their bound
abbrev pub DecidesByTrees : Rows → List ℕ → Growth → ℕ → ℕ → Made → Type 0
DecidesByTrees picture givens growth before after (Proof cert) = IsMade picture givens cert
DecidesByTrees picture givens growth before after (Other other) =
    IsOther (clues_of picture) (HasCell givens) picture other
DecidesByTrees picture givens growth before after Undecided =
    (growth.reach ≡ Bounded) × BothReach growth.bound before after
