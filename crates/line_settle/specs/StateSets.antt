-- Sets of the states of a pattern: state q is bit q of a number.
use Rattle.std.specs.Prelude.{◌≡◌, ℕ, ◌+◌, ◌^◌, ◌<◌, ◌≤◌, ◌↔◌, List, Bool, true, length, slice_index, map}
use Rattle.line_settle.specs.declared.state_sets.Moves.{Moves}
use Rattle.line_settle.specs.declared.state_sets.PatternSets.{PatternSets}
use Rattle.line_settle.specs.Patterns.{allows, waits}
use Rattle.line_facts.specs.BitSets.{has}

-- a set has the states of a pattern for which a test holds
pub record AreStates (pattern : List ℕ) (test : ℕ → Bool) (set : ℕ) : Type 0 where
  pub each : (q : ℕ) → (has set q ≡ true) ↔ ((q < length pattern) × (test q ≡ true))

-- two sets have a state in common
abbrev pub Shares : ℕ → ℕ → Type 0
Shares a b = (q : ℕ) × (has a q ≡ true) × (has b q ≡ true)

-- the sets of `Moves` as numbers; `bits` gives the number of a word
pub record MoveSets : Type 0 where
  pub advancing : ℕ
  pub resting : ℕ

abbrev pub moves_of : {W : Type 0} → (W → ℕ) → Moves W → MoveSets
moves_of bits moves = record { advancing = bits moves.advancing; resting = bits moves.resting }

-- From which states a cell with one of the mask's colours can lead a line to the next state, and in which it can keep
-- the line. All states are below the width.
pub record MovesBy (width : ℕ) (pattern : List ℕ) (mask : ℕ) (moves : MoveSets) : Type 0 where
  pub short : length pattern ≤ width
  pub advancing : (q : ℕ)
      → (has moves.advancing q ≡ true) ↔ ((q + 1 < length pattern) × (allows mask (slice_index pattern (q + 1)) ≡ true))
  pub resting : (q : ℕ)
      → (has moves.resting q ≡ true) ↔ ((q < length pattern) × (waits pattern q ≡ true) × (allows mask 0 ≡ true))

-- by colour, the states below n after which the pattern goes on with it
abbrev pub AreNext : List ℕ → ℕ → List ℕ → Type 0
AreNext pattern n next = (k q : ℕ) → (has (slice_index next k) q ≡ true) ↔ ((q < n) × (slice_index pattern (q + 1) ≡ k))

-- the states below n in which background can be read without leaving them
abbrev pub AreWaiting : List ℕ → ℕ → ℕ → Type 0
AreWaiting pattern n waiting = (q : ℕ) → (has waiting q ≡ true) ↔ ((q < n) × (waits pattern q ≡ true))

-- a mask has background and the colours with which the pattern goes on after the states below n
pub record HasColours (pattern : List ℕ) (n colours : ℕ) : Type 0 where
  pub background : allows colours 0 ≡ true
  pub each : (q : ℕ) → q < n → allows colours (slice_index pattern (q + 1)) ≡ true

-- a mask has none of these colours
abbrev pub IsForeign : ℕ → ℕ → Type 0
IsForeign colours mask = (k : ℕ) → allows mask k ≡ true → allows colours k ≡ true → ⊥

-- the sets of `PatternSets` as numbers; `bits` gives the number of a word
pub record StateSets : Type 0 where
  pub next : List ℕ
  pub waiting : ℕ
  pub colours : ℕ
  pub inner : ℕ
  pub last : ℕ

abbrev pub sets_of : {W : Type 0} → (W → ℕ) → PatternSets W → StateSets
sets_of bits sets = record {
  next = map bits sets.next.now;
  waiting = bits sets.waiting;
  colours = sets.colours;
  inner = bits sets.inner;
  last = bits sets.last;
}

-- the sets say what can be read in each state of the pattern; all states are below the width
pub record ArePatternSets (width : ℕ) (pattern : List ℕ) (sets : StateSets) : Type 0 where
  pub end : ℕ
  pub is_end : end + 1 ≡ length pattern
  pub short : length pattern ≤ width
  pub next : AreNext pattern end sets.next
  pub waiting : AreWaiting pattern (length pattern) sets.waiting
  pub colours : HasColours pattern end sets.colours
  pub inner : (q : ℕ) → (has sets.inner q ≡ true) ↔ (q < end)
  pub last : sets.last ≡ 2 ^ end

-- how a cell with one of the mask's colours moves a line along each pattern with these sets
abbrev pub AreMovesOf : ℕ → StateSets → ℕ → MoveSets → Type 0
AreMovesOf width sets mask moves = (pattern : List ℕ) → ArePatternSets width pattern sets
    → MovesBy width pattern mask moves
