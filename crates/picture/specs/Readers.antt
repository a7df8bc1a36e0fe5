-- What a reader answers, compared with what its definition reads from the whole text.
use Rattle.std.specs.Prelude.{◌≡◌, ◌⊎◌, ℕ, ◌==◌, List, [], Result, Ok, Err, Option, None, Some}
use Rattle.std.specs.Borrow.{Bor}
use Rattle.std.specs.List.{slice_split}

-- the next step of reading, where the one before met no error
infixl 10 ◌>>=◌
abbrev pub ◌>>=◌ : {A B E : Type 0} → Result A E → (A → Result B E) → Result B E
(Ok x) >>= next = next x
(Err e) >>= next = Err e

-- What a function answers, mapped by `view`, is what is read; or it answers the error for out of memory.
abbrev pub Gives : {X Y E : Type 0} → E → (X → Y) → Result X E → Result Y E → Type 0
Gives memory view (Ok x) read = read ≡ Ok (view x)
Gives memory view (Err e) read = (e ≡ memory) ⊎ (read ≡ Err e)

-- What a function that allocates nothing answers, mapped by `view`, is what is read.
abbrev pub Reads : {X Y E : Type 0} → (X → Y) → Result X E → Result Y E → Type 0
Reads view (Ok x) read = read ≡ Ok (view x)
Reads view (Err e) read = read ≡ Err e

-- A call is refused exactly where there is a first error, with that error. It runs out of memory only where there is
-- none.
abbrev pub Refuses : {X E : Type 0} → E → Result X E → Option E → Type 0
Refuses memory (Ok x) fault = fault ≡ None
Refuses memory (Err e) fault = (fault ≡ Some e) ⊎ ((fault ≡ None) × (e ≡ memory))

-- what follows a separator, cut at further separators; no pieces if there was no separator
abbrev pub pieces_behind : ℕ → Option (Bor (List ℕ)) → List (List ℕ)
pieces_behind separator None = []
pieces_behind separator (Some rest) = slice_split (λ b. b == separator) rest.now
