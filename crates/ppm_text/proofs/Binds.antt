-- Steps of reading one after the other, taken apart.
use Rattle.std.proofs.Common.{◌≡◌, Bool, true, false, cond, Result, Ok, Err, refl, ap}
use Rattle.picture.specs.Readers.{◌>>=◌}

-- the answer of a step that met no error
pub bind_ok : {A B E : Type 0} (r : Result A E) (next : A → Result B E) (y : B) → (r >>= next) ≡ Ok y → (x : A) × (r ≡ Ok x) × (next x ≡ Ok y)
bind_ok (Ok x) next y e = (x, refl, e)
bind_ok (Err d) next y e = absurd cc

-- a test that met no error
pub test_ok : {A E : Type 0} (b : Bool) (d : E) (x y : A) → cond b (Ok x) (Err d) ≡ Ok y → (b ≡ true) × (x ≡ y)
test_ok true d x y e = (refl, cc)
test_ok false d x y e = absurd cc

abbrev found : {A E : Type 0} → E → A → Result A E
found e x = Ok x

pub ok_is : {A E : Type 0} (e : E) (x y : A) → found e x ≡ found e y → x ≡ y
ok_is e x y h = cc

-- a step after one that met no error
pub bind_is : {A B E : Type 0} (r : Result A E) (x : A) (next : A → Result B E) → r ≡ Ok x → (r >>= next) ≡ next x
bind_is r x next h = ap (λ (s : Result _ _). s >>= next) h
