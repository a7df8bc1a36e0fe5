-- Blanks of a text.
use Rattle.std.specs.Prelude.{ℕ, Bool, not, ◌||◌, ◌==◌}

-- a space or a TAB
unfoldable pub is_blank : ℕ → Bool
is_blank b = (b == 32) || (b == 9)

abbrev pub is_no_blank : ℕ → Bool
is_no_blank b = not (is_blank b)
