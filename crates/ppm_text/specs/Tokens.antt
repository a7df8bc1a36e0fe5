-- A P3 text taken apart: the magic, the comments, and the tokens with their places.
use Rattle.std.specs.Prelude.{ℕ, suc, Bool, true, false, not, ◌&&◌, ◌||◌, ◌==◌, nat_le, nat_eq, if◌then◌else◌, List, []}
use Rattle.std.specs.Prelude.{◌∷◌, length, drop, slice_index, codes, Option, Some, None, Result, Ok, Err}
use Rattle.std.specs.List.{starts_with, take_while}
use Rattle.ppm_text.specs.declared.fault.PpmFault.{PpmFault}
use Rattle.ppm_text.specs.declared.fault.PpmFault.TheVariants.{NotP3}

-- space, TAB, LF, VT, FF and CR
abbrev pub is_space : ℕ → Bool
is_space b = b == 32 || (nat_le 9 b && nat_le b 13)

-- LF and CR, one of which closes a comment
abbrev pub is_line_end : ℕ → Bool
is_line_end b = b == 10 || b == 13

-- white space, or the # that opens a comment: each ends a token
abbrev pub is_gap : ℕ → Bool
is_gap b = is_space b || b == 35

-- A byte is part of a comment when it is the # that opens one or comes after it, up to the next line end.
abbrev pub in_comment : Bool → ℕ → Bool
in_comment commented b = (commented || b == 35) && not (is_line_end b)

-- The bytes with a space for each byte of a comment, so that every other byte keeps its place.
-- `commented` says that a comment was opened before them.
abbrev pub without_comments : Bool → List ℕ → List ℕ
without_comments commented [] = []
without_comments commented (b ∷ rest) =
    (if in_comment commented b then 32 else b) ∷ without_comments (in_comment commented b) rest

-- a token, and the place of its first byte
pub record Token : Type 0 where
  pub place : ℕ
  pub bytes : List ℕ

-- the token that begins a text: its bytes up to the next white space
abbrev pub token_with : ℕ → List ℕ → Token
token_with place text = record { place = place; bytes = take_while (λ x. not (is_space x)) text }

-- A token begins at each byte that is not white space and does not follow a byte of a token, and
-- goes up to the next white space. `within` says that the byte before is part of a token.
abbrev pub tokens_from : Bool → ℕ → List ℕ → List Token
tokens_from within place [] = []
tokens_from within place (b ∷ rest) =
    if is_space b then tokens_from false (suc place) rest
    else (if within then tokens_from true (suc place) rest
    else (token_with place (b ∷ rest) ∷ tokens_from true (suc place) rest))

-- The text begins with P3, and then ends or goes on with white space or a comment.
abbrev pub has_magic : List ℕ → Bool
has_magic text = starts_with nat_eq text (codes "P3") && (length text == 2 || is_gap (slice_index text 2))

-- what of a text is still to be read: the tokens to come, and the place where the text ends
pub record Unread : Type 0 where
  pub end : ℕ
  pub tokens : List Token

-- the tokens of a text from a place on, where no token and no comment is open
abbrev pub tokens_at : List ℕ → ℕ → List Token
tokens_at text place = tokens_from false place (without_comments false (drop place text))

-- what is to be read after the magic
abbrev pub magic_of : List ℕ → Result Unread PpmFault
magic_of text = if has_magic text then Ok (record { end = length text; tokens = tokens_at text 2 }) else Err (NotP3 0)

-- where the next token begins, if there is one
abbrev pub next_place : List Token → Option ℕ
next_place [] = None
next_place (token ∷ rest) = Some token.place
