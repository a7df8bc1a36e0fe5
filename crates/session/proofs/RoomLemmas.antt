-- How much room texts take.
use Rattle.std.proofs.Common.{◌≡◌, ℕ, ◌+◌, ◌^◌, ◌<◌, ◌≤◌, List, length, Option, append_assoc, refl, ap, arith, decimal}
use Rattle.std.proofs.lemmas.Fmt.{length-decimal-le}
use Rattle.edits.specs.Design.{Design}
use Rattle.live_audit.specs.declared.verdict.Verdict.{Verdict}
use Rattle.live_audit.specs.declared.verdict.Verdict.TheVariants.{Unique, Ambiguous, Undecided}
use Rattle.live_audit.specs.Verdict.{IsVerdictOn}
use Rattle.session.specs.Texts.{verdict_word}
use Rattle.report_text.specs.Room.{picture_room}
use Rattle.session.specs.Room.{verdict_room}

pub ten_digits : (n : ℕ) → n < 2 ^ 32 → length (decimal n) ≤ 10
ten_digits n small = length-decimal-le 10 n (omega arith) (omega arith) (omega arith)

pub ruleset numbers = (ten_digits, append_assoc)

-- a verdict on a document takes at most 21 bytes and the room of the document's picture
pub verdict_fits : (d : Design) (allowance : Option ℕ) (verdict : Verdict) → IsVerdictOn d allowance verdict → verdict_room verdict ≤ 21 + picture_room d.rows
verdict_fits d allowance Unique right = omega arith
verdict_fits d allowance (Ambiguous other) right =
    let s = right.solves in
    let same : picture_room other.now ≡ picture_room d.rows = rw (s.rows, s.columns 0) refl in
    omega (arith, same)
verdict_fits d allowance (Undecided splits) right = omega arith

-- the verdict's word is no longer than nine bytes
pub word_fits : (word : List ℕ) (verdict : Verdict) → word ≡ verdict_word verdict → length word ≤ 9
word_fits word Unique is = omega (arith, ap length is)
word_fits word (Ambiguous other) is = omega (arith, ap length is)
word_fits word (Undecided splits) is = omega (arith, ap length is)
