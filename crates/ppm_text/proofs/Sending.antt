-- What is appended when the sizes are written one by one.
use Rattle.std.proofs.Common.{◌≡◌, ℕ, List, ◌++◌, Option, subst, Result, Ok, Err, OnErr, OnOk, codes}
use Rattle.picture.specs.Writers.{AppendsFront, number_text}
use Rattle.picture.proofs.SendingLaws.{both_sent, first_front, last_front, middle_front}
use Rattle.ppm_text.specs.Text.{sizes_text}
use Rattle.std.specs.Io.KnownBytes.{Appends}

-- the sizes, in three writes
pub sizes_sent : (a b c d : Option (List ℕ)) (width height maxval : ℕ) → Appends a b (number_text width 32) → Appends b c (number_text height 10) → Appends c d (number_text maxval 10)
    → Appends a d (sizes_text width height maxval)
sizes_sent a b c d width height maxval first second third =
    both_sent a b d (number_text width 32) (number_text height 10 ++ number_text maxval 10) first (both_sent b c d (number_text height 10) (number_text maxval 10) second third)

pub width_cut : (a b : Option (List ℕ)) (width height maxval : ℕ) → AppendsFront a b (number_text width 32) → AppendsFront a b (sizes_text width height maxval)
width_cut a b width height maxval h = first_front a b (number_text width 32) (number_text height 10 ++ number_text maxval 10) h

pub height_cut : {T E : Type 0} (r : Result T E) (a b c : Option (List ℕ)) (w h width height maxval : ℕ) → w ≡ width → h ≡ height → Appends a b (number_text w 32) → AppendsFront b c (number_text h 10)
    → OnErr r (AppendsFront a c (sizes_text width height maxval))
height_cut (Ok x) a b c w h width height maxval e f first now = tt
height_cut (Err fault) a b c w h width height maxval e f first now =
    let P : ℕ → Type 0 = λ n. Appends a b (number_text n 32) in
    let Q : ℕ → Type 0 = λ n. AppendsFront b c (number_text n 10) in
    middle_front a b c (number_text width 32) (number_text height 10) (number_text maxval 10) (subst P e first) (subst Q f now)

pub maxval_cut : {T E : Type 0} (r : Result T E) (a b c d : Option (List ℕ)) (width height maxval : ℕ) → Appends a b (number_text width 32) → Appends b c (number_text height 10)
    → OnErr r (AppendsFront c d (number_text maxval 10)) → OnErr r (AppendsFront a d (sizes_text width height maxval))
maxval_cut r a b c d width height maxval first second h =
    last_front r a b d (number_text width 32) (number_text height 10 ++ number_text maxval 10) first (last_front r b c d (number_text height 10) (number_text maxval 10) second h)

pub sizes_sent_ok : {T E : Type 0} (r : Result T E) (a b c d : Option (List ℕ)) (width height maxval : ℕ) → Appends a b (number_text width 32) → Appends b c (number_text height 10)
    → OnOk r (Appends c d (number_text maxval 10)) → OnOk r (Appends a d (sizes_text width height maxval))
sizes_sent_ok (Ok x) a b c d width height maxval first second third = sizes_sent a b c d width height maxval first second third
sizes_sent_ok (Err e) a b c d width height maxval first second third = tt

pub ruleset sizes = (sizes_sent_ok, width_cut, maxval_cut)

-- the magic, the sizes and the rows
pub magic_cut : (a b : Option (List ℕ)) (x : List ℕ) → AppendsFront a b (codes "P3\n") → AppendsFront a b (codes "P3\n" ++ x)
magic_cut a b x h = first_front a b (codes "P3\n") x h

pub rows_cut : {T E : Type 0} (r : Result T E) (a b c d : Option (List ℕ)) (x y : List ℕ) → Appends a b (codes "P3\n") → Appends b c x → OnErr r (AppendsFront c d y)
    → OnErr r (AppendsFront a d (codes "P3\n" ++ (x ++ y)))
rows_cut r a b c d x y first second h = last_front r a b d (codes "P3\n") (x ++ y) first (last_front r b c d x y second h)

pub ruleset whole = (both_sent, magic_cut, rows_cut)
