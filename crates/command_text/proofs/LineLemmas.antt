-- The lines of bytes, cut piece by piece.
use Rattle.std.proofs.Common.{◌≡◌, ℕ, zero, suc, ◌+◌, ◌-◌, ◌<◌, ◌≤◌, Bool, true, false, cond, List, [], ◌∷◌, ◌++◌, length, get_or, length-take-le, min, take, drop, slice_index, ◌==◌, nat_lt, Option}
use Rattle.std.proofs.Common.{filter, map, Some, None, is_some, unwrap_or, refl, sym, ap, ◌∙◌, append_assoc, append-nil, arith}
use Rattle.std.specs.Int.{from_bool}
use Rattle.std.specs.List.{slice_split, position}
use Rattle.std.specs.Str.Lines.{strip_carriage_return}
use Rattle.std.proofs.lemmas.Bool.{eqb-true, false_from_ne_true, lt-ltb, ltb-true, ltb-false, true≢false}
use Rattle.std.proofs.lemmas.List.{drop_all, drop-take, length-append, length-take, take_all, take_min}
use Rattle.std.proofs.lemmas.Slice.{take-put_mid}
use borrow.Rule.Slice.PartMut.{put_mid}
use Rattle.std.proofs.Math.Seq.{take-append-add, drop-drop}
use Rattle.std.proofs.lemmas.List.Elements.{All-append}
use Rattle.std.proofs.lemmas.List.Quantifiers.{position-Some}
use Rattle.std.proofs.lemmas.List.Splits.{length-slice_split, slice_split_at, slice_split_none}
use Rattle.picture.proofs.SplitLaws.{none_before, none_passes, whole_found}
use Rattle.std.specs.Io.KnownBytes.{Keeps}
use Rattle.std.proofs.KnownBytes.{Consumes-kept, Consumes-trans}
use Rattle.command_text.specs.declared.lines.Lines.{Lines}
use Rattle.command_text.specs.Lines.{BreaksOff, CutsOne, Drafts, NoFeed, TakesPiece, Waits, ended_lines_of, is_feed, lines_of, nothing_has_no_lines, request_of}
use Rattle.command_text.specs.Lines.{request_of_words, steps_left}
use Rattle.command_text.specs.declared.fault.CommandFault.TheVariants.{LongLine}
use Rattle.command_text.specs.declared.request.Request.TheVariants.{Refused}
use Rattle.command_text.specs.Words.{Texts, has_byte, words_of}

-- ---- the place of a line feed

pub feed_found : (bytes : List ℕ) (end : ℕ) → position is_feed bytes ≡ Some end → NoFeed (take end bytes) × (bytes ≡ take end bytes ++ 10 ∷ drop (end + 1) bytes)
feed_found bytes end e = (
  none_before is_feed bytes end e,
  whole_found is_feed bytes end e ∙ ap (λ (b : ℕ). take end bytes ++ b ∷ drop (end + 1) bytes) (eqb-true (get_or bytes end 0) 10 (position-Some is_feed bytes end 0 e).1),
)

-- ---- lines

-- the lines of pieces: of all but the last piece; and with the last one, where it has a byte
abbrev ended_pieces : Texts → Texts
ended_pieces pieces = map strip_carriage_return (take (length pieces - 1) pieces)

abbrev all_pieces : Texts → Texts
all_pieces pieces = ended_pieces pieces ++ map strip_carriage_return (filter has_byte (drop (length pieces - 1) pieces))

one_fewer : (piece : List ℕ) (pieces : Texts) → 0 < length pieces → length (piece ∷ pieces) - 1 ≡ suc (length pieces - 1)
one_fewer piece pieces some = omega (arith, some)

two_pieces : (piece : List ℕ) (pieces : Texts) → 0 < length pieces → all_pieces (piece ∷ pieces) ≡ strip_carriage_return piece ∷ all_pieces pieces
two_pieces piece pieces some =
    ap (λ n. map strip_carriage_return (take n (piece ∷ pieces)) ++ map strip_carriage_return (filter has_byte (drop n (piece ∷ pieces)))) (one_fewer piece pieces some)

two_ended : (piece : List ℕ) (pieces : Texts) → 0 < length pieces → ended_pieces (piece ∷ pieces) ≡ strip_carriage_return piece ∷ ended_pieces pieces
two_ended piece pieces some = ap (λ n. map strip_carriage_return (take n (piece ∷ pieces))) (one_fewer piece pieces some)

some_piece : (bytes : List ℕ) → 0 < length (slice_split is_feed bytes)
some_piece bytes = omega (arith, length-slice_split is_feed bytes)

-- a line that ends, and the lines after it
pub lines_first : (raw rest : List ℕ) → NoFeed raw → lines_of (raw ++ 10 ∷ rest) ≡ strip_carriage_return raw ∷ lines_of rest
unfolding lines_of ended_lines_of
lines_first raw rest p = ap all_pieces (slice_split_at is_feed raw 10 rest p refl) ∙ two_pieces raw (slice_split is_feed rest) (some_piece rest)

pub ended_first : (raw rest : List ℕ) → NoFeed raw → ended_lines_of (raw ++ 10 ∷ rest) ≡ strip_carriage_return raw ∷ ended_lines_of rest
unfolding ended_lines_of
ended_first raw rest p = ap ended_pieces (slice_split_at is_feed raw 10 rest p refl) ∙ two_ended raw (slice_split is_feed rest) (some_piece rest)

-- a line that does not end
pub ended_none : (raw : List ℕ) → NoFeed raw → ended_lines_of raw ≡ []
unfolding ended_lines_of
ended_none raw p = ap ended_pieces (slice_split_none is_feed raw p)

pub lines_last : (raw : List ℕ) → NoFeed raw → 0 < length raw → lines_of raw ≡ strip_carriage_return raw ∷ []
unfolding lines_of ended_lines_of
lines_last raw p some = ap all_pieces (slice_split_none is_feed raw p) ∙ last raw some
  where
    last : (raw : List ℕ) → 0 < length raw → all_pieces (raw ∷ []) ≡ strip_carriage_return raw ∷ []
    last [] some = absurd (omega (arith, some))
    last (b ∷ raw) some = refl

-- ---- the front that is kept of a line

-- the first n bytes stay the same if a front is cut to n bytes before more come
pub take_front : (n : ℕ) (front piece : List ℕ) → take n (take n front ++ piece) ≡ take n (front ++ piece)
take_front zero front piece = refl
take_front (suc n) [] piece = refl
take_front (suc n) (b ∷ front) piece = ap (λ (xs : List ℕ). b ∷ xs) (take_front n front piece)

-- a line of more than 200 bytes
pub long_line : (line : List ℕ) → 200 < length line → request_of line ≡ Refused LongLine
unfolding request_of
long_line line long = ap (λ t. cond t (Refused LongLine) (request_of_words (words_of line))) (lt-ltb 200 (length line) long)

stripped_by : (line : List ℕ) (t : Bool) → 201 < length line → 200 < length (cond t (take (length line - 1) line) line)
stripped_by line true long = omega (arith, length-take-le (length line - 1) line (omega arith), long)
stripped_by line false long = omega (arith, long)

stripped_long : (line : List ℕ) → 201 < length line → 200 < length (strip_carriage_return line)
stripped_long line long = stripped_by line (slice_index line (length line - 1) == 13) long

front_by : (raw : List ℕ) (t : Bool) → nat_lt 202 (length raw) ≡ t → request_of (strip_carriage_return (take 202 raw)) ≡ request_of (strip_carriage_return raw)
front_by raw true is =
    let long : 202 < length raw = ltb-true _ _ is in
    let fits : length (take 202 raw) ≡ 202 = length-take-le 202 raw (omega (arith, long)) in
    long_line (strip_carriage_return (take 202 raw)) (stripped_long (take 202 raw) (omega (arith, fits)))
    ∙ sym (long_line (strip_carriage_return raw) (stripped_long raw (omega (arith, long))))
front_by raw false is = ap (λ (line : List ℕ). request_of (strip_carriage_return line)) (take_all 202 raw (ltb-false _ _ is))

-- a line's first 202 bytes say what it asks for
pub front_decides : (raw : List ℕ) → request_of (strip_carriage_return (take 202 raw)) ≡ request_of (strip_carriage_return raw)
front_decides raw = front_by raw (nat_lt 202 (length raw)) refl

-- ---- pieces that are added to a line

min_swap : (a b : ℕ) → min a b ≡ min b a
min_swap a b = omega arith

front_of : (piece : List ℕ) (n count : ℕ) → count ≡ min (length piece) n → take count piece ≡ take n piece
front_of piece n count is = ap (λ k. take k piece) (is ∙ min_swap (length piece) n) ∙ take_min n piece

-- more bytes are added, as far as there is room
pub kept_more : (bytes had piece : List ℕ) (len count : ℕ) → take len bytes ≡ had → len ≤ 202 → length bytes ≡ 202 → count ≡ min (length piece) (202 - len)
    → take (len + count) (put_mid len (len + count - len) bytes (take count piece)) ≡ take 202 (had ++ piece)
kept_more bytes had piece len count view fits room is =
    let had_len : length had ≡ len = sym (ap length view) ∙ length-take-le len bytes (omega (arith, fits, room)) in
    let count_len : length (take count piece) ≡ count = length-take-le count piece (omega (arith, is)) in
    let all : 202 ≡ length had + (202 - len) = omega (arith, had_len, fits) in
    take-put_mid len (len + count - len) bytes (take count piece) (len + count) (omega (arith, count_len)) (omega (arith, fits, room))
    ∙ ap (λ (front : List ℕ). front ++ take count piece) view
    ∙ ap (λ (rest : List ℕ). had ++ rest) (front_of piece (202 - len) count is)
    ∙ sym (ap (λ n. take n (had ++ piece)) all ∙ take-append-add had piece (202 - len))

-- bytes that are dropped
pub skipped : (room now : List ℕ) (start end count : ℕ) → take (end - start) (drop start room) ≡ now → count ≤ length now → take (end - (start + count)) (drop (start + count) room) ≡ drop count now
skipped room now start end count view fits =
    let len : length now ≤ end - start = let e = ap length view in let m = length-take (end - start) (drop start room) in omega (arith, e, m) in
    let split : end - start ≡ count + (end - (start + count)) = omega (arith, fits, len) in
    sym (ap (drop count) (sym view ∙ ap (λ n. take n (drop start room)) split) ∙ drop-take count (end - (start + count)) (drop start room)
    ∙ ap (take (end - (start + count))) (drop-drop count start room))

-- up to a line feed, or all of it
pub piece_taken : (old new : Lines) (had kept : List ℕ) (feed : Option ℕ) → position is_feed old.inbox ≡ feed → kept ≡ take 202 (had ++ take (unwrap_or feed (length old.inbox)) old.inbox)
    → new.inbox ≡ drop (unwrap_or feed (length old.inbox) + from_bool (is_some feed)) old.inbox → TakesPiece old new had kept (is_some feed)
piece_taken old new had kept (Some end) at is rest =
    let found = feed_found old.inbox end at in
    (take end old.inbox, (found.1 ∙ ap (λ (xs : List ℕ). take end old.inbox ++ 10 ∷ xs) (sym rest), (found.0, is)))
piece_taken old new had kept None at is rest = (
  rest ∙ drop_all (length old.inbox + 0) old.inbox (omega arith),
  (none_passes is_feed old.inbox at, is ∙ ap (λ (xs : List ℕ). take 202 (had ++ xs)) (take_all (length old.inbox) old.inbox (omega arith))),
)

-- ---- a call

-- bytes came, and wait
pub drafts_wait : (had mid have : Option (List ℕ)) (old now new : Lines) (draft : List ℕ) (more : Bool) → Drafts had mid old now draft → Waits mid have now new more → Drafts had have old new draft
drafts_wait had mid have old now new draft more d w = record {
  came = d.came ++ w.came;
  read = Consumes-trans had mid have d.came w.came d.read w.read;
  raw = d.raw;
  cut = sym (append_assoc old.inbox d.came w.came) ∙ ap (λ (xs : List ℕ). xs ++ w.came) d.cut ∙ append_assoc d.raw now.inbox w.came ∙ ap (λ (xs : List ℕ). d.raw ++ xs) (sym w.waiting);
  no_feed = d.no_feed;
  kept = d.kept;
  end = λ h. w.end (d.end h);
  behind = λ met. let before = d.behind met in let after = w.behind before.1 in (ap (λ (xs : List ℕ). xs ++ w.came) before.0 ∙ after.0, after.1);
  steps = omega (arith, w.steps, d.steps);
}

-- a line grows by no more bytes than waited
piece_steps : (old now new : Lines) (draft more : List ℕ) → steps_left now + length draft ≤ steps_left old → TakesPiece now new draft more false → new.reads ≡ now.reads
    → steps_left new + length more ≤ steps_left old
piece_steps old now new draft more before t r =
    let len : length more ≤ length draft + length now.inbox =
    let whole = ap length t.1.1 in let cut = length-take 202 (draft ++ now.inbox) in let all = length-append draft now.inbox in omega (arith, whole, cut, all) in
    let none : length new.inbox ≡ 0 = ap length t.0 in
    let same : 1048576 - new.reads ≡ 1048576 - now.reads = ap (λ n. 1048576 - n) r in
    omega (arith, before, len, none, same)

-- all that waited is added to the line
pub drafts_piece : (had have : Option (List ℕ)) (old now new : Lines) (draft more : List ℕ) → Drafts had have old now draft → TakesPiece now new draft more false → new.ended ≡ now.ended
    → new.reads ≡ now.reads → Drafts had have old new more
drafts_piece had have old now new draft more d t e r = record {
  came = d.came;
  read = d.read;
  raw = d.raw ++ now.inbox;
  cut = d.cut ∙ sym (ap (λ (xs : List ℕ). (d.raw ++ now.inbox) ++ xs) t.0 ∙ append-nil (d.raw ++ now.inbox));
  no_feed = All-append (λ b. is_feed b ≡ false) d.raw now.inbox d.no_feed t.1.0;
  kept = t.1.1 ∙ ap (λ (xs : List ℕ). take 202 (xs ++ now.inbox)) d.kept ∙ take_front 202 d.raw now.inbox;
  end = λ h m. d.end h (sym e ∙ m);
  behind = λ met. ((d.behind met).0, e ∙ (d.behind met).1);
  steps = piece_steps old now new draft more d.steps t r;
}

-- the line ends at a line feed
pub cuts_line : (had have : Option (List ℕ)) (old now new : Lines) (draft more : List ℕ) → Drafts had have old now draft → TakesPiece now new draft more true → new.ended ≡ now.ended
    → CutsOne had have old new (request_of (strip_carriage_return more))
cuts_line had have old now new draft more d t e =
    let piece = t.0 in
    let raw = d.raw ++ piece in
    let none = All-append (λ b. is_feed b ≡ false) d.raw piece d.no_feed t.1.1.0 in
    let whole : more ≡ take 202 raw = t.1.1.1 ∙ ap (λ (xs : List ℕ). take 202 (xs ++ piece)) d.kept ∙ take_front 202 d.raw piece in
    let cut : old.inbox ++ d.came ≡ raw ++ 10 ∷ new.inbox = d.cut ∙ ap (λ (xs : List ℕ). d.raw ++ xs) t.1.0 ∙ sym (append_assoc d.raw piece (10 ∷ new.inbox)) in
    let all : (rest : List ℕ) → old.inbox ++ (d.came ++ rest) ≡ raw ++ 10 ∷ (new.inbox ++ rest) =
    λ rest. sym (append_assoc old.inbox d.came rest) ∙ ap (λ (xs : List ℕ). xs ++ rest) cut ∙ append_assoc raw (10 ∷ new.inbox) rest in
    record {
      line = strip_carriage_return raw;
      cuts = record {
        came = d.came;
        read = d.read;
        lines = λ rest may. ap lines_of (all rest) ∙ lines_first raw (new.inbox ++ rest) none;
        ended = λ on rest. ap ended_lines_of (all rest) ∙ ended_first raw (new.inbox ++ rest) none;
        end = λ h m. d.end h (sym e ∙ m);
        behind = λ met. ((d.behind met).0, e ∙ (d.behind met).1);
      };
      asks = ap (λ (xs : List ℕ). request_of (strip_carriage_return xs)) whole ∙ front_decides raw;
    }

-- all bytes of the input, where nothing is left
at_end : (had have : Option (List ℕ)) (old now : Lines) (draft : List ℕ) → (d : Drafts had have old now draft) → now.inbox ≡ [] → (rest : List ℕ) → rest ≡ [] → old.inbox ++ (d.came ++ rest) ≡ d.raw
at_end had have old now draft d none rest end =
    sym (append_assoc old.inbox d.came rest) ∙ ap (λ (xs : List ℕ). (old.inbox ++ d.came) ++ xs) end ∙ append-nil (old.inbox ++ d.came) ∙ d.cut ∙ ap (λ (xs : List ℕ). d.raw ++ xs) none
    ∙ append-nil d.raw

-- a line has a byte where one is kept
some_kept : (draft raw : List ℕ) → draft ≡ take 202 raw → 0 < length draft → 0 < length raw
some_kept draft [] e some = absurd (omega (arith, ap length e, some))
some_kept draft (b ∷ raw) e some = omega arith

-- the last line ends with the input
pub cuts_last : (had have : Option (List ℕ)) (old now : Lines) (draft : List ℕ) → Drafts had have old now draft → now.inbox ≡ [] → now.ended ≡ true → 0 < length draft
    → CutsOne had have old now (request_of (strip_carriage_return draft))
cuts_last had have old now draft d none met some = record {
  line = strip_carriage_return d.raw;
  cuts = record {
    came = d.came;
    read = d.read;
    lines = λ rest may.
        ap lines_of (at_end had have old now draft d none rest (may met)) ∙ lines_last d.raw d.no_feed (some_kept draft d.raw d.kept some)
        ∙ ap (λ (lines : Texts). strip_carriage_return d.raw ∷ lines) (sym (ap lines_of (ap (λ (xs : List ℕ). xs ++ rest) none ∙ may met) ∙ nothing_has_no_lines));
    ended = λ on rest. absurd (true≢false (sym met ∙ on));
    end = d.end;
    behind = d.behind;
  };
  asks = ap (λ (xs : List ℕ). request_of (strip_carriage_return xs)) d.kept ∙ front_decides d.raw;
}

-- a read failed
pub breaks_off : (had mid have : Option (List ℕ)) (old now : Lines) (draft : List ℕ) → Drafts had mid old now draft → Keeps mid have → now.inbox ≡ [] → now.ended ≡ false → BreaksOff had have old
breaks_off had mid have old now draft d kept none on = record {
  came = d.came;
  read = Consumes-kept had mid have d.came d.read kept;
  unfinished = ap ended_lines_of (d.cut ∙ ap (λ (xs : List ℕ). d.raw ++ xs) none ∙ append-nil d.raw) ∙ ended_none d.raw d.no_feed;
  unended = false_from_ne_true old.ended (λ met. true≢false (sym (d.behind met).1 ∙ on));
}
