-- A studio's rings of entries, and the history that they give.
use Rattle.std.specs.Prelude.{◌≡◌, ◌+◌, ◌-◌, ◌≤◌, List, [], ◌∷◌, ◌++◌, length, map, take, drop, slice_get, Option, Some}
use Rattle.std.specs.Prelude.{None}
use Rattle.circular_buffer.specs.Buffer.{Buffer, buffer, keep_last, last_item}
use Rattle.edits.specs.declared.entry.Entry.{Entry}
use Rattle.edits.specs.declared.prepared.Step.{Step}
use Rattle.edits.specs.declared.prepared.Step.TheVariants.{Edit, Undo, Redo}
use Rattle.edits.specs.Design.{Design}
use Rattle.edits.specs.Note.{Note, note_of}
use Rattle.edits.specs.History.{History, history, past_from, future_from, ArePast, AreFuture}

abbrev pub notes_of : List Entry → List Note
notes_of entries = map note_of entries

abbrev pub history_from : Design → Buffer Entry → Buffer Entry → History
history_from d past future =
    history d (past_from d (notes_of past.items)) (future_from d (notes_of future.items)) past.capacity

-- the entries give the documents back, and both rings have room for all of them
pub record AreRings (d : Design) (past future : Buffer Entry) : Type 0 where
  pub are_past : ArePast d (notes_of past.items)
  pub are_future : AreFuture d (notes_of future.items)
  pub room : length past.items + length future.items ≤ past.capacity
  pub same_room : future.capacity ≡ past.capacity

-- a ring with one entry more, if there is one to add, or with one less
abbrev pub with_last : Buffer Entry → Option Entry → Buffer Entry
with_last ring None = ring
with_last ring (Some entry) = buffer (keep_last ring.capacity (ring.items ++ entry ∷ [])) ring.capacity

abbrev pub with_first : Buffer Entry → Option Entry → Buffer Entry
with_first ring None = ring
with_first ring (Some entry) = buffer (take ring.capacity (entry ∷ ring.items)) ring.capacity

abbrev pub without_last : Buffer Entry → Buffer Entry
without_last ring = buffer (take (length ring.items - 1) ring.items) ring.capacity

abbrev pub without_first : Buffer Entry → Buffer Entry
without_first ring = buffer (drop 1 ring.items) ring.capacity

-- the rings after a step
abbrev pub past_after : Step → Buffer Entry → Buffer Entry → Buffer Entry
past_after (Edit entry) past future = with_last past (Some entry)
past_after Undo past future = without_last past
past_after Redo past future = with_last past (slice_get future.items 0)

abbrev pub future_after : Step → Buffer Entry → Buffer Entry → Buffer Entry
future_after (Edit entry) past future = buffer [] future.capacity
future_after Undo past future = with_first future (last_item past.items)
future_after Redo past future = without_first future
