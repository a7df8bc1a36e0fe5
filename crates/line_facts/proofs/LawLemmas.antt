-- The laws of fitting and forcing.
use Rattle.line_facts.specs.Laws.{FittingListStays, ForcingIsMonotone, LeastIsUnique, NarrowingTwiceIsOnce}
use Rattle.line_facts.specs.Laws.{ForcingClosesALine}
use Rattle.line_facts.proofs.FitLaws.{tighter_have, tighter_can_fit, within_tighter, fits_narrowed, narrowed_tighter, have_narrowed, same_masks, same_outcome, within_both}
use Rattle.line_facts.proofs.ForceLaws.{gains_grows, gains_inside, gains_closes}

pub forcing_monotone : ForcingIsMonotone
forcing_monotone = record {
  fitting = tighter_can_fit;
  possible = tighter_have;
  forced = λ clue left fewer t i k f h. f (tighter_have clue left fewer t i k h);
  lines = within_tighter;
}

pub own_list_stays : FittingListStays
own_list_stays clue left line out outcome f n = (n.fits.1 (line, f), fits_narrowed clue left line out outcome f n)

pub twice_is_once : NarrowingTwiceIsOnce
twice_is_once clue left out again first second n m =
    let t = narrowed_tighter clue left out first n in (
      same_masks again out m.same_length
          (λ i k. (
            (λ s. (n.exact i k).1 (tighter_have clue left out t i k ((m.exact i k).0 s))),
            (λ s. (m.exact i k).1 (have_narrowed clue left out first n i k ((n.exact i k).0 s))),
          )),
      same_outcome second first
          (λ e. n.fits.1 (tighter_can_fit clue left out t (m.fits.0 e)))
          (λ e. let f = n.fits.0 e in m.fits.1 (f.0, fits_narrowed clue left f.0 out first f.1 n)),
    )

pub one_least : LeastIsUnique
one_least clues base one other h g = within_both one other (h.least other g.closed g.holds) (g.least one h.closed h.holds)

pub closes_a_line : ForcingClosesALine
closes_a_line = record { grows = gains_grows; stays_inside = gains_inside; closes = gains_closes }
