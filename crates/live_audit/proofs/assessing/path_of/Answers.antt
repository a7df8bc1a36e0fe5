use Rattle.std.proofs.Common.{refl, ◌∙◌}
use Rattle.live_audit.proofs.assessing.path_of.Goals as goal

pub returns-clause-path : goal.returns-clause-path
returns-clause-path g c =
    let clues = c.scene_of-scene.ensures.clues ∙ c.requires.audited.clues_are in
    let made = c.in_ok-path.ensures in (
      c.args.document.now,
      (
        record { parts = refl; givens = c.scene_of-scene.ensures.cells },
        record {
          start = c.in_ok-start.start;
          is_start = rw (← clues) c.in_ok-start.ensures.start;
          looks = made.path.0;
          is_run = rw (← clues) made.path.1;
          path_is = rw (← clues) made.path.2;
          open_is = made.open_cells;
        },
      ),
    )
