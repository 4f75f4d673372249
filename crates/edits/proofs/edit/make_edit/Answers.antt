-- `make_edit`: what it hands to `propagate` is as `Changed` says, for whichever clashes memory holds the plan of.
use Rattle.edits.proofs.ClashCounts.{number_fits, clashes_after}
use Rattle.edits.proofs.Propagating.{origin_of, rowed_before, changed_from}
use Rattle.memory.specs.Lent.{given}
use mathlib.Core.Path.{◌∙◌}
use Rattle.edits.proofs.edit.make_edit.Goals as goal

pub count_after-clashes-requires : goal.count_after-clashes-requires
count_after-clashes-requires c = number_fits c.requires.editable.1

pub change_clash-old-requires : goal.change_clash-old-requires
change_clash-old-requires c = (c.requires.editable.0, rowed_before c.requires.editable.1, c.requires.editable.1.acceptable)

pub propagate-requires : goal.propagate-requires
propagate-requires c =
    let a = c.args in
    let rows = c.change_clash-old.ensures c.requires.editable.0 (rowed_before c.requires.editable.1) c.requires.editable.1.acceptable in record {
      rows_changed = (
        origin_of _ _ (given a.neighbours.now a.degrees.now a.waves.now a.counts.now a.ranks.now a.trail.now a.moved.now a.tally),
        changed_from c.requires.editable.1 rows (c.count_after-clashes.ensures ∙ clashes_after c.requires.editable.1),
      );
      idle = c.requires.idle;
    }

pub returns : goal.returns
returns c =
    let a = c.args in record {
      fact = λ G ed.
          c.propagate.ensures.made
          (origin_of _ G (given a.neighbours.now a.degrees.now a.waves.now a.counts.now a.ranks.now a.trail.now a.moved.now a.tally))
          (changed_from ed (c.change_clash-old.ensures G (rowed_before ed) ed.acceptable) (c.count_after-clashes.ensures ∙ clashes_after ed));
      idle_2 = c.propagate.ensures.idle;
    }
