-- An edit whose rows and degrees are written, and nothing else yet.
use Rattle.std.specs.Prelude.{◌≡◌, ℕ, ◌+◌, ◌-◌, ◌≤◌, length}
use Rattle.rule.specs.Graph.{Graph}
use Rattle.rule.specs.Wave.{wave_count}
use Rattle.rule.specs.declared.Kind.{Kind}
use Rattle.rule.specs.declared.Kind.TheVariants.{Adding, Striking}
use Rattle.memory.specs.declared.Tally.{Tally}
use Rattle.memory.specs.Memory.{Memory}
use Rattle.memory.specs.Plan.{clash_count}
use Rattle.memory.specs.inner.View.{Held}
use Rattle.neighbour_rows.specs.declared.clash.Degrees.{Degrees}
use Rattle.neighbour_rows.specs.Acceptable.{Acceptable}
use Rattle.neighbour_rows.specs.Rewritten.{Rewritten}
use Rattle.steps.specs.inner.Work.{Edit, new}

-- what an edit found: its kind, the clashes, and the memory
pub record Origin : Type 0 where
  pub kind : Kind
  pub graph : Graph
  pub memory : Memory

-- the edit of a and b from there
abbrev pub edit_at : Origin → ℕ → ℕ → Edit
edit_at o a b = record { kind = o.kind; old = o.graph; a = a; b = b; was = o.memory }

-- rows and degrees are new, the other slices as the edit found them; the tally has the new number of clashes, and the waves and the cap that the
-- edit found
pub record RowsChanged (e : Edit) (m : Memory) (before : Degrees) (t : Tally) : Type 0 where
  pub acceptable : Acceptable e.kind e.old e.a e.b
  pub held : Held e.old e.was.slices t.banks
  pub rewritten : Rewritten e.kind e.old e.a e.b e.was.slices.neighbours e.was.slices.degrees
      m.slices.neighbours m.slices.degrees before
  pub same_waves : m.slices.waves ≡ e.was.slices.waves
  pub same_counts : m.slices.counts ≡ e.was.slices.counts
  pub same_ranks : m.slices.ranks ≡ e.was.slices.ranks
  pub same_trail : m.trail ≡ e.was.trail
  pub same_moved : m.moved ≡ e.was.moved
  pub wide_trail : t.banks ≤ length e.was.trail
  pub wide_moved : t.banks ≤ length e.was.moved
  pub number : t.clashes ≡ clash_count (new e)
  pub waves : t.waves ≡ wave_count e.old
  pub cap : t.cap ≡ e.was.tally.cap

-- the number of clashes can go one up or down
abbrev pub NumberFits : Kind → ℕ → Type 0
NumberFits Adding clashes = clashes + 1 ≤ 65535
NumberFits Striking clashes = 1 ≤ clashes

abbrev pub number_after : Kind → ℕ → ℕ
number_after Adding clashes = clashes + 1
number_after Striking clashes = clashes - 1
