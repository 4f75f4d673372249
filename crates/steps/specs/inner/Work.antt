-- The work-list part of an edit: the state between two steps, and that when no bank waits.
use Rattle.std.specs.Prelude.{false, cond, List, ◌≡◌, ℕ, ◌*◌, ◌<◌, ◌≤◌, T, length, get_or, take}
use Rattle.rule.specs.Lists.{filter, memb, Sorted}
use Rattle.rule.specs.Graph.{Graph, earlier}
use Rattle.rule.specs.Wave.{wave, waves}
use Rattle.rule.specs.Reach.{edited, changed, moved}
use Rattle.rule.specs.declared.Kind.{Kind}
use Rattle.rule.specs.WorkList.{OneEdit, WorkList, taken}
use Rattle.memory.specs.Cells.{Beyond, over}
use Rattle.memory.specs.Memory.{Memory}
use Rattle.memory.specs.Plan.{count_cells}
use Rattle.memory.specs.inner.View.{Shown, Counted}
use Rattle.queue.specs.Queue.{waits, Queue, Waiting}
use Rattle.recolouring.specs.inner.Tops.{Top}
use Rattle.steps.specs.declared.can_step.Progress.{Progress}
use Rattle.steps.specs.CanSteps.{Treated}

-- an edit: its kind, the old clashes, the two banks, and the memory as it found it
pub record Edit : Type 0 where
  pub kind : Kind
  pub old : Graph
  pub a : ℕ
  pub b : ℕ
  pub was : Memory

-- the new clashes
abbrev pub new : Edit → Graph
new e = edited e.kind e.old e.a e.b

-- before the first step: no bank is taken up, and the highest of so many waves is in use
abbrev pub begun : ℕ → Progress
begun most = record { taken = 0; moved = 0; top = record { most = most; left = false } }

-- the banks taken up so far: the trail's front
abbrev pub done : Memory → Progress → List ℕ
done m p = take p.taken m.trail

-- the done banks have their rule waves under the new clashes, the others their old ones; those in the queue wait
pub record Working (e : Edit) (m : Memory) (q : List ℕ) (p : Progress) : Type 0 where
  pub edit : OneEdit e.old (new e) e.a e.b
  pub shown : Shown (new e) m.slices.neighbours m.slices.degrees m.slices.ranks
  pub queue : Queue (new e) q
  pub list : WorkList e.old (new e) e.a e.b (λ x. memb x (done m p)) (waits (new e) q)
  pub wide_waves : (new e).banks ≤ length m.slices.waves
  pub stored : (x : ℕ) → x < (new e).banks
      → get_or m.slices.waves x 0 ≡ cond (memb x (done m p)) (wave (new e) x) (wave e.old x)
  pub small : (x : ℕ) → x < (new e).banks → wave e.old x < 24
  pub waves_beyond : Beyond (new e).banks m.slices.waves e.was.slices.waves
  pub counted : Counted (new e) m.slices.counts (λ b v. get_or m.slices.waves v 0)
  pub counts_beyond : Beyond ((new e).banks * 24) m.slices.counts e.was.slices.counts
  pub wide_trail : (new e).banks ≤ length m.trail
  pub room : p.taken ≤ (new e).banks
  pub names : (x : ℕ) → T (memb x (done m p)) → x < (new e).banks
  pub sorted : Sorted (earlier (new e)) (done m p)
  pub trail_beyond : Beyond p.taken m.trail e.was.trail
  pub wide_moved : (new e).banks ≤ length m.moved
  pub few : p.moved ≤ p.taken
  pub moves : take p.moved m.moved ≡ filter (changed e.old (new e)) (done m p)
  pub moved_beyond : Beyond p.moved m.moved e.was.moved
  pub top : Top (new e).banks m.slices.waves p.top

-- what a step asks: that state, and some bank waits
pub record Steppable (e : Edit) (m : Memory) (q : List ℕ) (p : Progress) : Type 0 where
  pub working : Working e m q p
  pub waiting : Waiting (new e) m.slices.ranks q

-- one step in the edit e: what it does for the bank that is next, and the state between two steps holds again
pub record Stepped (e : Edit) (m m' : Memory) (q q' : List ℕ) (p p' : Progress) : Type 0 where
  pub bank : ℕ
  pub treated : Treated (new e) m m' q q' bank p p'
  pub working : Working e m' q' p'

-- nothing waits: waves and Counts are those of the new clashes, the trail and the moved list are complete
pub record Settled (e : Edit) (m : Memory) (p : Progress) : Type 0 where
  pub right_waves : m.slices.waves ≡ over (waves (new e)) e.was.slices.waves
  pub right_counts : m.slices.counts ≡ over (count_cells (new e)) e.was.slices.counts
  pub right_trail : m.trail ≡ over (taken e.old (new e) e.a e.b) e.was.trail
  pub right_moved : m.moved ≡ over (moved e.old (new e)) e.was.moved
  pub trail_count : p.taken ≡ length (taken e.old (new e) e.a e.b)
  pub moved_count : p.moved ≡ length (moved e.old (new e))
  pub few : p.taken ≤ (new e).banks
  pub fewer : p.moved ≤ p.taken
  pub wide_waves : (new e).banks ≤ length m.slices.waves
  pub stored : (x : ℕ) → x < (new e).banks → get_or m.slices.waves x 0 ≡ wave (new e) x
  pub counted : Counted (new e) m.slices.counts (λ b v. wave (new e) v)
  pub top : Top (new e).banks m.slices.waves p.top
