-- One bank taken up: a CAN step of 000 (definition 4.10).
use Rattle.std.specs.Prelude.{Bool, not, ◌&&◌, ◌||◌, List, ◌≢◌, ◌≡◌, ℕ, ◌+◌, ◌<◌, eqb, get_or, take}
use Rattle.rule.specs.Graph.{Graph}
use Rattle.rule.specs.Wave.{lowest_free}
use Rattle.rule.specs.WorkList.{Next}
use Rattle.memory.specs.Cells.{Beyond}
use Rattle.memory.specs.Memory.{Memory}
use Rattle.queue.specs.Queue.{waits}
use Rattle.recolouring.specs.Recolouring.{collected, later_neighbour}
use Rattle.steps.specs.declared.can_step.Progress.{Progress}

-- the stored wave of b is another one
unfoldable pub wave_differs : List ℕ → List ℕ → ℕ → Bool
wave_differs ws ws' b = not (eqb (get_or ws b 0) (get_or ws' b 0))

-- what one step does, for the bank h that is next: h gets the lowest wave that no earlier neighbour holds; every other wave and the trail so
-- far stay; h stands at the trail's end, which is one further on; h waits no longer, and its later neighbours wait if it got another wave
pub record Treated (G : Graph) (m m' : Memory) (q q' : List ℕ) (h : ℕ) (p p' : Progress) : Type 0 where
  pub next : Next G (waits G q) h
  pub own : get_or m'.slices.waves h 0 ≡ lowest_free (collected G m.slices.waves h)
  pub others : (x : ℕ) → x ≢ h → get_or m'.slices.waves x 0 ≡ get_or m.slices.waves x 0
  pub one : p'.taken ≡ p.taken + 1
  pub trail : take p.taken m'.trail ≡ take p.taken m.trail
  pub end : get_or m'.trail p.taken 0 ≡ h
  pub rest : Beyond (p.taken + 1) m'.trail m.trail
  pub queued : (x : ℕ) → x < G.banks → waits G q' x
      ≡ (waits G q x && not (eqb x h) || (wave_differs m.slices.waves m'.slices.waves h && later_neighbour G h x))
