-- The three operators of 000 on one bank: collecting, assigning, notifying (definitions 4.7 to 4.9).
use Rattle.std.specs.Prelude.{Bool, cond, not, ◌&&◌, ◌||◌, List, map, ◌≡◌, ℕ, ◌+◌, ◌*◌, ◌-◌, ◌<◌, eqb, ltb, length, get_or, set}
use Rattle.rule.specs.Lists.{upto, filter, memb}
use Rattle.rule.specs.Graph.{Graph, neighbours, earlier, earlier_neighbours}
use Rattle.rule.specs.Wave.{lowest_free}
use Rattle.memory.specs.inner.View.{Counted}
use Rattle.queue.specs.Queue.{waits, Queue}

-- a set of waves, in 24 cells: those whose cell is not 0
unfoldable pub waves_in : List ℕ → List ℕ
waves_in cells = filter (λ c. ltb 0 (get_or cells c 0)) (upto 24)

-- what collecting is to give (000, definition 4.7): the waves that the earlier neighbours of b hold, by the stored waves ws
unfoldable pub collected : Graph → List ℕ → ℕ → List ℕ
collected G ws b = map (λ v. get_or ws v 0) (earlier_neighbours G b)

-- Counts are the index (000, section 5.1) of G with the stored waves ws, none of which is above 23
pub record Indexed (G : Graph) (ws cs : List ℕ) : Type 0 where
  pub counted : Counted G cs (λ b v. get_or ws v 0)
  pub small : (x : ℕ) → x < G.banks → get_or ws x 0 < 24

-- the set in these cells has exactly those waves
pub record Collects (cells : List ℕ) (G : Graph) (ws : List ℕ) (b : ℕ) : Type 0 where
  pub long : length cells ≡ 24
  pub exact : (c : ℕ) → memb c (waves_in cells) ≡ memb c (collected G ws b)

-- what assigning does (000, definition 4.8): it stores as the wave of b, and of no other bank, the lowest that is not in the set; the answer says
-- whether b had another one
pub record Assigns (cells ws ws' : List ℕ) (b : ℕ) (changed : Bool) : Type 0 where
  pub stored : ws' ≡ set ws b (lowest_free (waves_in cells))
  pub says : changed ≡ not (eqb (get_or ws b 0) (lowest_free (waves_in cells)))

-- x is a neighbour of b, and later: one of those that b notifies
unfoldable pub later_neighbour : Graph → ℕ → ℕ → Bool
later_neighbour G b x = memb x (neighbours G b) && earlier G b x

-- one count of bank v gone from wave o to wave w
abbrev pub one_moved : List ℕ → ℕ → ℕ → ℕ → List ℕ
one_moved cs v o w = set (set cs (v * 24 + o) (get_or cs (v * 24 + o) 0 - 1)) (v * 24 + w) (get_or cs (v * 24 + w) 0 + 1)

-- what notifying these banks does (000, definition 4.9): of each one count goes from wave o to w, and every other cell of Counts stays; each is
-- queued with those that were
pub record Notified (G : Graph) (cs cs' q q' : List ℕ) (o w : ℕ) (these : ℕ → Bool) : Type 0 where
  pub long : length cs' ≡ length cs
  pub counts : (x c : ℕ) → c < 24
      → get_or cs' (x * 24 + c) 0 ≡ cond (these x) (get_or (one_moved cs x o w) (x * 24 + c) 0) (get_or cs (x * 24 + c) 0)
  pub queue : Queue G q'
  pub members : (x : ℕ) → x < G.banks → waits G q' x ≡ (waits G q x || these x)
