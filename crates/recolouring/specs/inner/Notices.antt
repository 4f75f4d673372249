-- The notifying of a bank's later neighbours, one by one.
use Rattle.std.specs.Prelude.{Bool, true, cond, ◌&&◌, List, ◌≢◌, ◌≡◌, ℕ, ◌+◌, ◌*◌, ◌<◌, ◌≤◌, T, length, get_or, take}
use Rattle.rule.specs.Lists.{memb}
use Rattle.rule.specs.Graph.{Graph, neighbours, earlier}
use Rattle.memory.specs.inner.View.{Shown}
use Rattle.queue.specs.Queue.{Queue}
use Rattle.recolouring.specs.Recolouring.{later_neighbour, one_moved, Notified}

-- one count of bank v can go from wave o to wave w, if v is notified
pub record Movable (cs : List ℕ) (v o w : ℕ) (notified : Bool) : Type 0 where
  pub row : v * 24 + 24 ≤ length cs
  pub low : o < 24
  pub high : w < 24
  pub some : T notified → 0 < get_or cs (v * 24 + o) 0
  pub few : get_or cs (v * 24 + w) 0 < 65535

-- it has
abbrev pub MovesCount : List ℕ → List ℕ → ℕ → ℕ → ℕ → Bool → Type 0
MovesCount cs cs' v o w notified = cs' ≡ cond notified (one_moved cs v o w) cs

-- what notifying asks: if b changed, it went from wave o to another, w; each later neighbour has a count in o
pub record Notifiable (G : Graph) (ns ds rs cs q : List ℕ) (b : ℕ) (changed : Bool) (o w : ℕ) : Type 0 where
  pub shown : Shown G ns ds rs
  pub bank : b < G.banks
  pub differ : T changed → o ≢ w
  pub movable : (x : ℕ) → x < G.banks → Movable cs x o w (later_neighbour G b x)
  pub queue : Queue G q

-- the later neighbours of b are notified if it changed, whichever clashes these are
abbrev pub NotifiesLater : List ℕ → List ℕ → List ℕ → List ℕ → List ℕ → List ℕ → List ℕ → ℕ → Bool → ℕ → ℕ → Type 0
NotifiesLater ns ds rs cs q cs' q' b changed o w =
    (G : Graph) → Notifiable G ns ds rs cs q b changed o w → Notified G cs cs' q q' o w (λ x. changed && later_neighbour G b x)

-- what the notifying of a bank's later neighbours starts from: the clashes, Counts and the queue
pub record Notice : Type 0 where
  pub graph : Graph
  pub counts : List ℕ
  pub queue : List ℕ

-- of the first i neighbours of b the later ones are notified
pub record Notifying (s : Notice) (ns ds rs cs q : List ℕ) (b o w i : ℕ) : Type 0 where
  pub start : Notifiable s.graph ns ds rs s.counts s.queue b true o w
  pub made : Notified s.graph s.counts cs s.queue q o w
      (λ x. memb x (take i (neighbours s.graph b)) && earlier s.graph b x)

-- and one neighbour more
abbrev pub NotifiesNext : List ℕ → List ℕ → List ℕ → List ℕ → List ℕ → List ℕ → List ℕ → ℕ → ℕ → ℕ → ℕ → Type 0
NotifiesNext ns ds rs cs q cs' q' b o w i =
    (s : Notice) → Notifying s ns ds rs cs q b o w i → Notifying s ns ds rs cs' q' b o w (i + 1)
