-- What the steps of keeping and of coming back go by.
use Rattle.std.specs.Prelude.{true, List, ◌≡◌, ℕ, ◌*◌, ◌≤◌, ◌<◌, length}
use Rattle.memory.specs.declared.Tally.{Tally}
use Rattle.memory.specs.Cells.{over}
use Rattle.memory.specs.Plan.{Slices, long_enough}
use Rattle.shelf.specs.Names.{place_of}
use Rattle.shelf.specs.Shelf.{place_size}
use Rattle.checkpoints.specs.Calls.{differing}

-- the banks below b whose wave differs stand at the front of the moved slice, and r is their number
pub record Listed (b : ℕ) (old new moved : List ℕ) (r : ℕ) (moved' : List ℕ) : Type 0 where
  pub count : r ≡ length (differing b old new)
  pub cells : moved' ≡ over (differing b old new) moved

-- no question of keeping is answered no: what the calls go on with
pub record KeepReady (s : Slices) (t : Tally) (name shelf : List ℕ) : Type 0 where
  pub few : t.banks ≤ 1024
  pub long : long_enough t.banks s ≡ true
  pub room : 3 * place_size t.banks ≤ length shelf
  pub known : place_of name < 3
