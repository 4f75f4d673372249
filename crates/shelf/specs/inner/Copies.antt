-- Cells put into a slice.
use Rattle.std.specs.Prelude.{List, ◌≡◌, ℕ, ◌+◌, take}
use Rattle.text.specs.Places.{put}

-- the first `size` cells were put into a slice at `at`, and r is the place after them
pub record Copied (cells : List ℕ) (size at : ℕ) (to : List ℕ) (r : ℕ) (to' : List ℕ) : Type 0 where
  pub next : r ≡ at + size
  pub left : to' ≡ put (take size cells) at to
