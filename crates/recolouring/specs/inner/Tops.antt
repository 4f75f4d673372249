-- The highest wave in use, as the steps of an edit keep it.
use Rattle.std.specs.Prelude.{false, List, ◌≡◌, ℕ, ◌+◌, ◌<◌, ◌≤◌, length, get_or, set}
use Rattle.recolouring.specs.declared.highest.Highest.{Highest}

-- every wave of the first n banks is below `most`, and one of them is one below it, unless it is marked that a bank left
pub record Top (n : ℕ) (ws : List ℕ) (top : Highest) : Type 0 where
  pub below : (x : ℕ) → x < n → get_or ws x 0 < top.most
  pub there : top.left ≡ false → (x : ℕ) × ((x < n) × (get_or ws x 0 + 1 ≡ top.most))

-- that holds again, whichever bank went from wave o to wave w
abbrev pub KeepsTop : Highest → ℕ → ℕ → Highest → Type 0
KeepsTop top o w top' =
    (n b : ℕ) (ws : List ℕ) → b < n → n ≤ length ws → get_or ws b 0 ≡ o → Top n ws top → Top n (set ws b w) top'
