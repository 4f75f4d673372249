-- The words of a queue: one bit written, and the first word that is not 0.
use Rattle.std.specs.Prelude.{Bool, List, ◌≢◌, ◌≡◌, ℕ, ◌^◌, ◌<◌, ◌≤◌, length, get_or}
use Rattle.queue.specs.Queue.{test_bit}

-- word w, one of those of bits, has a bit k, and each word has 64 bits
pub record HasBit (words : List ℕ) (w k : ℕ) : Type 0 where
  pub word : w < 390
  pub place : k < 64
  pub long : length words ≡ 2439
  pub fits : (i : ℕ) → get_or words i 0 < 2 ^ 64

-- bit k of word w became `value`, and no other bit changed
pub record Written (old new : List ℕ) (w k : ℕ) (value : Bool) : Type 0 where
  pub long : length new ≡ 2439
  pub fits : (i : ℕ) → get_or new i 0 < 2 ^ 64
  pub own : test_bit (get_or new w 0) k ≡ value
  pub others : (m : ℕ) → m ≢ k → test_bit (get_or new w 0) m ≡ test_bit (get_or old w 0) m
  pub elsewhere : (i : ℕ) → i ≢ w → get_or new i 0 ≡ get_or old i 0

-- r is the first word from word 384 on that is not 0, or 390 if none is
pub record First (words : List ℕ) (r : ℕ) : Type 0 where
  pub low : 384 ≤ r
  pub high : r ≤ 390
  pub none : (i : ℕ) → 384 ≤ i → i < r → get_or words i 0 ≡ 0
  pub some : r < 390 → get_or words r 0 ≢ 0

-- word r, one of the banks', is the first that is not 0
pub record Head (words : List ℕ) (r : ℕ) : Type 0 where
  pub inside : r < 384
  pub some : get_or words r 0 ≢ 0
  pub none : (i : ℕ) → i < r → get_or words i 0 ≡ 0
