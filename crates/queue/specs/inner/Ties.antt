-- The banks that wait in the words of one degree, and the first of them by rank and number.
use Rattle.std.specs.Prelude.{Bool, List, ◌⊎◌, ◌≡◌, ℕ, ◌+◌, ◌*◌, ◌/◌, ◌%◌, ◌^◌, ◌<◌, ◌≤◌, T, length, get_or}
use Rattle.rule.specs.Order.{tie_by}
use Rattle.rule.specs.Graph.{Graph}
use Rattle.queue.specs.Queue.{test_bit, place_of, bank_at}

-- of two banks of one degree: x comes before y, by the ranks in their cells
unfoldable pub tied : List ℕ → ℕ → ℕ → Bool
tied rs x y = tie_by (get_or rs x 0) x (get_or rs y 0) y

-- the bank of place x waits, in the degree that word w belongs to
unfoldable pub in_degree : List ℕ → ℕ → ℕ → Bool
in_degree words w x = test_bit (get_or words (w / 16 * 16 + x / 64) 0) (x % 64)

-- the key of bank x: its rank and its number as one number
abbrev pub key_of : List ℕ → ℕ → ℕ
key_of rs x = get_or rs x 0 * 1024 + x

-- the set bits of a word are banks base, base + 1, ..; all have a rank
pub record Candidates (rs : List ℕ) (bits base : ℕ) : Type 0 where
  pub fits : bits < 2 ^ 64
  pub small : base ≤ 960
  pub cells : (k : ℕ) → k < 64 → T (test_bit bits k) → base + k < length rs

-- r is the key of one of these banks
abbrev pub KeyOfOne : List ℕ → ℕ → ℕ → ℕ → Type 0
KeyOfOne rs bits base r = (k : ℕ) × (k < 64) × T (test_bit bits k) × (r ≡ key_of rs (base + k))

-- of the number p and the keys of these banks, r is the least
pub record Least (rs : List ℕ) (bits base p r : ℕ) : Type 0 where
  pub one : (r ≡ p) ⊎ KeyOfOne rs bits base r
  pub low : r ≤ p
  pub first : (k : ℕ) → k < 64 → T (test_bit bits k) → r ≤ key_of rs (base + k)

-- of the banks that wait in the degree of word w, r comes first
pub record FirstOfDegree (rs words : List ℕ) (w r : ℕ) : Type 0 where
  pub inside : r < 1024
  pub waits : T (in_degree words w r)
  pub first : (x : ℕ) → x < 1024 → T (in_degree words w x) → T (tied rs x r) → ⊥

-- of the banks that wait in the degree of word w, that of place r comes first
pub record FirstPlace (G : Graph) (words : List ℕ) (w r : ℕ) : Type 0 where
  pub inside : r < 1024
  pub waits : T (in_degree words w r)
  pub first : (x : ℕ) → x < G.banks → T (in_degree words w (place_of words x))
      → T (tie_by (G.rank x) x (G.rank (bank_at words r)) (bank_at words r)) → ⊥
