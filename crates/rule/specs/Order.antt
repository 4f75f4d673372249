-- The rule order of two banks, by their degrees and ranks (01, "The rule"; 02, N6).
use Rattle.std.specs.Prelude.{Bool, ◌&&◌, ◌||◌, ℕ, ltb, eqb}

-- of equal degrees: p, of rank rp, comes before q, of rank rq: its rank is smaller, or the ranks are equal and p is smaller
unfoldable pub tie_by : ℕ → ℕ → ℕ → ℕ → Bool
tie_by rp p rq q = ltb rp rq || eqb rp rq && ltb p q

-- p, of degree dp, is earlier than q, of degree dq: its degree is larger, or the degrees are equal and it comes first by rank and number
unfoldable pub earlier_by : ℕ → ℕ → ℕ → ℕ → ℕ → ℕ → Bool
earlier_by dp rp p dq rq q = ltb dq dp || eqb dp dq && tie_by rp p rq q
