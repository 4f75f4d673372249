-- Numbers of a sheet, as they are read: in decimal with no zeros in front.
use Rattle.std.specs.Prelude.{List, [], ◌∷◌, ◌++◌, ◌≡◌, ℕ, ◌+◌, ◌≤◌, ◌<◌, length, get_or, drop}
use Rattle.text.specs.Numbers.{decimal}

-- byte c stands at place i
pub record ByteAt (s : List ℕ) (i c : ℕ) : Type 0 where
  pub inside : i < length s
  pub is : get_or s i 0 ≡ c

-- a digit stands at place i
pub record DigitAt (s : List ℕ) (i : ℕ) : Type 0 where
  pub inside : i < length s
  pub low : 48 ≤ get_or s i 0
  pub high : get_or s i 0 ≤ 57

-- the bytes do not go on with a digit
abbrev pub NoDigit : List ℕ → Type 0
NoDigit [] = Unit {0}
NoDigit (x ∷ xs) = 48 ≤ x → x ≤ 57 → ⊥

-- the text stands at place `at`
abbrev pub Stands : List ℕ → ℕ → List ℕ → Type 0
Stands s at text = drop at s ≡ text ++ drop (at + length text) s

-- the digits from `at` up to `next` are the number v, which has at most four and may go on
pub record Begun (s : List ℕ) (at v next : ℕ) : Type 0 where
  pub text : drop at s ≡ decimal v ++ drop next s
  pub some : 1 ≤ v
  pub small : v ≤ 9999
  pub after : at < next
  pub inside : next ≤ length s

-- the number v stands from `at` up to `next`, where no digit follows
pub record NumberAt (s : List ℕ) (at v next : ℕ) : Type 0 where
  pub text : drop at s ≡ decimal v ++ drop next s
  pub ends : NoDigit (drop next s)
  pub small : v ≤ 9999
  pub after : at < next
  pub inside : next ≤ length s

-- no number up to 9,999 stands at `at`
abbrev pub NoNumber : List ℕ → ℕ → Type 0
NoNumber s at = (x : ℕ) (rest : List ℕ) → x ≤ 9999 → NoDigit rest → drop at s ≡ decimal x ++ rest → ⊥

-- the number v stands from `at` up to `next`; if a digit follows, none does
pub record Stopped (s : List ℕ) (at v next : ℕ) : Type 0 where
  pub text : drop at s ≡ decimal v ++ drop next s
  pub small : v ≤ 9999
  pub after : at < next
  pub inside : next ≤ length s
  pub whole : DigitAt s next → NoNumber s at
