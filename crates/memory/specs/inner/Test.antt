-- Question 5 as the code tests it: bank by bank, from the cells alone.
use Rattle.std.specs.Prelude.{Bool, true, false, ◌≡◌, ℕ, ◌+◌, ◌*◌, ◌-◌, ◌/◌, ◌≤◌, ◌<◌, T, length, get_or, take, drop}
use mathlib.Core.List.{List, foldr}
use Rattle.rule.specs.Lists.{upto, memb}
use Rattle.memory.specs.declared.Tally.{Tally}
use Rattle.memory.specs.Plan.{Slices}
use Rattle.memory.specs.inner.Counts.{count_in, most_of}

-- what a test's answer says of a fact
abbrev pub Says : Type 0 → Bool → Type 0
Says fact true = fact
Says fact false = fact → ⊥

-- the 23 cells of b's row, and its 24 cells of Counts
abbrev pub row : List ℕ → ℕ → List ℕ
row ns b = take 23 (drop (23 * b) ns)

abbrev pub part : List ℕ → ℕ → List ℕ
part cs b = take 24 (drop (24 * b) cs)

-- cell i of the row of b is a bank other than b, larger than that before it
pub record Named (row : List ℕ) (n b i : ℕ) : Type 0 where
  pub bank : get_or row i 0 < n
  pub other : get_or row i 0 ≡ b → ⊥
  pub larger : 0 < i → get_or row (i - 1) 0 < get_or row i 0

-- the row of b names `degree` banks, ascending, and is filled up with 65,535
pub record RowRight (row : List ℕ) (degree n b : ℕ) : Type 0 where
  pub few : degree ≤ 23
  pub named : (i : ℕ) → i < degree → Named row n b i
  pub rest : (i : ℕ) → i < 23 → degree ≤ i → get_or row i 0 ≡ 65535

abbrev pub RowsRight : List ℕ → List ℕ → ℕ → Type 0
RowsRight ns ds n = (b : ℕ) → b < n → RowRight (row ns b) (get_or ds b 0) n b

-- rows that are right, in slices that are long enough
pub record Rows (ns ds : List ℕ) (n : ℕ) : Type 0 where
  pub most : n ≤ 1024
  pub long_neighbours : 23 * n ≤ length ns
  pub long_degrees : n ≤ length ds
  pub right : RowsRight ns ds n

-- whom the row of x names, names x
abbrev pub Symmetric : List ℕ → ℕ → Type 0
Symmetric ns n = (x y : ℕ) → x < n → y < n → T (memb y (row ns x)) → T (memb x (row ns y))

-- w is the lowest wave with a count of 0
pub record Lowest (count : ℕ → ℕ) (w : ℕ) : Type 0 where
  pub below : (c : ℕ) → c < w → count c ≡ 0 → ⊥
  pub at : count w ≡ 0

-- a bank's part of Counts holds its counts, and its wave w is the lowest that they leave free
pub record PartRight (part : List ℕ) (count : ℕ → ℕ) (w : ℕ) : Type 0 where
  pub same : (c : ℕ) → c < 24 → get_or part c 0 ≡ count c
  pub lowest : Lowest count w

-- the same of the parts of n banks, by counts that stand in cells
abbrev pub CellsRight : List ℕ → List ℕ → List ℕ → ℕ → Type 0
CellsRight ws cells cs n = (b : ℕ) → b < n → PartRight (part cs b) (λ c. get_or (part cells b) c 0) (get_or ws b 0)

-- Counts of b, from the cells
abbrev pub counts_of : List ℕ → List ℕ → List ℕ → List ℕ → ℕ → ℕ → ℕ
counts_of ns ds rs ws b = count_in ds rs ws b (take (get_or ds b 0) (drop (b * 23) ns))

abbrev pub CountsRight : List ℕ → List ℕ → List ℕ → List ℕ → List ℕ → ℕ → Type 0
CountsRight ns ds rs ws cs n = (b : ℕ) → b < n → PartRight (part cs b) (counts_of ns ds rs ws b) (get_or ws b 0)

-- the rows name each other, and Counts and the waves are right by them
abbrev pub ClashesRight : Slices → ℕ → Type 0
ClashesRight s n = Symmetric s.neighbours n × CountsRight s.neighbours s.degrees s.ranks s.waves s.counts n

-- the first n cells are below a bound; below 24
abbrev pub Under : ℕ → List ℕ → ℕ → Type 0
Under bound cells n = (i : ℕ) → i < n → get_or cells i 0 < bound

abbrev pub Small : List ℕ → ℕ → Type 0
Small = Under 24

-- waves below 24, in a slice that is long enough
pub record WavesSmall (ws : List ℕ) (n : ℕ) : Type 0 where
  pub long : n ≤ length ws
  pub small : Small ws n

-- the sum of the first n cells
unfoldable pub sum : List ℕ → ℕ → ℕ
sum cells n = foldr (λ (b m : ℕ). get_or cells b 0 + m) 0 (upto n)

-- all that is tested
pub record Tested (s : Slices) (t : Tally) : Type 0 where
  pub rows : RowsRight s.neighbours s.degrees t.banks
  pub symmetric : Symmetric s.neighbours t.banks
  pub small : Small s.waves t.banks
  pub ranks : Under 10000 s.ranks t.banks
  pub counts : CountsRight s.neighbours s.degrees s.ranks s.waves s.counts t.banks
  pub clashes : t.clashes ≡ sum s.degrees t.banks / 2
  pub waves : t.waves ≡ most_of s.waves t.banks
