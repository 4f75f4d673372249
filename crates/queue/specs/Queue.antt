-- The priority queue of an edit: the banks that wait, in 2,439 words. A caller goes by `waits`, `Queue` and `Idle` alone.
use Rattle.std.specs.Prelude.{Bool, true, false, ◌&&◌, ◌||◌, not, List, ◌≡◌, ℕ, ◌+◌, ◌*◌, ◌-◌, ◌/◌, ◌%◌, ◌^◌, ◌<◌, ◌≤◌, T, eqb, length, get_or}
use Rattle.rule.specs.Order.{tie_by}
use Rattle.rule.specs.Graph.{Graph, degree}
use Rattle.rule.specs.WorkList.{Next}

-- bit k of a number
unfoldable pub test_bit : ℕ → ℕ → Bool
test_bit a k = eqb (a / 2 ^ k % 2) 1

-- the place of bank x among the banks of its degree, and the bank of a place
abbrev pub place_of : List ℕ → ℕ → ℕ
place_of words x = get_or words (390 + x) 0

abbrev pub bank_at : List ℕ → ℕ → ℕ
bank_at words p = get_or words (1414 + p) 0

-- no rank has been read: a bank's place is its number, whatever the ranks
abbrev pub Unranked : List ℕ → Type 0
Unranked words = get_or words 2438 0 ≡ 0

-- the places of so many banks: each has one of its own, which is its number or goes by rank and number
pub record Places (banks : ℕ) (rank : ℕ → ℕ) (words : List ℕ) : Type 0 where
  pub inside : (x : ℕ) → x < banks → place_of words x < 1024
  pub back : (x : ℕ) → x < banks → bank_at words (place_of words x) ≡ x
  pub numbered : Unranked words → (x : ℕ) → x < banks → place_of words x ≡ x
  pub ranked : (Unranked words → ⊥) → (x y : ℕ) → x < banks → y < banks → T (tie_by (rank x) x (rank y) y)
      → place_of words x < place_of words y

-- the word of bank x: those of the highest degree come first, and in each degree 16 words of 64 places
abbrev pub word_of : Graph → List ℕ → ℕ → ℕ
word_of G words x = (23 - degree G x) * 16 + place_of words x / 64

-- bank x is in the queue
unfoldable pub waits : Graph → List ℕ → ℕ → Bool
waits G words x = test_bit (get_or words (word_of G words x) 0) (place_of words x % 64)

-- bit k of word i is that of bank x
pub record IsBit (G : Graph) (words : List ℕ) (i k x : ℕ) : Type 0 where
  pub bank : x < G.banks
  pub place : place_of words x ≡ i % 16 * 64 + k
  pub word : i ≡ word_of G words x

-- the set bits of the first 384 words are those of banks of G, and the next six words have a bit for each of these words that is not 0
pub record Queue (G : Graph) (words : List ℕ) : Type 0 where
  pub long : length words ≡ 2439
  pub fits : (i : ℕ) → get_or words i 0 < 2 ^ 64
  pub places : Places G.banks G.rank words
  pub names : (i k : ℕ) → i < 384 → k < 64 → T (test_bit (get_or words i 0) k) → IsBit G words i k (bank_at words (i % 16 * 64 + k))
  pub summary : (i : ℕ) → i < 384 → test_bit (get_or words (384 + i / 64) 0) (i % 64) ≡ not (eqb (get_or words i 0) 0)

-- the banks of G can be told by 1,024 numbers, and their degrees by 24
pub record Keyed (G : Graph) : Type 0 where
  pub few : G.banks ≤ 1024
  pub small : (b : ℕ) → b < G.banks → degree G b ≤ 23

-- v, of degree d, can be put into the queue
pub record Enqueuable (G : Graph) (words : List ℕ) (v d : ℕ) : Type 0 where
  pub keyed : Keyed G
  pub queue : Queue G words
  pub bank : v < G.banks
  pub own_degree : d ≡ degree G v

-- v is in the queue, if it was put there, with those that were
pub record Enqueued (G : Graph) (old new : List ℕ) (v : ℕ) (put : Bool) : Type 0 where
  pub queue : Queue G new
  pub members : (x : ℕ) → x < G.banks → waits G new x ≡ (waits G old x || (put && eqb x v))

-- no bank waits
abbrev pub Empty : Graph → List ℕ → Type 0
Empty G words = (x : ℕ) → x < G.banks → T (waits G words x) → ⊥

-- r tells whether no bank waits
pub record TellsEmpty (G : Graph) (words : List ℕ) (r : Bool) : Type 0 where
  pub none : r ≡ true → Empty G words
  pub some : r ≡ false → Empty G words → ⊥

-- some bank waits, and the cells hold the ranks
pub record Waiting (G : Graph) (rs words : List ℕ) : Type 0 where
  pub keyed : Keyed G
  pub queue : Queue G words
  pub some : Empty G words → ⊥
  pub wide_ranks : G.banks ≤ length rs
  pub ranks : (b : ℕ) → b < G.banks → get_or rs b 0 ≡ G.rank b

-- h, the earliest bank that waits, is out of the queue
pub record Dequeued (G : Graph) (old new : List ℕ) (h : ℕ) : Type 0 where
  pub queue : Queue G new
  pub next : Next G (waits G old) h
  pub members : (x : ℕ) → x < G.banks → waits G new x ≡ (waits G old x && not (eqb x h))

-- no bank waits, and the queue can serve plans of so many banks with the ranks in these cells
pub record Idle (banks : ℕ) (rs words : List ℕ) : Type 0 where
  pub few : banks ≤ 1024
  pub long : length words ≡ 2439
  pub fits : (i : ℕ) → get_or words i 0 < 2 ^ 64
  pub places : Places banks (λ x. get_or rs x 0) words
  pub zeros : (i : ℕ) → i < 390 → get_or words i 0 ≡ 0
