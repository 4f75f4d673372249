-- A set of clashes, and the rule order of its banks (01, "The rule"). It is a simple graph: banks are its vertices, clashes its edges; ranks are weights
-- of the vertices that break ties (02, N6).
use Rattle.std.specs.Prelude.{Bool, false, cond, ◌&&◌, ◌||◌, not, List, ◌≡◌, ℕ, ◌<◌, eqb, length}
use Rattle.rule.specs.Lists.{upto, filter, sort_by}
use Rattle.rule.specs.Order.{earlier_by}

-- the banks are 0 .. banks - 1; `clash` says which two clash, `rank` which of equal degrees comes first
pub record Graph : Type 0 where
  pub banks : ℕ
  pub clash : ℕ → ℕ → Bool
  pub rank : ℕ → ℕ

-- the banks that clash with b, ascending
unfoldable pub neighbours : Graph → ℕ → List ℕ
neighbours G b = filter (G.clash b) (upto G.banks)

-- their number
unfoldable pub degree : Graph → ℕ → ℕ
degree G b = length (neighbours G b)

-- p is earlier than q
unfoldable pub earlier : Graph → ℕ → ℕ → Bool
earlier G p q = earlier_by (degree G p) (G.rank p) p (degree G q) (G.rank q) q

-- otherwise it is later
unfoldable pub later : Graph → ℕ → ℕ → Bool
later G p q = not (earlier G p q)

-- the earlier banks that clash with b
unfoldable pub earlier_neighbours : Graph → ℕ → List ℕ
earlier_neighbours G b = filter (λ v. G.clash b v && earlier G v b) (upto G.banks)

-- all banks in the rule order, the earliest first
unfoldable pub order : Graph → List ℕ
order G = sort_by (earlier G) (upto G.banks)

-- n banks of rank 0 and no clash
abbrev pub empty : ℕ → Graph
empty n = record { banks = n; clash = λ x y. false; rank = λ x. 0 }

-- are x and y the two banks a and b?
unfoldable pub pair : ℕ → ℕ → ℕ → ℕ → Bool
pair a b x y = eqb x a && eqb y b || eqb x b && eqb y a

-- these clashes with that of a and b added
abbrev pub added : Graph → ℕ → ℕ → Graph
added G a b = record { banks = G.banks; clash = λ x y. G.clash x y || pair a b x y; rank = G.rank }

-- these clashes with that of a and b struck
abbrev pub struck : Graph → ℕ → ℕ → Graph
struck G a b = record { banks = G.banks; clash = λ x y. G.clash x y && not (pair a b x y); rank = G.rank }

-- the same clashes with the rank of b set to r
abbrev pub ranked : Graph → ℕ → ℕ → Graph
ranked G b r = record { banks = G.banks; clash = G.clash; rank = λ x. cond (eqb x b) r (G.rank x) }

-- two sets of clashes of as many banks, equal between the banks, which have equal ranks
pub record Same (G H : Graph) : Type 0 where
  pub banks : G.banks ≡ H.banks
  pub clash : (x y : ℕ) → x < H.banks → y < H.banks → G.clash x y ≡ H.clash x y
  pub rank : (x : ℕ) → x < H.banks → G.rank x ≡ H.rank x
