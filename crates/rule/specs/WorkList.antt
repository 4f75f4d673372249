-- The work-list of one edit: the banks that are taken up, and those that wait. It starts with the seeds, the banks whose earlier neighbours
-- may differ, and holds in each step what the proof of the edit goes by.
use Rattle.std.specs.Prelude.{Bool, ◌&&◌, ◌||◌, not, List, ◌≡◌, ℕ, ◌<◌, T}
use Rattle.std.specs.Bool.{beq}
use Rattle.rule.specs.Lists.{filter}
use Rattle.rule.specs.Graph.{Graph, earlier, order, pair}
use Rattle.rule.specs.Reach.{changed, is_named, is_reached}
use Rattle.rule.specs.declared.Kind.{Kind}
use Rattle.rule.specs.declared.Kind.TheVariants.{Adding, Striking}

-- the two sets of clashes differ at most in the clash of a and b, the ranks are the same, and a new clash goes both ways
pub record OneEdit (old new : Graph) (a b : ℕ) : Type 0 where
  pub same_banks : old.banks ≡ new.banks
  pub elsewhere : (x y : ℕ) → x < new.banks → y < new.banks → (T (pair a b x y) → ⊥) → old.clash x y ≡ new.clash x y
  pub same_ranks : (x : ℕ) → x < new.banks → old.rank x ≡ new.rank x
  pub symmetric : (x y : ℕ) → x < new.banks → y < new.banks → new.clash x y ≡ new.clash y x

-- an add has no clash of a and b before it, a strike has one
abbrev pub Allowed : Kind → Graph → ℕ → ℕ → Type 0
Allowed Adding G a b = T (G.clash a b) → ⊥
Allowed Striking G a b = T (G.clash a b)

-- x clashes with y, and their order turned over, whichever way
unfoldable pub turned : Graph → Graph → ℕ → ℕ → Bool
turned old new y x = new.clash y x && not (beq (earlier old x y) (earlier new x y))

-- x is taken up whatever the waves become
unfoldable pub seed : Graph → Graph → ℕ → ℕ → ℕ → Bool
seed old new a b x = is_named a b x || (turned old new a x || turned old new b x)

-- x is taken up
unfoldable pub is_taken : Graph → Graph → ℕ → ℕ → ℕ → Bool
is_taken old new a b x = seed old new a b x || is_reached old new x

-- the banks taken up, in the new order
unfoldable pub taken : Graph → Graph → ℕ → ℕ → List ℕ
taken old new a b = filter (is_taken old new a b) (order new)

pub record WorkList (old new : Graph) (a b : ℕ) (done queued : ℕ → Bool) : Type 0 where
  -- every seed is in it
  pub seeds : (x : ℕ) → x < new.banks → T (seed old new a b x) → T (done x || queued x)
  -- and every later neighbour of a done bank that changed
  pub spreads : (v x : ℕ) → v < new.banks → x < new.banks → T (done v) → T (changed old new v)
      → T (new.clash v x && earlier new v x) → T (done x || queued x)
  -- nothing else is
  pub only_taken : (x : ℕ) → x < new.banks → T (done x || queued x) → T (is_taken old new a b x)
  -- what waits comes after what is done
  pub after : (v x : ℕ) → v < new.banks → x < new.banks → T (done v) → T (queued x) → T (earlier new v x)

-- h is next: it waits, and nothing that waits is earlier
pub record Next (new : Graph) (queued : ℕ → Bool) (h : ℕ) : Type 0 where
  pub bank : h < new.banks
  pub waits : T (queued h)
  pub first : (x : ℕ) → x < new.banks → T (queued x) → T (earlier new x h) → ⊥
