-- An edit of one clash to which no refusal is due.
use Rattle.std.specs.Prelude.{◌≢◌, ℕ, ◌<◌}
use Rattle.rule.specs.Graph.{Graph, degree}
use Rattle.rule.specs.declared.Kind.{Kind}
use Rattle.rule.specs.declared.Kind.TheVariants.{Adding, Striking}
use Rattle.rule.specs.WorkList.{Allowed}

-- a and b have fewer than 23 clashes, where one is added
abbrev pub HasRoom : Kind → Graph → ℕ → ℕ → Type 0
HasRoom Adding G a b = (degree G a < 23) × (degree G b < 23)
HasRoom Striking G a b = Unit {0}

-- no refusal is due to the edit of the clash of a and b (questions 7 to 11)
pub record Acceptable (k : Kind) (G : Graph) (a b : ℕ) : Type 0 where
  pub bank_a : a < G.banks
  pub bank_b : b < G.banks
  pub differ : a ≢ b
  pub allowed : Allowed k G a b
  pub room : HasRoom k G a b
