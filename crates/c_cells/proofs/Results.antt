-- The one result of a call that is made of the value of its answer: what `map` left.
use mathlib.Core.Logic.{◌≢◌}
use mathlib.Core.Path.{◌≡◌, ap, ◌∙◌}
use Prim.Native.Nat.{ℕ}
use Rattle.std.specs.Prelude.{Result, Ok, Err, IfOk}
use Rattle.std.specs.Result.{MatchResult, IsOkAnd}
use Rattle.rule.specs.declared.refusal.Refusal.{Refusal}
use Rattle.rule.specs.Refusals.{number_in, value_or}
use Rattle.rule.proofs.Refusals.{refused_some}

-- a value of which P holds is y, where P says so
pub value_is : (m : Result ℕ Refusal) (P : ℕ → Type 0) (y : ℕ) → IsOkAnd m P → ((x : ℕ) → P x → x ≡ y) → m ≡ Ok y
value_is (Ok x) P y p is = ap (λ (u : ℕ). Ok u) (is x p)
value_is (Err e) P y p is = absurd p

-- the number is the answer's, and the value is the one that `of` makes
pub result_of : {A : Type 0} (of : A → ℕ) (r : Result A Refusal) (w : ℕ) (Q : A → Type 0) (m : Result ℕ Refusal)
    → IfOk r (λ x. of x ≡ w)
    → (number_in r ≢ 0 → 0 ≡ w)
    → MatchResult r Q (λ e. m ≡ Err e)
    → ((x : A) → Q x → m ≡ Ok (of x))
    → (number_in m ≡ number_in r) × (value_or m 0 ≡ w)
result_of of (Ok x) w Q m is none q made =
    (ap (λ (u : Result ℕ Refusal). number_in u) (made x q), ap (λ (u : Result ℕ Refusal). value_or u 0) (made x q) ∙ is)
result_of of (Err e) w Q m is none q made =
    (ap (λ (u : Result ℕ Refusal). number_in u) q, ap (λ (u : Result ℕ Refusal). value_or u 0) q ∙ none (refused_some e))

-- the same answer
pub result_same : (r : Result ℕ Refusal) (Q : ℕ → Type 0) (m : Result ℕ Refusal) → MatchResult r Q (λ e. m ≡ Err e) → ((x : ℕ) → Q x → m ≡ Ok x) → m ≡ r
result_same (Ok x) Q m q made = made x q
result_same (Err e) Q m q made = q
