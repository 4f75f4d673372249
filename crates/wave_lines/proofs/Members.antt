-- The banks of a wave by the wave cells, bank by bank.
use mathlib.Core.Bool.{Bool, cond}
use mathlib.Core.List.{List, [], ◌∷◌, ◌++◌}
use mathlib.Core.Path.{◌≡◌, refl, ap, ◌∙◌}
use Prim.Native.Nat.{ℕ, ◌+◌, ◌≤◌, ◌<◌}
use native.Mathlib.Numerals.{add-one}
use native.Mathlib.Omega.{arith}
use lib.Dec.{T, eqb}
use lib.ListN.{length, get_or}
use Rattle.rule.specs.Lists.{upto, filter, memb}
use Rattle.rule.proofs.Lists.{upto_below, length_upto, filter_in, filter_short, filter_append}
use Rattle.wave_lines.specs.inner.Cells.{members_of}

pub members_none : (ws : List ℕ) (c : ℕ) → members_of ws c 0 ≡ []
unfolding members_of upto filter
members_none ws c = refl

module _ (ws : List ℕ) (c n : ℕ) where
  abbrev of_wave : ℕ → Bool
  of_wave b = eqb (get_or ws b 0) c

  pub members_next : members_of ws c (n + 1) ≡ members_of ws c n ++ cond (eqb (get_or ws n 0) c) (n ∷ []) []
  unfolding members_of upto filter
  members_next = ap (λ (k : ℕ). filter of_wave (upto k)) (add-one n) ∙ filter_append of_wave (upto n) (n ∷ [])

  pub members_few : length (members_of ws c n) ≤ n
  unfolding members_of
  members_few = omega (arith, filter_short of_wave (upto n), length_upto n)

  pub members_below : (b : ℕ) → T (memb b (members_of ws c n)) → b < n
  unfolding members_of
  members_below b m = upto_below n b (filter_in of_wave (upto n) b m).0
