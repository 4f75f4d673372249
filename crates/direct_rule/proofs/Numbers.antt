-- The numbers of the call's questions, case by case, and what it answers by the number.
use mathlib.Core.Bool.{Bool, true, false, cond}
use mathlib.Core.Logic.{◌≢◌}
use mathlib.Core.Path.{◌≡◌, refl, sym, ap}
use Prim.Native.Nat.{ℕ, zero, suc, ◌≤◌, ◌<◌}
use lib.Dec.{leb, ltb}
use borrow.Author.Tests.{le-leb, lt-leb, lt-ltb, le-ltb}
use Rattle.rule.specs.Wave.{wave}
use Rattle.memory.specs.declared.Tally.{Tally}
use Rattle.memory.specs.Plan.{Slices, long_enough, graph_in, holds}
use Rattle.planner.specs.Questions.{first_no}
use Rattle.planner.specs.Calls.{plan_number, wave_by}
use Rattle.planner.proofs.Numbers.{plan_passed}
use Rattle.direct_rule.specs.Calls.{direct_number, rule_wave_of}

module _ (s : Slices) (t : Tally) (b : ℕ) where
  pub direct_refused : (c : ℕ) → plan_number s t ≡ c → c ≢ 0 → direct_number b s t ≡ c
  unfolding plan_number direct_number first_no
  direct_refused c e n = go (leb t.banks 1024) (long_enough t.banks s) (holds s t) e
    where
      rest : ℕ
      rest = cond (leb t.banks 16) (cond (ltb b t.banks) 0 4) 22

      go : (x y z : Bool) → cond x (cond y (cond z 0 3) 2) 1 ≡ c → cond x (cond y (cond z rest 3) 2) 1 ≡ c
      go true true true f = absurd (n (sym f))
      go true true false f = f
      go true false z f = f
      go false y z f = f

  module _ (e : plan_number s t ≡ 0) where
    pub direct_many : 16 < t.banks → direct_number b s t ≡ 22
    unfolding direct_number first_no
    direct_many h = let p = plan_passed s t e in rw (le-leb t.banks 1024 p.most, p.long, p.plan, lt-leb t.banks 16 h)

    pub direct_far : t.banks ≤ 16 → t.banks ≤ b → direct_number b s t ≡ 4
    unfolding direct_number first_no
    direct_far h l =
        let p = plan_passed s t e in rw (le-leb t.banks 1024 p.most, p.long, p.plan, le-leb t.banks 16 h, le-ltb b t.banks l)

    pub direct_fine : t.banks ≤ 16 → b < t.banks → direct_number b s t ≡ 0
    unfolding direct_number first_no
    direct_fine h l =
        let p = plan_passed s t e in rw (le-leb t.banks 1024 p.most, p.long, p.plan, le-leb t.banks 16 h, lt-ltb b t.banks l)

  direct_by : (c : ℕ) → c ≡ direct_number b s t → wave_by c b (graph_in t.banks s) ≡ rule_wave_of b s t
  unfolding rule_wave_of
  direct_by c e = ap (λ (x : ℕ). wave_by x b (graph_in t.banks s)) e

  pub wave_refused : (c : ℕ) → c ≡ direct_number b s t → c ≢ 0 → 0 ≡ rule_wave_of b s t
  wave_refused zero e n = absurd (n refl)
  wave_refused (suc c) e n = unfold wave_by in direct_by (suc c) e

  pub wave_found : 0 ≡ direct_number b s t → wave (graph_in t.banks s) b ≡ rule_wave_of b s t
  wave_found e = unfold wave_by in direct_by 0 e
