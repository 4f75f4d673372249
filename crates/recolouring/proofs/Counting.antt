-- Counts when one bank goes to another wave.
use mathlib.Core.Bool.{Bool, true, false, cond}
use mathlib.Core.List.{List, [], ◌∷◌}
use mathlib.Core.Logic.{inl, inr, ◌≢◌}
use mathlib.Core.Path.{◌≡◌, refl, sym, ap, subst, ◌∙◌}
use Prim.Native.Nat.{ℕ, ◌+◌, ◌*◌, ◌-◌, ◌≤◌, ◌<◌}
use native.Mathlib.Decide.{ℕ_discrete}
use native.Mathlib.Nat.{add-zero, sub-zero}
use native.Mathlib.Omega.{arith}
use lib.Dec.{T, eqb}
use lib.ListN.{length, get_or, set, length-set}
use lib.Seq.{get_or-set_same, get_or-set_other, set-get_or}
use mir.Val.{bool_byte}
use Rattle.rule.specs.Lists.{memb, Sorted}
use Rattle.rule.specs.Graph.{Graph, earlier_neighbours}
use Rattle.rule.proofs.Lists.{in_cons, in_none}
use Rattle.memory.specs.inner.Counts.{standing}
use Rattle.memory.specs.inner.View.{Counted}
use Rattle.memory.proofs.Standing.{bit, bit_yes, bit_no, standing_cons, standing_cong}
use Rattle.recolouring.specs.Recolouring.{one_moved}

pub counted_cong : (G : Graph) (cs : List ℕ) (f g : ℕ → ℕ → ℕ) → ((b v : ℕ) → b < G.banks → T (memb v (earlier_neighbours G b)) → f b v ≡ g b v) → Counted G cs f → Counted G cs g
counted_cong G cs f g h r = record {
  wide_counts = r.wide_counts;
  cell = λ b c lb lc. r.cell b c lb lc ∙ standing_cong (f b) (g b) c (earlier_neighbours G b) (λ v m. h b v lb m);
}

-- of the waves f and g, which differ at most at h
module _ (R : ℕ → ℕ → Bool) (irrefl : (x : ℕ) → T (R x x) → ⊥) (f g : ℕ → ℕ) (h : ℕ) (others : (v : ℕ) → v ≢ h → f v ≡ g v) (c : ℕ) where
  pub standing_move : (xs : List ℕ) → Sorted R xs → T (memb h xs) → standing g c xs + bit (eqb (f h) c) ≡ standing f c xs + bit (eqb (g h) c)
  standing_move [] s m = absurd (in_none h m)
  standing_move (y ∷ ys) s m = go (ℕ_discrete y h) (λ u. standing_move ys s.1 u)
    where
      go : Dec (y ≡ h) → (T (memb h ys) → standing g c ys + bit (eqb (f h) c) ≡ standing f c ys + bit (eqb (g h) c))
          → standing g c (y ∷ ys) + bit (eqb (f h) c) ≡ standing f c (y ∷ ys) + bit (eqb (g h) c)
      go (yes e) more =
          let rest : standing f c ys ≡ standing g c ys =
          standing_cong f g c ys (λ v u. others v (λ d. irrefl y (subst (λ (k : ℕ). T (R y k)) (d ∙ sym e) (s.0 v u)))) in
          let p : bit (eqb (f y) c) ≡ bit (eqb (f h) c) = ap (λ (k : ℕ). bit (eqb (f k) c)) e in
          let q : bit (eqb (g y) c) ≡ bit (eqb (g h) c) = ap (λ (k : ℕ). bit (eqb (g k) c)) e in
          omega (arith, standing_cons f c y ys, standing_cons g c y ys)
      go (no n) more =
          let r = more (elim (in_cons h y ys m) [ inl e ↦ absurd (n (sym e)) | inr u ↦ u ]) in
          let p : bit (eqb (f y) c) ≡ bit (eqb (g y) c) = ap (λ (k : ℕ). bit (eqb k c)) (others y n) in
          omega (arith, standing_cons f c y ys, standing_cons g c y ys)

-- a test, taken as the number that it casts to: at most 1
pub at_most_one : (notified : Bool) → bool_byte notified ≤ 1
at_most_one true = omega arith
at_most_one false = omega arith

-- at most n, if n is positive where the test passes
pub at_most : (notified : Bool) (n : ℕ) → (T notified → 0 < n) → bool_byte notified ≤ n
at_most true n some = omega (arith, some tt)
at_most false n some = omega arith

-- that many moved: one count, or none
pub moved_if : (notified : Bool) (cs : List ℕ) (v o w : ℕ)
    → set (set cs (v * 24 + o) (get_or cs (v * 24 + o) 0 - bool_byte notified)) (v * 24 + w) (get_or cs (v * 24 + w) 0 + bool_byte notified) ≡ cond notified (one_moved cs v o w) cs
moved_if true cs v o w = refl
moved_if false cs v o w = simp (sub-zero, add-zero, set-get_or)

-- one count of v moved from o to w
module _ (cs : List ℕ) (v o w : ℕ) (row : v * 24 + 24 ≤ length cs) (lo : o < 24) (lw : w < 24) (differ : o ≢ w) where
  moved_elsewhere : (b c : ℕ) → c < 24 → b ≢ v → get_or (one_moved cs v o w) (b * 24 + c) 0 ≡ get_or cs (b * 24 + c) 0
  moved_elsewhere b c lc n =
      get_or-set_other (set cs (v * 24 + o) _) (v * 24 + w) (b * 24 + c) _ 0 (λ e. n (omega arith))
      ∙ get_or-set_other cs (v * 24 + o) (b * 24 + c) _ 0 (λ e. n (omega arith))

  pub moved_here : (c : ℕ) → c < 24 → 0 < get_or cs (v * 24 + o) 0
      → get_or (one_moved cs v o w) (v * 24 + c) 0 + bit (eqb o c) ≡ get_or cs (v * 24 + c) 0 + bit (eqb w c)
  moved_here c lc some = go (ℕ_discrete c w) (ℕ_discrete c o)
    where
      go : Dec (c ≡ w) → Dec (c ≡ o) → get_or (one_moved cs v o w) (v * 24 + c) 0 + bit (eqb o c) ≡ get_or cs (v * 24 + c) 0 + bit (eqb w c)
      go (yes e) d =
          rw e (omega (
            arith,
            get_or-set_same (set cs (v * 24 + o) (get_or cs (v * 24 + o) 0 - 1)) (v * 24 + w) (get_or cs (v * 24 + w) 0 + 1) 0 (rw length-set (omega arith)),
            bit_no o w differ,
            bit_yes w w refl,
          ))
      go (no n) (yes e) =
          rw e (omega (
            arith,
            get_or-set_other (set cs (v * 24 + o) (get_or cs (v * 24 + o) 0 - 1)) (v * 24 + w) (v * 24 + o) (get_or cs (v * 24 + w) 0 + 1) 0 (λ d. differ (omega arith)),
            get_or-set_same cs (v * 24 + o) (get_or cs (v * 24 + o) 0 - 1) 0 (omega arith),
            bit_yes o o refl,
            bit_no w o (λ d. differ (sym d)),
          ))
      go (no n) (no k) =
          omega (
            arith,
            get_or-set_other (set cs (v * 24 + o) (get_or cs (v * 24 + o) 0 - 1)) (v * 24 + w) (v * 24 + c) (get_or cs (v * 24 + w) 0 + 1) 0 (λ d. n (omega arith)),
            get_or-set_other cs (v * 24 + o) (v * 24 + c) (get_or cs (v * 24 + o) 0 - 1) 0 (λ d. k (omega arith)),
            bit_no o c (λ d. k (sym d)),
            bit_no w c (λ d. n (sym d)),
          )

  -- no other bank's counts differ, whether v is notified or not
  pub notified_elsewhere : (notified : Bool) (b c : ℕ) → c < 24 → b ≢ v → get_or (cond notified (one_moved cs v o w) cs) (b * 24 + c) 0 ≡ get_or cs (b * 24 + c) 0
  notified_elsewhere true b c lc n = moved_elsewhere b c lc n
  notified_elsewhere false b c lc n = refl

  -- nor does the length
  pub notified_length : (notified : Bool) → length (cond notified (one_moved cs v o w) cs) ≡ length cs
  notified_length true = simp length-set
  notified_length false = refl
