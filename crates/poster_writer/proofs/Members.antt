-- A bank of a wave or of another, and the banks that were gathered.
use mathlib.Core.Bool.{Bool, true, false, cond}
use mathlib.Core.List.{List, [], ◌∷◌}
use mathlib.Core.Path.{◌≡◌, ap, ◌∙◌}
use Prim.Native.Nat.{ℕ, ◌+◌, ◌≤◌, ◌<◌}
use native.Mathlib.Omega.{arith}
use lib.Dec.{eqb}
use lib.ListN.{length, take, drop}
use lib.Seq.{take-append_seam}
use borrow.Author.Tests.{eq-eqb, ne_eqb}
use Rattle.text.specs.Places.{put, Puts}
use Rattle.wave_lines.specs.inner.Cells.{members_of}
use Rattle.wave_lines.proofs.Members.{members_below}
use Rattle.poster_lines.specs.inner.Lines.{Small}

module _ (w c b : ℕ) where
  pub member_same : w ≡ c → cond (eqb w c) (b ∷ []) [] ≡ b ∷ []
  member_same e = rw (eq-eqb w c e)

  pub member_other : (w ≡ c → ⊥) → cond (eqb w c) (b ∷ []) [] ≡ []
  member_other n = rw (ne_eqb w c n)

  pub member_short : length (cond (eqb w c) (b ∷ []) []) ≤ 1
  member_short = go (eqb w c)
    where
      go : (t : Bool) → length (cond t (b ∷ []) []) ≤ 1
      go true = omega arith
      go false = omega arith

pub members_small : (ws : List ℕ) (c n : ℕ) → n ≤ 1024 → Small (members_of ws c n)
members_small ws c n h b m =
    let below : b < n = members_below ws c n b m in
    omega arith

-- what was put at the front of a longer slice
pub gathered : (members banks : List ℕ) (r : ℕ) (banks' : List ℕ) → Puts members 0 banks r banks' → take r banks' ≡ members
unfolding put
gathered members banks r banks' p =
    let e : r ≡ length members = omega (arith, p.next) in
    ap (λ (n : ℕ). take n banks') e ∙ ap (take (length members)) p.left ∙ take-append_seam members (drop (0 + length members) banks)
