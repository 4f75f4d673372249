-- The numbers of the questions about a journal, answer by answer.
use mathlib.Core.Bool.{true, ◌&&◌}
use mathlib.Core.List.{List, [], ◌∷◌}
use mathlib.Core.Path.{◌≡◌, refl}
use Prim.Native.Nat.{ℕ, zero, suc, ◌≤◌}
use native.Mathlib.Omega.{arith}
use lib.Dec.{leb}
use lib.ListN.{length, take}
use lib.Seq.{length-take-le}
use borrow.Author.Tests.{leb-true}
use Rattle.rule.proofs.Booleans.{both_true}
use Rattle.planner.proofs.Numbers.{none}
use Rattle.journal_fields.specs.Fields.{first_size, has_first}
use Rattle.journal_fields.specs.Numbers.{first_of, space_number, head_number}
use Rattle.journal_fields.proofs.Bytes.{first_long}

-- the first number that is not 0
pub first_none : (c : ℕ) (cs : List ℕ) → c ≡ 0 → first_of (c ∷ cs) ≡ first_of cs
unfolding first_of
first_none zero cs z = refl
first_none (suc c) cs z = absurd (omega arith)

pub first_some : (c : ℕ) (cs : List ℕ) → (c ≡ 0 → ⊥) → first_of (c ∷ cs) ≡ c
unfolding first_of
first_some zero cs z = absurd (z refl)
first_some (suc c) cs z = refl

pub first_last : (c : ℕ) → first_of (c ∷ []) ≡ c
unfolding first_of
first_last zero = refl
first_last (suc c) = refl

pub first_zero : (c : ℕ) (cs : List ℕ) → first_of (c ∷ cs) ≡ 0 → (c ≡ 0) × (first_of cs ≡ 0)
unfolding first_of
first_zero zero cs z = (refl, z)
first_zero (suc c) cs z = absurd (omega arith)

module _ (size : ℕ) (journal : List ℕ) where
  -- space for `size` bytes
  pub space_room : space_number size journal ≡ 0 → (size ≤ length journal) × (size ≤ 60000)
  unfolding space_number
  space_room z =
      let p = both_true (leb size (length journal)) (leb size 60000) (none (leb size (length journal) && leb size 60000) 14 [] z).0 in
      (leb-true size (length journal) p.0, leb-true size 60000 p.1)

  -- where no question about them is answered by no
  module _ (z : head_number size journal ≡ 0) where
    passed : (leb size 60000 ≡ true) × (leb size (length journal) ≡ true) × (has_first (take size journal) ≡ true)
    unfolding head_number
    passed =
        let inside = leb size (length journal) && has_first (take size journal) in
        let p = none (leb size 60000) 8 (record { holds = inside; number = 13 } ∷ []) z in
        let q = both_true (leb size (length journal)) (has_first (take size journal)) (none inside 12 [] p.1).0 in
        (p.0, q.0, q.1)

    -- they are at most 60,000
    pub size_few : size ≤ 60000
    size_few = leb-true size 60000 passed.0

    -- they lie within the slice
    pub size_inside : size ≤ length journal
    size_inside = leb-true size (length journal) passed.1

    -- they start with the first field
    pub size_first : has_first (take size journal) ≡ true
    size_first = passed.2

    -- and have room for it
    pub size_first_field : first_size ≤ size
    size_first_field = omega (arith, first_long (take size journal) size_first, length-take-le size journal size_inside)
