-- How many bytes a field has, by what it reads as.
use mathlib.Core.Bool.{Bool, true, false, cond}
use mathlib.Core.List.{List}
use mathlib.Core.Path.{◌≡◌, refl}
use Prim.Native.Nat.{ℕ, ◌≤◌, ◌<◌}
use native.Mathlib.Omega.{arith}
use lib.Dec.{ltb, eqb}
use lib.ListN.{length}
use borrow.Author.Tests.{ltb-true, ltb-false}
use Rattle.std.proofs.Common.{Result, Ok, Err}
use Rattle.rule.specs.declared.Entry.{Entry}
use Rattle.journal_fields.specs.declared.field.Fault.{Fault}
use Rattle.journal_fields.specs.declared.field.Fault.TheVariants.{Wrong, Misnumbered, Short}
use Rattle.journal_fields.specs.Fields.{head_size, entry_size, is_entry, entry_in}
use Rattle.journal_fields.specs.Fields.{number_in, rank_fits, whole_of, field_of}

-- a whole field is no left-over
whole_short : (next : Bool) (e : Entry) → Err Short ≡ whole_of next e → ⊥
unfolding whole_of
whole_short next e q = by (rank_fits e) next q
  where
    by : (c d : Bool) → Err Short ≡ cond c (cond d (Ok e) (Err Misnumbered)) (Err Wrong) → ⊥
    by true true q = cc
    by true false q = cc
    by false d q = cc

module _ (w : Bool) (i : ℕ) (bytes : List ℕ) where
  -- a whole field, once there are enough bytes for it
  abbrev long : Result Entry Fault
  long = whole_of (eqb (number_in w i bytes) i) (entry_in w bytes)

  -- an entry's field has so many bytes, and so has one with a wrong number
  long_by-law : (f : Result Entry Fault) → (f ≡ Err Short → ⊥) → (f ≡ Err Wrong → ⊥) → f ≡ field_of w i bytes → entry_size w ≤ length bytes
  unfolding field_of
  long_by-law f s v q = by (ltb (length bytes) head_size) (is_entry w bytes) (ltb (length bytes) (entry_size w)) refl q
    where
      by : (a b c : Bool) → ltb (length bytes) (entry_size w) ≡ c → f ≡ cond a (Err Short) (cond b (cond c (Err Short) long) (Err Wrong)) → entry_size w ≤ length bytes
      by true b c h q = absurd (s q)
      by false true true h q = absurd (s q)
      by false true false h q = ltb-false (length bytes) (entry_size w) h
      by false false c h q = absurd (v q)

  pub whole_long : (e : Entry) → Ok e ≡ field_of w i bytes → entry_size w ≤ length bytes
  whole_long e q = long_by-law (Ok e) (λ z. cc) (λ z. cc) q

  pub misnumbered_long : Err Misnumbered ≡ field_of w i bytes → entry_size w ≤ length bytes
  misnumbered_long q = long_by-law (Err Misnumbered) (λ z. cc) (λ z. cc) q

  -- what is left over is shorter
  pub short_short : Err Short ≡ field_of w i bytes → length bytes < entry_size w
  unfolding field_of
  short_short q = by (ltb (length bytes) head_size) (is_entry w bytes) (ltb (length bytes) (entry_size w)) refl refl q
    where
      by : (a b c : Bool) → ltb (length bytes) head_size ≡ a → ltb (length bytes) (entry_size w) ≡ c → Err Short ≡ cond a (Err Short) (cond b (cond c (Err Short) long) (Err Wrong))
          → length bytes < entry_size w
      by true b c g h q = omega (arith, ltb-true (length bytes) head_size g)
      by false true true g h q = ltb-true (length bytes) (entry_size w) h
      by false true false g h q = absurd (whole_short _ (entry_in w bytes) q)
      by false false c g h q = cc
