-- Fields, one after another, and the form that the first tells.
use mathlib.Core.Bool.{Bool, true, false, not}
use mathlib.Core.List.{List, [], ◌∷◌}
use mathlib.Core.Logic.{◌⊎◌, inl, inr}
use mathlib.Core.Path.{◌≡◌, refl, sym, ap, ◌∙◌}
use Prim.Native.Nat.{ℕ, zero, suc, ◌+◌, ◌≤◌, ◌<◌}
use native.Mathlib.Omega.{arith}
use lib.Dec.{eqb}
use lib.ListN.{length, take, drop, length-drop}
use lib.Seq.{take-add, drop_at, length-take-le}
use borrow.Author.Tests.{lt-ltb, le-ltb}
use Rattle.rule.proofs.Booleans.{lt_or_ge}
use Rattle.journal_fields.specs.Fields.{head_size, value_size, entry_size, number_at, numbered, field_of, fields_by, fields_in, fields_from, fields}

-- a part of a front
pub drop_take : (c j : ℕ) (l : List ℕ) → c ≤ length l → drop c (take (c + j) l) ≡ take j (drop c l)
drop_take c j l h = ap (drop c) (take-add c j l) ∙ drop_at (take c l) (take j (drop c l)) c (length-take-le c l h)

module _ (w : Bool) where
  -- as many fields as there are bytes are enough
  depth_enough : (d e i : ℕ) (bytes : List ℕ) → length bytes ≤ d → length bytes ≤ e → fields_in d w i bytes ≡ fields_in e w i bytes
  unfolding fields_in field_of fields_by
  depth_enough zero zero i bytes h k = refl
  depth_enough zero (suc e) i [] h k = refl
  depth_enough zero (suc e) i (x ∷ xs) h k = absurd (omega arith)
  depth_enough (suc d) zero i [] h k = refl
  depth_enough (suc d) zero i (x ∷ xs) h k = absurd (omega arith)
  depth_enough (suc d) (suc e) i bytes h k =
      let l = length-drop (entry_size w) bytes in
      ap (fields_by (field_of w i bytes) (length bytes)) (depth_enough d e (suc i) (drop (entry_size w) bytes) (omega arith) (omega arith))

  -- the field at the front, and the rest
  pub fields_step : (i : ℕ) (bytes : List ℕ)
      → fields_from w i bytes ≡ fields_by (field_of w i bytes) (length bytes) (fields_from w (suc i) (drop (entry_size w) bytes))
  unfolding fields_from fields_in
  fields_step i bytes =
      let rest : List ℕ = drop (entry_size w) bytes in
      let l = length-drop (entry_size w) bytes in
      depth_enough (length bytes) (suc (length bytes)) i bytes (omega arith) (omega arith)
      ∙ ap (fields_by (field_of w i bytes) (length bytes)) (depth_enough (length bytes) (length rest) (suc i) rest (omega arith) (omega arith))

  -- fewer bytes than a tag and a length are left over
  fields_few : (i : ℕ) (bytes : List ℕ) → length bytes < head_size → fields_from w i bytes ≡ record { entries = []; wrong = 0; left_over = length bytes }
  unfolding field_of fields_by
  fields_few i bytes h = fields_step i bytes ∙ rw (lt-ltb (length bytes) head_size h)

  -- the length of the first entry tells the form
  pub form_is : (bytes : List ℕ) → head_size ≤ length bytes → number_at 1 bytes ≡ value_size w → numbered bytes ≡ w
  unfolding numbered
  form_is bytes h e = rw (le-ltb (length bytes) head_size h, e) (by w)
    where
      by : (w : Bool) → not (eqb (value_size w) (value_size false)) ≡ w
      by true = refl
      by false = refl

-- it is all the same where there is no entry
pub fields_form : (w : Bool) (bytes : List ℕ) → (head_size ≤ length bytes → number_at 1 bytes ≡ value_size w) → fields bytes ≡ fields_from w 1 bytes
unfolding fields
fields_form w bytes e = by (lt_or_ge (length bytes) head_size)
  where
    by : (length bytes < head_size) ⊎ (head_size ≤ length bytes) → fields_from (numbered bytes) 1 bytes ≡ fields_from w 1 bytes
    by (inl h) = fields_few (numbered bytes) 1 bytes h ∙ sym (fields_few w 1 bytes h)
    by (inr h) = ap (λ (v : Bool). fields_from v 1 bytes) (form_is w bytes h (e h))
