-- The number of the fields after the first, field by field.
use mathlib.Core.Bool.{Bool, true, false, ◌&&◌, not}
use mathlib.Core.List.{List, [], ◌∷◌, ◌++◌, append-nil}
use mathlib.Core.Path.{◌≡◌, refl, sym, ap, ap₂, ◌∙◌}
use Prim.Native.Nat.{ℕ, suc, ◌+◌, ◌≤◌, ◌<◌}
use native.Mathlib.Numerals.{add-one}
use native.Mathlib.Omega.{arith}
use lib.Dec.{eqb}
use mathlib.Core.Logic.{◌⊎◌, inl, inr}
use lib.ListN.{length, get_or, drop, length-append, get_or-append}
use lib.Seq.{drop_at}
use borrow.Author.Tests.{ne_eqb, eqb-true}
use Rattle.rule.proofs.Booleans.{and_false, lt_or_ge}
use Rattle.std.proofs.Common.{Result, Ok, Err, min}
use Rattle.rule.specs.declared.Entry.{Entry}
use Rattle.rule.specs.declared.Entry.TheVariants.{Clash, Rank}
use Rattle.planner.specs.Questions.{◌else◌, first_no}
use Rattle.planner.proofs.Numbers.{none}
use Rattle.journal_fields.specs.declared.field.Fault.{Fault}
use Rattle.journal_fields.specs.declared.field.Fault.TheVariants.{Wrong, Misnumbered, Short}
use Rattle.journal_fields.specs.Fields.{entry_size, numbered, field_of, Fields, fields_by, fields_from, fields, is_rank, ranks_from, ranks_first}
use Rattle.journal_fields.specs.Numbers.{first_of, refusal, later_number}
use Rattle.journal_fields.proofs.Reading.{fields_step}
use Rattle.journal_fields.proofs.Forms.{whole_long}
use Rattle.journal_fields.proofs.Entries.{whole, none_from}
use Rattle.journal_fields.proofs.Bytes.{no_bytes, field_same}
use Rattle.journal_fields.proofs.Numbers.{first_zero}

-- the number of fields, `begun` if an edit has come before them
abbrev pub number_from : Bool → Fields → ℕ
number_from begun f =
    first_of (first_no ((ranks_from begun f.entries else 18) ∷ []) ∷ f.wrong ∷ first_no ((eqb f.left_over 0 else 14) ∷ []) ∷ [])

pub later_start : (f : Fields) → later_number f ≡ number_from false f
unfolding later_number ranks_first
later_start f = refl

pub later_first : (bytes : List ℕ) (w : Bool) → w ≡ numbered bytes → later_number (fields bytes) ≡ number_from false (fields_from w 1 bytes)
unfolding fields
later_first bytes w e = later_start (fields bytes) ∙ ap (λ (v : Bool). number_from false (fields_from v 1 bytes)) (sym e)

-- fields of number 0
pub later_passed : (f : Fields) → later_number f ≡ 0 → f ≡ whole f.entries
unfolding later_number
later_passed f z =
    let p = (first_zero (first_no ((ranks_first f.entries else 18) ∷ [])) _ z).1 in
    let q = first_zero f.wrong _ p in
    let r = (first_zero (first_no ((eqb f.left_over 0 else 14) ∷ [])) [] q.1).0 in
    let l = eqb-true f.left_over 0 (none (eqb f.left_over 0) 13 [] r).0 in
    λ i. record { entries = f.entries; wrong = q.0 i; left_over = l i }

-- no rank after an edit: it is no rank, or no edit has come
pub no_rank : (begun rank : Bool) → rank ≡ false → (begun && rank) ≡ false
no_rank begun rank h = rw h (and_false begun)

pub none_begun : (begun rank : Bool) → begun ≡ false → (begun && rank) ≡ false
none_begun begun rank h = rw h

-- then an edit has come if this is one
ranks_next : (begun : Bool) (e : Entry) (es : List Entry) → (begun && is_rank e) ≡ false → ranks_from begun (e ∷ es) ≡ ranks_from (not (is_rank e)) es
unfolding ranks_from is_rank
ranks_next begun (Clash kind a b) es h = refl
ranks_next false (Rank b r) es h = refl
ranks_next true (Rank b r) es h = let z : ◌≡◌ {A = ℕ} 0 1 = cc in absurd (omega arith)

ranks_late : (e : Entry) (es : List Entry) → is_rank e ≡ true → ranks_from true (e ∷ es) ≡ false
unfolding ranks_from is_rank
ranks_late (Clash kind a b) es h = let z : ◌≡◌ {A = ℕ} 0 1 = cc in absurd (omega arith)
ranks_late (Rank b r) es h = refl

-- fields, by the one at the front
module _ (size : ℕ) (rest : Fields) where
  next_by : (begun : Bool) (e : Entry) → (begun && is_rank e) ≡ false → number_from begun (fields_by (Ok e) size rest) ≡ number_from (not (is_rank e)) rest
  unfolding fields_by
  next_by begun e h =
      ap (λ (b : Bool). first_of (first_no ((b else 18) ∷ []) ∷ rest.wrong ∷ first_no ((eqb rest.left_over 0 else 14) ∷ []) ∷ [])) (ranks_next begun e rest.entries h)

  late_by : (begun : Bool) (e : Entry) → begun ≡ true → is_rank e ≡ true → 18 ≡ number_from begun (fields_by (Ok e) size rest)
  unfolding first_of first_no fields_by
  late_by begun e b h = rw (b, ranks_late e rest.entries h)

  fault_by : (begun : Bool) (x : Fault) → 0 < size → refusal x ≡ number_from begun (fields_by (Err x) size rest)
  unfolding first_of first_no refusal fields_by ranks_from
  fault_by begun Wrong h = refl
  fault_by begun Misnumbered h = refl
  fault_by begun Short h = rw (ne_eqb size 0 (λ z. omega arith))

module _ (w : Bool) (i : ℕ) where
  -- no bytes
  pub later_end : (bytes : List ℕ) (begun : Bool) → length bytes ≡ 0 → 0 ≡ number_from begun (fields_from w i bytes)
  unfolding first_of first_no ranks_from
  later_end bytes begun h = rw (no_bytes bytes h, none_from w i)

  -- bytes cut after an entry's field, or whole where they are fewer: the part in front reads as the field
  module _ (bytes front more : List ℕ) (parts : bytes ≡ front ++ more) (most : length front ≡ min (entry_size w) (length bytes)) where
    front_reads : field_of w i front ≡ field_of w i bytes
    front_reads = by (lt_or_ge (length bytes) (entry_size w))
      where
        by : (length bytes < entry_size w) ⊎ (entry_size w ≤ length bytes) → field_of w i front ≡ field_of w i bytes
        by (inl h) =
            let z : length more ≡ 0 = omega (arith, ap length parts, length-append front more) in
            ap (field_of w i) (sym (append-nil front) ∙ ap (λ (l : List ℕ). front ++ l) (sym (no_bytes more z)) ∙ sym parts)
        by (inr h) =
            field_same w i front bytes (omega arith) h
            (λ k l. sym (ap (λ (b : List ℕ). get_or b k 0) parts ∙ get_or-append front more 0 k (omega arith)))

    module _ (some : 0 < length bytes) (f : Result Entry Fault) (read : f ≡ field_of w i front) where
      step : fields_by f (length bytes) (fields_from w (suc i) (drop (entry_size w) bytes)) ≡ fields_from w i bytes
      step =
          ap (λ (x : Result Entry Fault). fields_by x (length bytes) (fields_from w (suc i) (drop (entry_size w) bytes))) (read ∙ front_reads)
          ∙ sym (fields_step w i bytes)

      pub later_fault : (begun : Bool) (x : Fault) → f ≡ Err x → refusal x ≡ number_from begun (fields_from w i bytes)
      later_fault begun x q =
          fault_by (length bytes) (fields_from w (suc i) (drop (entry_size w) bytes)) begun x some
          ∙ ap (λ (y : Result Entry Fault). number_from begun (fields_by y (length bytes) (fields_from w (suc i) (drop (entry_size w) bytes)))) (sym q)
          ∙ ap (number_from begun) step

      module _ (e : Entry) (q : f ≡ Ok e) (begun rank : Bool) (r : rank ≡ is_rank e) where
        rest_is : drop (entry_size w) bytes ≡ more
        rest_is =
            let l = whole_long w i bytes e (sym q ∙ read ∙ front_reads) in
            ap (drop (entry_size w)) parts ∙ drop_at front more (entry_size w) (omega arith)

        whole_step : number_from begun (fields_by (Ok e) (length bytes) (fields_from w (suc i) (drop (entry_size w) bytes))) ≡ number_from begun (fields_from w i bytes)
        whole_step =
            ap (λ (y : Result Entry Fault). number_from begun (fields_by y (length bytes) (fields_from w (suc i) (drop (entry_size w) bytes)))) (sym q)
            ∙ ap (number_from begun) step

        pub later_late : begun ≡ true → rank ≡ true → 18 ≡ number_from begun (fields_from w i bytes)
        later_late b h = late_by _ _ begun e b (sym r ∙ h) ∙ whole_step

        pub later_next : (begun && rank) ≡ false → number_from begun (fields_from w i bytes) ≡ number_from (not rank) (fields_from w (i + 1) more)
        later_next h =
            sym whole_step
            ∙ next_by _ _ begun e (ap (λ (b : Bool). begun && b) (sym r) ∙ h)
            ∙ ap₂ (λ (b : Bool) (l : List ℕ). number_from (not b) (fields_from w (suc i) l)) (sym r) rest_is
            ∙ ap (λ (k : ℕ). number_from (not rank) (fields_from w k more)) (sym (add-one i))
