-- The loop has passed whole entries, numbered in turn, no rank after an edit: the number of the bytes is that of those that are left.
use Rattle.std.proofs.Common.{◌≡◌, ◌+◌, ℕ, Bool, List, false, inl, inr, refl, sym, ap, ◌∙◌, arith, rules, length, min}
use Rattle.std.specs.Iterator.Adapters.{enumerate_source, enumerate_count}
use Rattle.std.specs.Slice.Iter.{chunks_rest}
use mathlib.Core.Bool.{◌&&◌}
use Rattle.journal_fields.specs.Fields.{fields_from}
use Rattle.journal_fields.proofs.Later.{number_from, later_first, later_end, later_fault, later_late, later_next, no_rank, none_begun}
use Rattle.journal_reader.proofs.read.fields_number.Goals as goal

-- the number due is the count so far and 1
due : (begun w : Bool) (i n : ℕ) (left : List ℕ) → i ≡ n → number_from begun (fields_from w (i + 1) left) ≡ number_from begun (fields_from w (n + 1) left)
due begun w i n left e = ap (λ (k : ℕ). number_from begun (fields_from w (k + 1) left)) e

pub loop-i-init : goal.loop-i-init
loop-i-init c = record {
  can_next = search rules;
  is_finite = search rules;
  size = search rules;
  number =
      let n : enumerate_count c.into_iter-i-iterator.result ≡ 0 = search rules in
      let l : chunks_rest (enumerate_source c.into_iter-i-iterator.result) ≡ c.args.bytes.now = search rules in
      rw (n, l) (later_first _ _ c.is_numbered-numbered.ensures);
}

pub returns-in-Err : goal.returns-in-Err
returns-in-Err c =
    let w = c.loop-i.invariant in
    let s = c.in-Some.ensures.steps in
    let most : length c.in-Some.field.now ≡ min _ _ = rw w.size at s.0.1.1 in
    c.refusal.ensures
    ∙ later_fault _ _ _ _ _ s.0.1.0 most s.0.1.2 _ c.in-Err.ensures _ _ refl
    ∙ due _ _ _ _ _ s.1
    ∙ sym w.number

pub returns-then-rank : goal.returns-then-rank
returns-then-rank c =
    let w = c.loop-i.invariant in
    let s = c.in-Some.ensures.steps in
    let most : length c.in-Some.field.now ≡ min _ _ = rw w.size at s.0.1.1 in
    later_late _ _ _ _ _ s.0.1.0 most s.0.1.2 _ c.in-Ok.ensures _ refl _ _ c.is_rank-rank.ensures c.if-begun.true c.if-rank.true
    ∙ due _ _ _ _ _ s.1
    ∙ sym w.number

pub loop-i-preserved : goal.loop-i-preserved
loop-i-preserved c =
    let w = c.loop-i.invariant in
    let s = c.in-Some.ensures.steps in
    let most : length c.in-Some.field.now ≡ min _ _ = rw w.size at s.0.1.1 in
    let none : (c.loop-i.begun && c.is_rank-rank.result) ≡ false = elim c.else-begun.either [ inl h ↦ no_rank _ _ h.1 | inr h ↦ none_begun _ _ h ] in
    let n : c.in-Some.i + 1 ≡ enumerate_count c.next.new.self = omega (arith, s.1, s.2) in
    record {
      can_next = search rules;
      is_finite = search rules;
      size = s.0.0 ∙ w.size;
      number =
          w.number
          ∙ sym (due _ _ _ _ _ s.1)
          ∙ later_next _ _ _ _ _ s.0.1.0 most s.0.1.2 _ c.in-Ok.ensures _ refl _ _ c.is_rank-rank.ensures none
          ∙ due _ _ _ _ _ n;
    }

pub returns : goal.returns
returns c = later_end _ _ _ _ c.in-None.ensures.steps.0.1.0 ∙ sym c.loop-i.invariant.number
