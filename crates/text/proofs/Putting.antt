-- One text after another in a slice.
use mathlib.Core.List.{List, [], ◌∷◌, ◌++◌, append_assoc}
use mathlib.Core.Path.{◌≡◌, refl, sym, ap, ◌∙◌}
use Prim.Native.Nat.{ℕ, ◌+◌, ◌-◌, ◌≤◌, ◌<◌}
use native.Mathlib.Nat.{add-zero, zero-add}
use native.Mathlib.Numerals.{add-one}
use native.Mathlib.Omega.{arith}
use lib.ListN.{length, take, drop, set, length-append, take-append-drop}
use lib.Seq.{length-take-le, take_at, drop-append-add, drop-drop, set_split}
use borrow.Rule.Slice.PartMut.{put_mid}
use Rattle.text.specs.Places.{put, Puts}

-- no text
pub puts_none : (at : ℕ) (out : List ℕ) → Puts [] at out at out
unfolding put
puts_none at out = record { next = sym (add-zero at); left = sym (rw (add-zero at) (take-append-drop at out)) }

-- a part of the slice that was written whole
pub puts_part : (text : List ℕ) (at e : ℕ) (out : List ℕ) → e ≡ at + length text → Puts text at out e (put_mid at (e - at) out text)
unfolding put
puts_part text at e out h =
    let long : e - at ≡ length text = omega arith in
    record { next = h; left = rw (long, drop-drop (length text) at out) refl }

-- one byte
pub puts_one : (v at : ℕ) (out : List ℕ) → at < length out → Puts (v ∷ []) at out (at + 1) (set out at v)
unfolding put
puts_one v at out h = record { next = refl; left = rw (add-one at) (set_split out at v h) }

module _ (a b : List ℕ) (at : ℕ) (out : List ℕ) (room : at + (length a + length b) ≤ length out) where
  start : List ℕ
  start = take at out ++ a

  length_start : length start ≡ at + length a
  unfolding start
  length_start =
      let h : at ≤ length out = omega arith in
      length-append (take at out) a ∙ ap (λ (n : ℕ). n + length a) (length-take-le at out h)

  put_start : put a at out ≡ start ++ drop (at + length a) out
  unfolding put start
  put_start = sym (append_assoc (take at out) a (drop (at + length a) out))

  rest : drop (at + length a + length b) (start ++ drop (at + length a) out) ≡ drop (at + length (a ++ b)) out
  rest =
      let e : at + length a + length b ≡ length start + length b = ap (λ (n : ℕ). n + length b) (sym length_start) in
      let f : at + length a + length b ≡ at + length (a ++ b) = omega (arith, length-append a b) in
      ap (λ (n : ℕ). drop n (start ++ drop (at + length a) out)) e
      ∙ drop-append-add start (drop (at + length a) out) (length b)
      ∙ drop-drop (length b) (at + length a) out
      ∙ ap (λ (n : ℕ). drop n out) f

  put_put : put b (at + length a) (put a at out) ≡ put (a ++ b) at out
  unfolding put start
  put_put =
      ap (λ (l : List ℕ). take (at + length a) l ++ (b ++ drop (at + length a + length b) l)) put_start
      ∙ ap (λ (l : List ℕ). l ++ (b ++ drop (at + length a + length b) (start ++ drop (at + length a) out)))
      (take_at start (drop (at + length a) out) (at + length a) length_start)
      ∙ ap (λ (l : List ℕ). start ++ (b ++ l)) rest
      ∙ append_assoc (take at out) a (b ++ drop (at + length (a ++ b)) out)
      ∙ ap (λ (l : List ℕ). take at out ++ l) (sym (append_assoc a b (drop (at + length (a ++ b)) out)))

  -- one text, then another
  pub puts_then : (r₁ r₂ : ℕ) (out₁ out₂ : List ℕ) → Puts a at out r₁ out₁ → Puts b r₁ out₁ r₂ out₂ → Puts (a ++ b) at out r₂ out₂
  puts_then r₁ r₂ out₁ out₂ p q =
      let e : r₂ ≡ r₁ + length b = q.next in
      let f : r₁ ≡ at + length a = p.next in
      record {
        next = omega (arith, length-append a b);
        left = q.left ∙ ap (λ (l : List ℕ). put b r₁ l) p.left ∙ ap (λ (n : ℕ). put b n (put a at out)) f ∙ put_put;
      }

-- three texts
pub puts_three : (a b c : List ℕ) (at : ℕ) (out : List ℕ) → at + (length a + (length b + length c)) ≤ length out
    → (r₁ r₂ r₃ : ℕ) (out₁ out₂ out₃ : List ℕ) → length out₁ ≡ length out
    → Puts a at out r₁ out₁ → Puts b r₁ out₁ r₂ out₂ → Puts c r₂ out₂ r₃ out₃ → Puts (a ++ (b ++ c)) at out r₃ out₃
puts_three a b c at out room r₁ r₂ r₃ out₁ out₂ out₃ e p q s =
    let f : r₁ ≡ at + length a = p.next in
    let g : length (b ++ c) ≡ length b + length c = length-append b c in
    puts_then a (b ++ c) at out (omega arith) r₁ r₃ out₁ out₃ p (puts_then b c r₁ out₁ (omega arith) r₂ r₃ out₂ out₃ q s)

-- at the front
pub put_front : (text out : List ℕ) → put text 0 out ≡ text ++ drop (length text) out
unfolding put
put_front text out = ap (λ (n : ℕ). text ++ drop n out) (zero-add (length text))
