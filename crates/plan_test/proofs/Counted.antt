-- What counts of cells tell: how many of a row hold UNUSED, where none of the first does, and how many of two parts are equal.
use Rattle.std.proofs.Common.{arith, Bool, true, false, ℕ, zero, suc, ◌≡◌, ◌+◌, ◌<◌, ◌≤◌, List, length, get_or, take, refl, sym, ap, ◌∙◌}
use Rattle.std.specs.List.{count_by}
use Rattle.std.proofs.lemmas.List.Sums.{count_by_more_yes, count_by_more_no}
use mir.Val.{bool_byte}
use native.Mathlib.Decide.{ℕ_discrete}
use lib.Dec.{T, eqb, eqb→eq}
use Rattle.std.proofs.Common.{◌-◌, IsTrue, ◌↔◌}
use Rattle.std.proofs.lemmas.Bool.{false≢true}
use Rattle.std.proofs.lemmas.List.{take_all}
use Rattle.rule.proofs.Booleans.{is_true, is_false, eq→eqb}

abbrev pub is_unused : ℕ → Bool
is_unused c = eqb c 65535

pub counted_next : (xs : List ℕ) (i n : ℕ) (t : Bool) → i < length xs → is_unused (get_or xs i 0) ≡ t → n ≡ count_by is_unused (take i xs)
    → n + bool_byte t ≡ count_by is_unused (take (i + 1) xs)
counted_next xs i n true l e s = omega (arith, s, count_by_more_yes is_unused xs i 0 l e)
counted_next xs i n false l e s = omega (arith, s, count_by_more_no is_unused xs i 0 l e)

t_of : (b : Bool) → b ≡ true → T b
t_of true e = tt
t_of false e = absurd (false≢true e)

module _ (xs : List ℕ) (n : ℕ) (none : (i : ℕ) → i < n → get_or xs i 0 ≡ 65535 → ⊥) where
  unused_no : (i : ℕ) → i < n → is_unused (get_or xs i 0) ≡ false
  unused_no i l = is_false (is_unused (get_or xs i 0)) (λ t. none i l (eqb→eq (get_or xs i 0) 65535 t))

  first : (j : ℕ) → j ≤ n → n ≤ length xs → count_by is_unused (take j xs) ≡ 0
  first zero l m = refl
  first (suc j) l m =
      let e : suc j ≡ j + 1 = omega arith in
      rw e (count_by_more_no is_unused xs j 0 (omega arith) (unused_no j (omega arith)) ∙ first j (omega arith) m)

  -- of the k cells after the first at most k hold UNUSED, and k only if all do
  record Rest (k : ℕ) : Type 0 where
    pub few : count_by is_unused (take (n + k) xs) ≤ k
    pub all : count_by is_unused (take (n + k) xs) ≡ k → (i : ℕ) → n ≤ i → i < n + k → get_or xs i 0 ≡ 65535
    pub back : ((i : ℕ) → n ≤ i → i < n + k → get_or xs i 0 ≡ 65535) → count_by is_unused (take (n + k) xs) ≡ k

  next : (k : ℕ) → n + k < length xs → Rest k → (t : Bool) → is_unused (get_or xs (n + k) 0) ≡ t → Rest (k + 1)
  next k l so_far true e =
      let more : count_by is_unused (take (n + (k + 1)) xs) ≡ count_by is_unused (take (n + k) xs) + 1 =
      (let s : n + (k + 1) ≡ n + k + 1 = omega arith in rw s (count_by_more_yes is_unused xs (n + k) 0 l e)) in
      let here : get_or xs (n + k) 0 ≡ 65535 = eqb→eq (get_or xs (n + k) 0) 65535 (t_of (is_unused (get_or xs (n + k) 0)) e) in
      record {
        few = omega (arith, more, so_far.few);
        all = λ q i from to.
            elim (ℕ_discrete i (n + k)) [
              | yes s ↦ rw s here
              | no d ↦ so_far.all (omega (arith, more, q)) i from (omega (arith, d))
            ];
        back = λ f. omega (arith, more, so_far.back (λ i from to. f i from (omega arith)));
      }
  next k l so_far false e =
      let same : count_by is_unused (take (n + (k + 1)) xs) ≡ count_by is_unused (take (n + k) xs) =
      (let s : n + (k + 1) ≡ n + k + 1 = omega arith in rw s (count_by_more_no is_unused xs (n + k) 0 l e)) in
      record {
        few = omega (arith, same, so_far.few);
        all = λ q. absurd (omega (arith, same, q, so_far.few));
        back = λ f. absurd (false≢true (sym e ∙ is_true (is_unused (get_or xs (n + k) 0)) (eq→eqb (get_or xs (n + k) 0) 65535 (f (n + k) (omega arith) (omega arith)))));
      }

  rest : (k : ℕ) → n + k ≤ length xs → Rest k
  rest zero l =
      let s : n + 0 ≡ n = omega arith in
      let none_yet : count_by is_unused (take (n + 0) xs) ≡ 0 = rw s (first n (omega arith) (omega arith)) in
      record { few = omega (arith, none_yet); all = λ q i from to. absurd (omega arith); back = λ f. none_yet }
  rest (suc k) l = let s : suc k ≡ k + 1 = omega arith in rw s (next k (omega arith) (rest k (omega arith)) (is_unused (get_or xs (n + k) 0)) refl)

  -- what `rest_unused` counts
  pub unused_is : (u : ℕ) → n ≤ 23 → length xs ≡ 23 → u ≡ count_by is_unused xs
      → IsTrue (eqb (n + u) 23) ↔ ((i : ℕ) → n ≤ i → i < 23 → get_or xs i 0 ≡ 65535)
  unused_is u few long e =
      let s : n + (23 - n) ≡ 23 = omega arith in
      let all : take 23 xs ≡ xs = take_all 23 xs (omega (arith, long)) in
      let r : Rest (23 - n) = rest (23 - n) (omega (arith, long)) in
      let count : u ≡ count_by is_unused (take (n + (23 - n)) xs) = e ∙ ap (count_by is_unused) (sym (ap (λ k. take k xs) s ∙ all)) in (
        λ t i from to. r.all (sym count ∙ omega (arith, eqb→eq (n + u) 23 (t_of (eqb (n + u) 23) t))) i from (omega (arith, s)),
        λ f. is_true (eqb (n + u) 23) (eq→eqb (n + u) 23 (ap (λ k. n + k) (count ∙ r.back (λ i from to. f i from (omega (arith, s)))) ∙ s)),
      )

module _ (xs ys : List ℕ) where
  abbrev pub Same : ℕ → Type 0
  Same k = (i : ℕ) → i < k → get_or xs i 0 ≡ get_or ys i 0

  -- of the first k pairs of cells u are equal: at most k, and k only if all are
  pub record Equals (u k : ℕ) : Type 0 where
    pub few : u ≤ k
    pub all : u ≡ k → Same k
    pub back : Same k → u ≡ k

  pub equal_next : (u k : ℕ) (t : Bool) → eqb (get_or xs k 0) (get_or ys k 0) ≡ t → Equals u k → Equals (u + bool_byte t) (k + 1)
  equal_next u k true e so_far =
      let here : get_or xs k 0 ≡ get_or ys k 0 = eqb→eq (get_or xs k 0) (get_or ys k 0) (t_of (eqb (get_or xs k 0) (get_or ys k 0)) e) in
      record {
        few = omega (arith, so_far.few);
        all = λ q i to.
            elim (ℕ_discrete i k) [
              | yes s ↦ rw s here
              | no d ↦ so_far.all (omega (arith, q)) i (omega (arith, d))
            ];
        back = λ f. omega (arith, so_far.back (λ i to. f i (omega arith)));
      }
  equal_next u k false e so_far =
      record {
        few = omega (arith, so_far.few);
        all = λ q. absurd (omega (arith, q, so_far.few));
        back = λ f. absurd (false≢true (sym e ∙ is_true (eqb (get_or xs k 0) (get_or ys k 0)) (eq→eqb (get_or xs k 0) (get_or ys k 0) (f k (omega arith)))));
      }

  -- what `cells_equal` counts
  pub equal_is : (u : ℕ) → Equals u 24 → IsTrue (eqb u 24) ↔ Same 24
  equal_is u r = (λ t. r.all (eqb→eq u 24 (t_of (eqb u 24) t)), λ f. is_true (eqb u 24) (eq→eqb u 24 (r.back f)))
