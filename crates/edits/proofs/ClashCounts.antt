-- The number of clashes after an edit.
use mathlib.Core.List.{List, [], ◌∷◌, ◌++◌, foldr}
use mathlib.Core.Logic.{◌≢◌}
use mathlib.Core.Path.{◌≡◌, refl, sym, ap, ◌∙◌}
use Prim.Native.Nat.{ℕ, zero, suc, ◌+◌, ◌*◌, ◌≤◌, ◌<◌}
use native.Mathlib.Decide.{ℕ_discrete}
use native.Mathlib.Numerals.{lt_of_le_of_ne}
use native.Mathlib.Omega.{arith}
use lib.Dec.{T, eqb}
use Rattle.rule.specs.Lists.{upto}
use Rattle.rule.specs.Graph.{Graph, degree, added, struck}
use Rattle.rule.specs.Reach.{edited}
use Rattle.rule.specs.declared.Kind.{Kind}
use Rattle.rule.specs.declared.Kind.TheVariants.{Adding, Striking}
use Rattle.rule.proofs.Booleans.{t_along}
use Rattle.rule.proofs.OneClash.{degrees_more, degrees_less, degree_added, degree_struck}
use Rattle.memory.specs.declared.Tally.{Tally}
use Rattle.memory.specs.Plan.{clash_count, tally_of}
use Rattle.memory.proofs.Standing.{bit, bit_yes, bit_no}
use Rattle.memory.specs.Memory.{Memory}
use Rattle.edits.specs.Edits.{Editable}
use Rattle.edits.specs.inner.Change.{NumberFits, number_after}

sum : (ℕ → ℕ) → ℕ → ℕ
sum f zero = 0
sum f (suc n) = sum f n + f n

fold_snoc : (f : ℕ → ℕ) (y : ℕ) (xs : List ℕ) → foldr (λ b m. f b + m) 0 (xs ++ (y ∷ [])) ≡ foldr (λ b m. f b + m) 0 xs + f y
fold_snoc f y [] = omega arith
fold_snoc f y (x ∷ xs) = omega (arith, fold_snoc f y xs)

sum_is : (f : ℕ → ℕ) (n : ℕ) → foldr (λ b m. f b + m) 0 (upto n) ≡ sum f n
unfolding sum upto
sum_is f zero = refl
sum_is f (suc n) = omega (arith, fold_snoc f n (upto n), sum_is f n)

sum_cong : (f g : ℕ → ℕ) (n : ℕ) → ((x : ℕ) → x < n → f x ≡ g x) → sum f n ≡ sum g n
unfolding sum
sum_cong f g zero h = refl
sum_cong f g (suc n) h = omega (arith, sum_cong f g n (λ x l. h x (omega arith)), h n (omega arith))

sum_le : (f : ℕ → ℕ) (n : ℕ) → ((x : ℕ) → x < n → f x ≤ 23) → sum f n ≤ n * 23
unfolding sum
sum_le f zero h = omega arith
sum_le f (suc n) h = omega (arith, sum_le f n (λ x l. h x (omega arith)), h n (omega arith))

-- one more at a
sum_one : (f g : ℕ → ℕ) (a n : ℕ) → a < n → f a ≡ g a + 1 → ((x : ℕ) → x ≢ a → f x ≡ g x) → sum f n ≡ sum g n + 1
unfolding sum
sum_one f g a zero l e h = absurd (omega arith)
sum_one f g a (suc n) l e h = go (ℕ_discrete n a) (λ k. sum_one f g a n k e h)
  where
    go : Dec (n ≡ a) → (a < n → sum f n ≡ sum g n + 1) → sum f n + f n ≡ sum g n + g n + 1
    go (yes d) more =
        let p : f n ≡ g n + 1 = rw d e in
        omega (arith, sum_cong f g n (λ x k. h x (λ r. omega arith)))
    go (no d) more = omega (arith, more (lt_of_le_of_ne (omega arith) (λ e. d (sym e))), h n d)

-- one more at a and at b
sum_two : (f g : ℕ → ℕ) (a b n : ℕ) → a ≢ b → a < n → b < n → f a ≡ g a + 1 → f b ≡ g b + 1 → ((x : ℕ) → x ≢ a → x ≢ b → f x ≡ g x) → sum f n ≡ sum g n + 2
sum_two f g a b n ne la lb ea eb others =
    omega (
      arith,
      sum_one f (λ x. g x + bit (eqb x b)) a n la (omega (arith, bit_no a b ne)) first,
      sum_one (λ x. g x + bit (eqb x b)) g b n lb (omega (arith, bit_yes b b refl)) (λ x d. omega (arith, bit_no x b d)),
    )
  where
    first : (x : ℕ) → x ≢ a → f x ≡ g x + bit (eqb x b)
    first x d = go (ℕ_discrete x b)
      where
        go : Dec (x ≡ b) → f x ≡ g x + bit (eqb x b)
        go (yes e) = rw e (omega (arith, eb, bit_yes b b refl))
        go (no k) = omega (arith, others x d k, bit_no x b k)

-- degrees that are one more at a and at b
counts_more : (G H : Graph) (a b : ℕ) → G.banks ≡ H.banks → a ≢ b → a < H.banks → b < H.banks → degree H a ≡ degree G a + 1 → degree H b ≡ degree G b + 1
    → ((x : ℕ) → x ≢ a → x ≢ b → degree H x ≡ degree G x) → clash_count H ≡ clash_count G + 1
unfolding clash_count
counts_more G H a b banks ne la lb ea eb others =
    let s = sum_is (degree G) G.banks in
    let t = sum_is (degree H) H.banks in
    let u : sum (degree G) G.banks ≡ sum (degree G) H.banks = ap (sum (degree G)) banks in
    let v = sum_two (degree H) (degree G) a b H.banks ne la lb ea eb others in
    omega arith

few_clashes : (G : Graph) → G.banks ≤ 1024 → ((x : ℕ) → x < G.banks → degree G x ≤ 23) → clash_count G ≤ 11776
unfolding clash_count
few_clashes G l h = omega (arith, sum_is (degree G) G.banks, sum_le (degree G) G.banks h)

tally_clashes : (G : Graph) {t : Tally} → t ≡ tally_of t.cap G → t.clashes ≡ clash_count G
unfolding tally_of
tally_clashes G e = ap (λ (u : Tally). u.clashes) e

-- the tally's number, before an edit and after
module _ {G : Graph} {m : Memory} {a b : ℕ} where
  clashes_more : Editable Adding G m a b → m.tally.clashes + 1 ≡ clash_count (edited Adding G a b)
  unfolding edited
  clashes_more ed =
      let ac = ed.acceptable in
      let back : T (G.clash b a) → ⊥ = λ t. ac.allowed (t_along (ed.ready.plan.clashes.symmetric b a ac.bank_b ac.bank_a) t) in
      let d = degrees_more G a b ac.bank_a ac.bank_b ac.differ ac.allowed back in
      let more = counts_more G (added G a b) a b refl ac.differ ac.bank_a ac.bank_b d.0 d.1 (degree_added G a b) in
      omega (arith, tally_clashes G ed.ready.plan.tally, more)

  clashes_less : Editable Striking G m a b → m.tally.clashes ≡ clash_count (edited Striking G a b) + 1
  unfolding edited
  clashes_less ed =
      let ac = ed.acceptable in
      let back = t_along (ed.ready.plan.clashes.symmetric a b ac.bank_a ac.bank_b) ac.allowed in
      let d = degrees_less G a b ac.bank_a ac.bank_b ac.differ ac.allowed back in
      let same : (x : ℕ) → x ≢ a → x ≢ b → degree G x ≡ degree (struck G a b) x = λ x da db. sym (degree_struck G a b x da db) in
      tally_clashes G ed.ready.plan.tally ∙ counts_more (struck G a b) G a b refl ac.differ ac.bank_a ac.bank_b d.0 d.1 same

  pub number_fits : {k : Kind} → Editable k G m a b → NumberFits k m.tally.clashes
  number_fits {k} ed = go k ed
    where
      go : (k : Kind) → Editable k G m a b → NumberFits k m.tally.clashes
      go Adding ed =
          let cl = ed.ready.plan.clashes in
          omega (arith, tally_clashes G ed.ready.plan.tally, few_clashes G cl.most cl.few)
      go Striking ed = omega (arith, clashes_less ed)

  pub clashes_after : {k : Kind} → Editable k G m a b → number_after k m.tally.clashes ≡ clash_count (edited k G a b)
  clashes_after {k} ed = go k ed
    where
      go : (k : Kind) → Editable k G m a b → number_after k m.tally.clashes ≡ clash_count (edited k G a b)
      go Adding ed = clashes_more ed
      go Striking ed = omega (arith, clashes_less ed)
