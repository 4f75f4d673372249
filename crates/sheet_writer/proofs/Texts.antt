-- The text of lines by the wave cells, bank by bank and line by line.
use mathlib.Core.Bool.{Bool, true, false, cond}
use mathlib.Core.List.{List, [], ◌∷◌, ◌++◌, map, append-nil}
use mathlib.Core.Path.{◌≡◌, refl, sym, ap, ◌∙◌}
use Prim.Native.Nat.{ℕ, zero, suc, ◌+◌, ◌≤◌, ◌<◌}
use native.Mathlib.Omega.{arith}
use lib.Dec.{eqb}
use lib.ListN.{length, get_or, length-append}
use borrow.Author.Tests.{eq-eqb, ne_eqb}
use Rattle.rule.specs.Lists.{upto, filter}
use Rattle.rule.proofs.Lists.{filter_append}
use Rattle.text.specs.Text.{joined}
use Rattle.text.specs.Numbers.{decimal}
use Rattle.text.proofs.Joined.{texts_append, texts_next, texts_more, texts_room}
use Rattle.wave_lines.specs.inner.Cells.{members_of}
use Rattle.wave_lines.specs.Foot.{foot_text}
use Rattle.sheet_writer.specs.Sheet.{bank_text, line_text, head_text, last_text}
use Rattle.sheet_writer.specs.inner.Cells.{member_text, members_text, sheet_wave, sheet_waves}

-- bank b on the line of wave c, or not
module _ (w c b : ℕ) where
  pub member_same : w ≡ c → member_text w c b ≡ (32 ∷ []) ++ decimal b
  unfolding member_text bank_text
  member_same e = rw (eq-eqb w c e)

  pub member_other : (w ≡ c → ⊥) → member_text w c b ≡ []
  unfolding member_text
  member_other n = rw (ne_eqb w c n)

one_member : (w c b : ℕ) → joined (map bank_text (cond (eqb w c) (b ∷ []) [])) ≡ member_text w c b
unfolding member_text joined
one_member w c b = go (eqb w c)
  where
    go : (t : Bool) → joined (map bank_text (cond t (b ∷ []) [])) ≡ cond t (bank_text b) []
    go true = append-nil (bank_text b)
    go false = refl

-- the banks of a line are texts of all banks, empty for those of other waves
members_are : (ws : List ℕ) (c n : ℕ) → members_text ws c n ≡ joined (map (λ b. member_text (get_or ws b 0) c b) (upto n))
unfolding members_text members_of upto filter joined
members_are ws c zero = refl
members_are ws c (suc n) =
    let p : ℕ → Bool = λ b. eqb (get_or ws b 0) c in
    ap (λ (l : List ℕ). joined (map bank_text l)) (filter_append p (upto n) (n ∷ []))
    ∙ texts_append bank_text (filter p (upto n)) (cond (p n) (n ∷ []) [])
    ∙ ap (λ (l : List ℕ). joined (map bank_text (filter p (upto n))) ++ l) (one_member (get_or ws n 0) c n)
    ∙ ap (λ (l : List ℕ). l ++ member_text (get_or ws n 0) c n) (members_are ws c n)
    ∙ sym (texts_next (λ b. member_text (get_or ws b 0) c b) n)

module _ (ws : List ℕ) (c b : ℕ) where
  abbrev text : ℕ → List ℕ
  text b = member_text (get_or ws b 0) c b

  pub members_next : members_text ws c (b + 1) ≡ members_text ws c b ++ member_text (get_or ws b 0) c b
  members_next = members_are ws c (b + 1) ∙ texts_more text b ∙ ap (λ (l : List ℕ). l ++ text b) (sym (members_are ws c b))

  -- where there is room for n banks, there is for the next
  pub members_room : (n : ℕ) → b < n → length (members_text ws c b) + length (member_text (get_or ws b 0) c b) ≤ length (members_text ws c n)
  members_room n h = omega (arith, texts_room text b n h, ap length (members_are ws c b), ap length (members_are ws c n))

pub members_none : (ws : List ℕ) (c : ℕ) → members_text ws c 0 ≡ []
unfolding members_text members_of upto filter joined
members_none ws c = refl

module _ (ws : List ℕ) (n c : ℕ) where
  pub waves_next : sheet_waves ws n (c + 1) ≡ sheet_waves ws n c ++ sheet_wave ws n c
  unfolding sheet_waves
  waves_next = texts_more (sheet_wave ws n) c

  pub waves_room : (k : ℕ) → c < k → length (sheet_waves ws n c) + length (sheet_wave ws n c) ≤ length (sheet_waves ws n k)
  unfolding sheet_waves
  waves_room k h = texts_room (sheet_wave ws n) c k h

pub waves_none : (ws : List ℕ) (n : ℕ) → sheet_waves ws n 0 ≡ []
unfolding sheet_waves upto joined
waves_none ws n = refl

pub length_wave : (ws : List ℕ) (n c : ℕ) → length (sheet_wave ws n c) ≡ 1 + (length (members_text ws c n) + 1)
unfolding sheet_wave line_text members_text
length_wave ws n c = omega (arith, length-append (members_text ws c n) (10 ∷ []))

pub length_head : (k : ℕ) → length (head_text k) ≡ 6 + (length (decimal k) + 1)
unfolding head_text
length_head k = omega (arith, length-append (decimal k) (10 ∷ []))

pub length_last : (n m : ℕ) → length (last_text n m) ≡ length (foot_text n m) + 1
unfolding last_text
length_last n m = length-append (foot_text n m) (10 ∷ [])
