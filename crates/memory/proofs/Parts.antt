-- A slice of which a part was lent and came back: the part is put into its middle.
use mathlib.Core.List.{List, ◌++◌}
use mathlib.Core.Path.{◌≡◌, sym, ap, ◌∙◌}
use Prim.Native.Nat.{ℕ, ◌+◌, ◌-◌, ◌<◌, ◌≤◌}
use native.Mathlib.Omega.{arith}
use lib.ListN.{length, get_or, take, length-take, get_or-append}
use lib.Seq.{get_or-take, get_or-drop, get_or-append-add}
use borrow.Rule.Slice.PartMut.{put_mid, post_of, take_put, drop_put}

module _ (a e : ℕ) (xs ys : List ℕ) (le : a ≤ e) (within : e ≤ length xs) (same : length ys ≡ e - a) where
  pub put_below : (j : ℕ) → j < a → get_or (put_mid a (e - a) xs ys) j 0 ≡ get_or xs j 0
  put_below j l =
      sym (get_or-take a (put_mid a (e - a) xs ys) j 0 l)
      ∙ ap (λ (zs : List ℕ). get_or zs j 0) (take_put a (e - a) xs ys (omega arith)) ∙ get_or-take a xs j 0 l

  pub put_in : (j : ℕ) → j < e - a → get_or (put_mid a (e - a) xs ys) (a + j) 0 ≡ get_or ys j 0
  put_in j l =
      let long : length (take a xs) ≡ a = omega (arith, length-take a xs) in
      rw long at (get_or-append-add (take a xs) (ys ++ post_of a (e - a) xs) j 0) ∙ get_or-append ys (post_of a (e - a) xs) 0 j (omega arith)

  pub put_above : (j : ℕ) → e ≤ j → get_or (put_mid a (e - a) xs ys) j 0 ≡ get_or xs j 0
  put_above j l =
      let s : e + (j - e) ≡ j = omega arith in
      rw s at (sym (get_or-drop e (put_mid a (e - a) xs ys) (j - e) 0) ∙ ap (λ (zs : List ℕ). get_or zs (j - e) 0) (drop_put a e xs ys le within same) ∙ get_or-drop e xs (j - e) 0)
