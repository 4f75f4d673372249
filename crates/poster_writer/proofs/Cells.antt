-- The lines of the waves by the wave cells, wave by wave.
use mathlib.Core.List.{List, [], ◌∷◌, ◌++◌, map, flat_map, append_assoc, append-nil}
use mathlib.Core.Path.{◌≡◌, refl, sym, ap, ◌∙◌}
use Prim.Native.Nat.{ℕ, ◌+◌, ◌≤◌, ◌<◌}
use native.Mathlib.Numerals.{add-one}
use lib.ListN.{length, length-append}
use Rattle.rule.specs.Lists.{upto}
use Rattle.text.specs.Text.{joined}
use Rattle.text.proofs.Joined.{joined_append, texts_more, texts_room}
use Rattle.wave_lines.specs.inner.Cells.{members_of}
use Rattle.poster_lines.specs.inner.Lines.{lines_with}
use Rattle.poster_writer.specs.inner.Cells.{poster_wave, poster_waves, cell_lines}

flat_map_append : {A : Type 0} (f : ℕ → List A) (xs ys : List ℕ) → flat_map f (xs ++ ys) ≡ flat_map f xs ++ flat_map f ys
unfolding flat_map
flat_map_append f [] ys = refl
flat_map_append {A} f (x ∷ xs) ys = ap (λ (l : List A). f x ++ l) (flat_map_append f xs ys) ∙ sym (append_assoc (f x) (flat_map f xs) (flat_map f ys))

joined_flat_map : (f : ℕ → List (List ℕ)) (xs : List ℕ) → joined (flat_map f xs) ≡ joined (map (λ x. joined (f x)) xs)
unfolding flat_map joined
joined_flat_map f [] = refl
joined_flat_map f (x ∷ xs) = joined_append (f x) (flat_map f xs) ∙ ap (λ (l : List ℕ). joined (f x) ++ l) (joined_flat_map f xs)

module _ (ws : List ℕ) (n : ℕ) where
  pub count_none : length (cell_lines ws n 0) ≡ 0
  unfolding cell_lines upto flat_map
  count_none = refl

  pub count_next : (c : ℕ) → length (cell_lines ws n (c + 1)) ≡ length (cell_lines ws n c) + length (lines_with c (members_of ws c n))
  unfolding cell_lines upto flat_map
  count_next c =
      let lines : ℕ → List (List ℕ) = λ c. lines_with c (members_of ws c n) in
      ap (λ (k : ℕ). length (flat_map lines (upto k))) (add-one c)
      ∙ ap length (flat_map_append lines (upto c) (c ∷ []) ∙ ap (λ (l : List (List ℕ)). flat_map lines (upto c) ++ l) (append-nil (lines c)))
      ∙ length-append (flat_map lines (upto c)) (lines c)

  pub waves_none : poster_waves ws n 0 ≡ []
  unfolding poster_waves upto joined
  waves_none = refl

  pub waves_next : (c : ℕ) → poster_waves ws n (c + 1) ≡ poster_waves ws n c ++ poster_wave ws n c
  unfolding poster_waves
  waves_next c = texts_more (poster_wave ws n) c

  pub waves_room : (c k : ℕ) → c < k → length (poster_waves ws n c) + length (poster_wave ws n c) ≤ length (poster_waves ws n k)
  unfolding poster_waves
  waves_room c k h = texts_room (poster_wave ws n) c k h

  -- the text of the waves is that of their lines
  pub text_is : (k : ℕ) → poster_waves ws n k ≡ joined (cell_lines ws n k)
  unfolding poster_waves poster_wave cell_lines
  text_is k = sym (joined_flat_map (λ c. lines_with c (members_of ws c n)) (upto k))
