-- Entries written into a new journal, some and then others.
use mathlib.Core.Bool.{true}
use mathlib.Core.List.{List, [], ◌∷◌, ◌++◌, append-nil}
use mathlib.Core.Path.{◌≡◌, sym, ap, ◌∙◌, subst}
use Prim.Native.Nat.{ℕ, suc, ◌+◌, ◌≤◌}
use native.Mathlib.Numerals.{add-one}
use native.Mathlib.Omega.{arith}
use lib.ListN.{length, length-append}
use Rattle.rule.specs.declared.Entry.{Entry}
use Rattle.text.specs.Places.{put, Puts}
use Rattle.text.proofs.Putting.{puts_none, puts_then}
use Rattle.journal_fields.specs.Fields.{entry_bytes, entries_bytes}
use Rattle.journal_fields.proofs.Entries.{length_entries, entries_append}
use Rattle.journal.specs.inner.Adds.{place_of, PutsEntries, Fit}

-- entries as the text that they are
pub as_text : {es : List Entry} {k : ℕ} {out : List ℕ} {r : ℕ} {out' : List ℕ} → PutsEntries es k out r out'
    → Puts (entries_bytes true (suc k) es) (place_of k) out (place_of r) out'
as_text {es} {k} p = record { next = omega (arith, p.next, length_entries true (suc k) es); left = p.left }

pub of_text-law : {es : List Entry} {k : ℕ} {out : List ℕ} {r : ℕ} {out' : List ℕ} → Puts (entries_bytes true (suc k) es) (place_of k) out (place_of r) out'
    → PutsEntries es k out r out'
of_text-law {es} {k} p = record { next = omega (arith, p.next, length_entries true (suc k) es); left = p.left }

pub entries_none : (es : List Entry) (k : ℕ) (out : List ℕ) → es ≡ [] → PutsEntries es k out k out
unfolding entries_bytes
entries_none es k out e = subst (λ (l : List Entry). PutsEntries l k out k out) (sym e) (of_text-law (puts_none (place_of k) out))

pub entries_one : (e : Entry) (k : ℕ) (out : List ℕ) (r : ℕ) (out' : List ℕ) → Puts (entry_bytes true (k + 1) e) (place_of k) out r out'
    → PutsEntries (e ∷ []) k out (k + 1) out'
unfolding entries_bytes
entries_one e k out r out' p =
    let b : entry_bytes true (k + 1) e ≡ entries_bytes true (suc k) (e ∷ []) =
    ap (λ (i : ℕ). entry_bytes true i e) (add-one k) ∙ sym (append-nil (entry_bytes true (suc k) e)) in
    record { next = omega arith; left = p.left ∙ ap (λ (l : List ℕ). put l (place_of k) out) b }

-- some, then others
pub entries_then : (es fs : List Entry) (k : ℕ) (out : List ℕ) → Fit (es ++ fs) k out → (r₁ r₂ : ℕ) (out₁ out₂ : List ℕ) → PutsEntries es k out r₁ out₁
    → PutsEntries fs r₁ out₁ r₂ out₂ → PutsEntries (es ++ fs) k out r₂ out₂
entries_then es fs k out fit r₁ r₂ out₁ out₂ p q =
    let n : suc r₁ ≡ suc k + length es = omega (arith, p.next) in
    let l = length_entries true (suc k) es in
    let l' = length_entries true (suc r₁) fs in
    let a : entries_bytes true (suc k) es ++ entries_bytes true (suc r₁) fs ≡ entries_bytes true (suc k) (es ++ fs) =
    ap (λ (i : ℕ). entries_bytes true (suc k) es ++ entries_bytes true i fs) n ∙ sym (entries_append true (suc k) es fs) in
    of_text-law
    (subst (λ (t : List ℕ). Puts t (place_of k) out (place_of r₂) out₂) a
    (puts_then (entries_bytes true (suc k) es) (entries_bytes true (suc r₁) fs) (place_of k) out (omega (arith, l, l', length-append es fs, fit.inside))
    (place_of r₁) (place_of r₂) out₁ out₂ (as_text p) (as_text q)))

-- room for the first of them, and after these for others
pub fit_fewer : (es fs : List Entry) (k : ℕ) (out : List ℕ) → length es ≤ length fs → Fit fs k out → Fit es k out
fit_fewer es fs k out h f = record { inside = omega (arith, f.inside); few = omega (arith, f.few) }

pub fit_after : (es fs gs : List Entry) (k r : ℕ) (out out' : List ℕ) → length es + length fs ≤ length gs → Fit gs k out
    → PutsEntries es k out r out' → length out' ≡ length out → Fit fs r out'
fit_after es fs gs k r out out' h f p l = record { inside = omega (arith, f.inside, p.next); few = omega (arith, f.few, p.next) }
