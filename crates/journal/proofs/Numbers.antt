-- The journals that our calls wrote: numbered, and the edit with number i is the i-th entry.
use mathlib.Core.Bool.{true}
use mathlib.Core.List.{List, [], ◌∷◌, ◌++◌, append_assoc, append-nil}
use mathlib.Core.Path.{◌≡◌, refl, sym, ap, ap₂, ◌∙◌, subst}
use Prim.Native.Nat.{ℕ, suc, ◌+◌, ◌*◌, ◌<◌}
use native.Mathlib.Omega.{arith}
use lib.ListN.{length, take, drop}
use lib.Seq.{drop-drop}
use Rattle.rule.specs.declared.Entry.{Entry}
use Rattle.memory.specs.Plan.{graph_in}
use Rattle.journal_fields.specs.Fields.{head_size, first_size, entry_size, four_at, entry_bytes, entries_bytes, first_bytes, journal_bytes, numbered, entry_in, number_in, rank_fits, fields}
use Rattle.journal_fields.specs.Bounds.{RanksFit}
use Rattle.journal_fields.proofs.Entries.{whole, entries_append, written_from, entries_form, fit_append, fields_written}
use Rattle.journal_fields.proofs.Bytes.{journal_drop, place_of-law}
use Rattle.journal.specs.Calls.{entry_for, later_in, start_bytes, next_bytes}
use Rattle.journal.specs.Written.{Written, new, more}
use Rattle.journal.proofs.NewJournals.{started_bytes-law, started_fit}
use Rattle.journal.proofs.RecordedEdits.{is_bytes}

-- such a journal, byte by byte
pub record Is (bytes : List ℕ) (n : ℕ) (es : List Entry) : Type 0 where
  pub bytes_are : bytes ≡ journal_bytes true n es
  pub fit : RanksFit es

-- one entry more
more_is : (size : ℕ) (journal : List ℕ) (n : ℕ) (es : List Entry) → Is (take size journal) n es → (e : Entry) → rank_fits e ≡ true
    → Is (take size journal ++ next_bytes e size journal) n (es ++ (e ∷ []))
unfolding next_bytes journal_bytes entries_bytes
more_is size journal n es i e fit =
    let later : later_in size journal ≡ entries_bytes true 1 es = ap (drop first_size) i.bytes_are ∙ journal_drop true n es in
    let read : fields (later_in size journal) ≡ whole es = ap fields later ∙ fields_written true es i.fit in
    let form : numbered (later_in size journal) ≡ true = ap numbered later ∙ entries_form es in
    let next : next_bytes e size journal ≡ entries_bytes true (1 + length es) (e ∷ []) =
    ap₂ (λ v (l : List Entry). entry_bytes v (suc (length l)) e) form (ap (λ f. f.entries) read)
    ∙ ap (λ (k : ℕ). entry_bytes true k e) (omega arith)
    ∙ sym (append-nil (entry_bytes true (1 + length es) e)) in
    record {
      bytes_are =
          ap₂ ◌++◌ i.bytes_are next
          ∙ append_assoc (first_bytes n) (entries_bytes true 1 es) (entries_bytes true (1 + length es) (e ∷ []))
          ∙ ap (λ (l : List ℕ). first_bytes n ++ l) (sym (entries_append true 1 es (e ∷ [])));
      fit = fit_append es (e ∷ []) i.fit (fit, tt);
    }

pub written_is : (bytes : List ℕ) (n : ℕ) (es : List Entry) → Written bytes n es → Is bytes n es
unfolding start_bytes graph_in rank_fits
written_is _ _ _ (new s t journal z) = record { bytes_are = started_bytes-law s t journal z; fit = started_fit s t journal z }
written_is _ _ _ (more n es k a b m size journal w z) =
    subst (λ (l : List ℕ). Is l n (es ++ (entry_for k a b ∷ []))) (sym (is_bytes k a b m size journal z))
    (more_is size journal n es (written_is (take size journal) n es w) (entry_for k a b) refl)

-- the field with i entries before it
pub written_number : (bytes : List ℕ) (n : ℕ) (es : List Entry) → Written bytes n es → (i : ℕ) → i < length es
    → let field = drop (first_size + entry_size true * i) bytes in (four_at head_size field ≡ suc i) × (drop i es ≡ entry_in true field ∷ drop (suc i) es)
unfolding number_in
written_number bytes n es w i h =
    let is = written_is bytes n es w in
    let p : 1 + i ≡ suc i = omega arith in
    let read = written_from true 1 es is.fit in
    let at : drop (entry_size true * i) (entries_bytes true 1 es) ≡ drop (first_size + entry_size true * i) bytes =
    ap (drop (entry_size true * i)) (sym (ap (drop first_size) is.bytes_are ∙ journal_drop true n es)) ∙ drop-drop (entry_size true * i) first_size bytes in
    rw (p, at) at (place_of-law true i 1 (entries_bytes true 1 es) es (ap (λ f. f.entries) read) h)
