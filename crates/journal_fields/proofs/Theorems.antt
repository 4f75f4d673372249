-- Theorems on a journal's bytes, each restated: what to cite. Their proofs are in the files beside this one.
use mathlib.Core.Bool.{Bool, true}
use mathlib.Core.List.{List, ◌∷◌}
use mathlib.Core.Path.{◌≡◌}
use Prim.Native.Nat.{ℕ, suc, ◌*◌, ◌/◌, ◌%◌, ◌≤◌, ◌<◌}
use lib.ListN.{length, take, drop}
use Rattle.rule.specs.declared.Entry.{Entry}
use Rattle.journal_fields.specs.Fields.{first_size, entry_size, entries_bytes, journal_bytes, has_first, banks_in, numbered, entry_in, number_in, fields}
use Rattle.journal_fields.specs.Bounds.{AreBytes, AllBelow, RanksFit}
use Rattle.journal_fields.proofs.Entries as Entries
use Rattle.journal_fields.proofs.Bytes as Bytes

-- whether its entries are numbered or not:
module _ (w : Bool) where
  -- 1. a journal that was written, of ranks up to 9,999, reads as its bank count and its entries, with no wrong field and nothing left over
  pub fields_back : (es : List Entry) → RanksFit es → fields (entries_bytes w 1 es) ≡ record { entries = es; wrong = 0; left_over = 0 }
  fields_back = Entries.fields_written w

  module _ (n : ℕ) (es : List Entry) where
    pub journal_first : has_first (journal_bytes w n es) ≡ true
    journal_first = Bytes.journal_has w n es

    pub journal_banks : banks_in (journal_bytes w n es) ≡ n
    journal_banks = Bytes.journal_banks w n es

    pub journal_fields-law : RanksFit es → fields (drop first_size (journal_bytes w n es)) ≡ record { entries = es; wrong = 0; left_over = 0 }
    journal_fields-law = Bytes.journal_fields-law w n es

    -- numbers below 65,536 and edit numbers of 32 bits are written as bytes,
    pub journal_bytes-law : n < 65536 → AllBelow 65536 es → length es < 4294967296 → AreBytes (journal_bytes w n es)
    journal_bytes-law = Bytes.journal_bytes-law w n es

  -- 2. cut at byte i after its first field, it reads as its whole fields and the bytes left over
  pub cut_fields : (es : List Entry) (i : ℕ) → RanksFit es → i ≤ entry_size w * length es
      → fields (take i (entries_bytes w 1 es)) ≡ record { entries = take (i / entry_size w) es; wrong = 0; left_over = i % entry_size w }
  cut_fields = Entries.fields_cut w

-- and no other bytes read so, in the form that the first entry tells
pub journal_only : (n : ℕ) (es : List Entry) (bytes : List ℕ) → AreBytes bytes → has_first bytes ≡ true → banks_in bytes ≡ n
    → fields (drop first_size bytes) ≡ record { entries = es; wrong = 0; left_over = 0 } → bytes ≡ journal_bytes (numbered (drop first_size bytes)) n es
journal_only n es bytes = Bytes.journal_only bytes n es

-- 3. no bytes read as an entry whose rank is above 9,999
pub ranks_fit : (bytes : List ℕ) → RanksFit (fields bytes).entries
ranks_fit = Bytes.fields_fit

-- 4. whatever bytes are read, the entry with k before it has the number suc k, in its field where entries are numbered
pub entry_number-law : (bytes : List ℕ) (k : ℕ) → k < length (fields bytes).entries
    → let field = drop (entry_size (numbered bytes) * k) bytes in
    (number_in (numbered bytes) (suc k) field ≡ suc k) × (drop k (fields bytes).entries ≡ entry_in (numbered bytes) field ∷ drop (suc k) (fields bytes).entries)
entry_number-law = Bytes.entry_number-law
