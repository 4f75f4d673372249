-- Entries written into a new journal, as the functions under `start_journal` name them: by how many stand before them.
use Rattle.std.specs.Prelude.{true, List, ◌≡◌, ℕ, suc, ◌+◌, ◌*◌, ◌≤◌, length, get_or}
use Rattle.rule.specs.declared.Entry.{Entry}
use Rattle.text.specs.Places.{put}
use Rattle.journal_fields.specs.Fields.{first_size, entry_size, entries_bytes}

-- the rank of a bank in these cells
abbrev pub rank_in : List ℕ → ℕ → ℕ
rank_in cells b = get_or cells b 0

-- where the entry with k before it starts
abbrev pub place_of : ℕ → ℕ
place_of k = first_size + entry_size true * k

-- after the first k entries these were written, and then r stand there
pub record PutsEntries (es : List Entry) (k : ℕ) (out : List ℕ) (r : ℕ) (out' : List ℕ) : Type 0 where
  pub next : r ≡ k + length es
  pub left : out' ≡ put (entries_bytes true (suc k) es) (place_of k) out

-- there is room for them, in the slice and in a journal
pub record Fit (es : List Entry) (k : ℕ) (out : List ℕ) : Type 0 where
  pub inside : place_of (k + length es) ≤ length out
  pub few : place_of (k + length es) ≤ 60000

-- the same, as contracts say it
abbrev pub RoomFor : List Entry → ℕ → List ℕ → Type 0
RoomFor = Fit
