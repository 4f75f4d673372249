-- Theorems on replays, each restated: what to cite. Their proofs are in the files beside this one.
use mathlib.Core.Bool.{Bool}
use mathlib.Core.List.{List, ◌∷◌, map}
use mathlib.Core.Path.{◌≡◌, sym, ap, ◌∙◌}
use Prim.Native.Nat.{ℕ, ◌+◌, ◌*◌, ◌/◌, ◌%◌, ◌≤◌, ◌<◌}
use lib.Dec.{T}
use lib.ListN.{length, take}
use Rattle.rule.specs.declared.Entry.{Entry}
use Rattle.memory.specs.Plan.{cap_fits}
use Rattle.memory.specs.Memory.{Memory}
use Rattle.memory.proofs.Theorems.{widest_cap}
use Rattle.list_rows.specs.declared.row.Row.TheVariants.{Banks}
use Rattle.list_rows.specs.Rows.{list_v2, rows_of, first_row}
use Rattle.list_pass.specs.declared.Reading.{Reading}
use Rattle.list_pass.specs.Pass.{ListResult, from_rows, read_list}
use Rattle.list_pass.proofs.Lists.{within, any_same}
use Rattle.journal_fields.specs.Fields.{first_size, entry_size, journal_bytes}
use Rattle.journal_fields.specs.Bounds.{AllBelow, RanksFit}
use Rattle.journal_replay.specs.SameList.{list_text, entry_row}
use Rattle.journal_replay.specs.Ends.{end_of, Leaves, RefusedLater, SameButLeftOver}
use Rattle.journal_replay.specs.Replay.{replayed}
use Rattle.journal_replay.proofs.Replaying as Replaying
use Rattle.journal_replay.proofs.SameEdits as SameEdits
use Rattle.journal_replay.proofs.Holds as Holds
use Rattle.journal_replay.proofs.Refusals as Refusals
use Rattle.journal_replay.proofs.Caps as Caps

-- 1. a journal, numbered or not, cut at byte i after its first field replays as the journal of its whole fields does: the same number, field and memory; not
-- refused, it reports the bytes left over
pub cut_replays : (w : Bool) (n : ℕ) (es : List Entry) (i : ℕ) → RanksFit es → i ≤ entry_size w * length es → first_size + i ≤ 60000 → (m : Memory)
    → SameButLeftOver (replayed (take (first_size + i) (journal_bytes w n es)) m) (replayed (journal_bytes w n (take (i / entry_size w) es)) m) (i % entry_size w)
cut_replays = Replaying.cut_replays

-- 2. a journal and any list of the same edits and ranks, each within 60,000 bytes, leave the same memory: plan, tally, trail and moved; and with
-- numbers below 10,000, which a row can hold, the same number, and without a V row at the same place. The list's rows say what those of `list_text` say from
-- the N row on: padded, with or without `V 2` and the last line feed
module _ (w : Bool) (n : ℕ) (es : List Entry) (m : Memory) (fit : RanksFit es) (journal : length (journal_bytes w n es) ≤ 60000)
    (list : List ℕ) (short : length list ≤ 60000) (alike : rows_of list ≡ rows_of (list_text n es)) where
  pub same_memory : (replayed (journal_bytes w n es) m).memory ≡ (read_list list m).memory
  same_memory =
      sym (SameEdits.same_edits w n es m fit journal list alike).memory ∙ sym (ap (λ (r : ListResult). r.memory) (within list m short) ∙ (any_same (rows_of list) m (list_v2 list)).1)

  pub same_number : n < 10000 → AllBelow 10000 es → (replayed (journal_bytes w n es) m).answer.number ≡ (read_list list m).answer.number
  same_number h k =
      ap (λ (r : Reading). r.number) (sym ((SameEdits.same_edits w n es m fit journal list alike).answer (h, k)))
      ∙ sym (ap (λ (r : ListResult). r.answer.number) (within list m short) ∙ (any_same (rows_of list) m (list_v2 list)).0)

  pub same_place : n < 10000 → AllBelow 10000 es → first_row list ≡ 1 → (replayed (journal_bytes w n es) m).answer.field ≡ (read_list list m).answer.row
  same_place h k i =
      ap (λ (r : Reading). r.row) (sym ((SameEdits.same_edits w n es m fit journal list alike).answer (h, k)))
      ∙ sym (ap (λ (r : ListResult). r.answer.row) (within list m short ∙ ap (λ (x : ℕ). from_rows x (rows_of list) m) i))

-- and those say `N n` and the entries in turn: `+ a b`, `- a b`, `K b r`
pub list_rows-law : (n : ℕ) (es : List Entry) → n < 10000 → AllBelow 10000 es → rows_of (list_text n es) ≡ Banks n ∷ map entry_row es
list_rows-law = SameEdits.list_rows-law

-- 3. a replay that is not refused leaves the plan of all its entries
module _ (bytes : List ℕ) (m : Memory) where
  pub replay_holds : (replayed bytes m).answer.number ≡ 0 → Leaves (end_of bytes) (replayed bytes m)
  replay_holds = Holds.replay_holds bytes m

  -- refused at field 0 or 1, it leaves memory as it was; refused at field 2 + i, it leaves what the i entries before leave, plan, tally, trail
  -- and moved, and the plan is that of the clashes and ranks after them
  module _ (refused : (replayed bytes m).answer.number ≡ 0 → ⊥) where
    pub refused_first-law : (replayed bytes m).answer.field ≤ 1 → (replayed bytes m).memory ≡ m
    refused_first-law = Refusals.refused_first-law bytes m refused

    pub refused_later : 2 ≤ (replayed bytes m).answer.field → RefusedLater bytes m
    refused_later = Refusals.refused_later bytes m refused

-- 4. after a replay that is not refused, or refused at a later field, the cap is 24; and that fits the plan
module _ (bytes : List ℕ) (m : Memory) where
  pub replay_cap : (replayed bytes m).answer.number ≡ 0 → (replayed bytes m).memory.tally.cap ≡ 24
  replay_cap = Caps.accepted_cap bytes m

  pub refused_cap : 2 ≤ (replayed bytes m).answer.field → (replayed bytes m).memory.tally.cap ≡ 24
  refused_cap = Caps.later_cap bytes m

  pub replay_fits : (replayed bytes m).answer.number ≡ 0 → T (cap_fits (replayed bytes m).memory.tally)
  replay_fits z = widest_cap (replay_holds bytes m z) (replay_cap z)

  pub refused_fits : ((replayed bytes m).answer.number ≡ 0 → ⊥) → 2 ≤ (replayed bytes m).answer.field → T (cap_fits (replayed bytes m).memory.tally)
  refused_fits z h = widest_cap (refused_later bytes m z h).plan (refused_cap h)
