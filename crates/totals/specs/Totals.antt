-- The total of a run: adds less strikes since the plan was opened, counted from the calls and their answers alone (02, N7).
use Rattle.std.specs.Prelude.{Bool, true, false, cond, ◌||◌, List, [], ◌∷◌, ◌≡◌, ℕ, zero, suc, ◌+◌, ◌-◌, leb, eqb, take, drop}
use Rattle.rule.specs.Graph.{Graph, degree, neighbours, empty}
use Rattle.rule.specs.Reach.{edited}
use Rattle.rule.specs.declared.Kind.{Kind}
use Rattle.rule.specs.declared.Kind.TheVariants.{Adding, Striking}
use Rattle.rule.specs.declared.Entry.{Entry}
use Rattle.rule.specs.declared.Entry.TheVariants.{Clash, Rank}
use Rattle.list_rows.specs.declared.row.Change.{Change}
use Rattle.list_rows.specs.declared.row.Change.TheVariants.{One, StrikeAll}
use Rattle.list_rows.specs.declared.row.Row.{Row}
use Rattle.list_rows.specs.declared.row.Row.TheVariants as Rows
use Rattle.list_rows.specs.Rows.{rows_of, first_row}
use Rattle.journal_fields.specs.Fields.{first_size, banks_in, fields}
use Rattle.journal_replay.specs.Ends.{after_entry}
use Rattle.shelf.specs.Names.{place_of}
use Rattle.totals.specs.Runs.{Depot, Call, Open, Edit, Record, SetCap, Read, Replay, OpenShelf, Keep, Return, Answer, made}

-- one more for an add, one less for a strike
unfoldable pub edit_total : Kind → ℕ → ℕ
edit_total Adding t = t + 1
edit_total Striking t = t - 1

-- a rank leaves the total
unfoldable pub entry_total : Entry → ℕ → ℕ
entry_total (Clash k a b) t = edit_total k t
entry_total (Rank b r) t = t

-- the clashes of b with these banks struck
unfoldable pub struck_each : ℕ → List ℕ → Graph → Graph
struck_each b [] G = G
struck_each b (v ∷ vs) G = struck_each b vs (edited Striking G b v)

-- the clashes and ranks after a row's edit or rank, of those that the rows before it list
unfoldable pub changed : Change → Graph → Graph
changed (One e) G = after_entry e G
changed (StrikeAll b) G = struck_each b.0 (neighbours G b.0) G

-- the total after it: a D row counts each clash that it strikes
unfoldable pub change_total : Change → Graph → ℕ → ℕ
change_total (One e) G t = entry_total e t
change_total (StrikeAll b) G t = t - degree G b.0

-- the total after rows that were made, of these clashes and this total
unfoldable pub rows_total : List Row → Graph → ℕ → ℕ
rows_total [] G t = t
rows_total (Rows.Banks n ∷ rs) G t = rows_total rs G t
rows_total (Rows.Edit c ∷ rs) G t = rows_total rs (changed c G) (change_total c G t)
rows_total (Rows.Unreadable ∷ rs) G t = rows_total rs G t
rows_total (Rows.Retired ∷ rs) G t = rows_total rs G t

-- the total after entries that were made
unfoldable pub entries_total : List Entry → ℕ → ℕ
entries_total [] t = t
entries_total (e ∷ es) t = entries_total es (entry_total e t)

-- of those from number `first` on, the ones that were made: all, or those before the one that got the number
unfoldable pub before : {A : Type 0} → ℕ → ℕ → ℕ → List A → List A
before first zero place xs = xs
before first (suc c) place xs = take (place - first) xs

-- a state that the run kept: its bank count, and its total
pub record Kept : Type 0 where
  pub banks : ℕ
  pub total : ℕ

-- what is counted: the bank count and the total of the plan, and what the run kept in each place of the shelf, if anything
pub record Count : Type 0 where
  pub banks : ℕ
  pub total : ℕ
  pub kept : ℕ → List Kept

abbrev pub count_of : ℕ → ℕ → (ℕ → List Kept) → Count
count_of banks total kept = record { banks = banks; total = total; kept = kept }

-- before a run
abbrev pub nothing : Count
nothing = count_of 0 0 (λ i. [])

-- if the number is 0 the one, else the other
unfoldable pub if_accepted : {A : Type 0} → ℕ → A → A → A
if_accepted zero new old = new
if_accepted (suc c) new old = old

-- did a list or a replay open a plan, where row or field i opens it? it was accepted, or refused at a later one
unfoldable pub opens_plan : ℕ → Answer → Bool
opens_plan i a = eqb a.number 0 || leb (suc i) a.place

-- the count after a list's rows, of which row i is the N row
unfoldable pub rows_count : Bool → ℕ → List Row → Answer → Count → Count
rows_count true i (Rows.Banks n ∷ rs) a q = count_of n (rows_total (before (suc i) a.number a.place rs) (empty n) 0) q.kept
rows_count true i (Rows.Edit c ∷ rs) a q = q
rows_count true i (Rows.Unreadable ∷ rs) a q = q
rows_count true i (Rows.Retired ∷ rs) a q = q
rows_count true i [] a q = q
rows_count false i rs a q = q

-- and after a journal's entries
unfoldable pub entries_count : Bool → List ℕ → Answer → Count → Count
entries_count true bytes a q =
    count_of (banks_in bytes) (entries_total (before 2 a.number a.place (fields (drop first_size bytes)).entries) 0) q.kept
entries_count false bytes a q = q

-- of the kept states, those of n banks
unfoldable pub of_banks : ℕ → List Kept → List Kept
of_banks n [] = []
of_banks n (k ∷ ks) = cond (eqb k.banks n) (k ∷ of_banks n ks) (of_banks n ks)

-- a keeping in place i: the others stay where they are of as many banks, and may else be overwritten
unfoldable pub kept_in : ℕ → Count → ℕ → List Kept
kept_in i q j = cond (eqb j i) (record { banks = q.banks; total = q.total } ∷ []) (of_banks q.banks (q.kept j))

-- the total that the state had when it was kept
unfoldable pub kept_total : List Kept → ℕ → ℕ
kept_total [] t = t
kept_total (k ∷ ks) t = k.total

-- the count after a call with this answer
unfoldable pub counted : Call → Answer → Count → Count
counted (Open n) a q = if_accepted a.number (count_of n 0 q.kept) q
counted (Edit k x y) a q = if_accepted a.number (count_of q.banks (edit_total k q.total) q.kept) q
counted (Record k x y size journal) a q = if_accepted a.number (count_of q.banks (edit_total k q.total) q.kept) q
counted (SetCap most) a q = q
counted (Read bytes) a q = rows_count (opens_plan (first_row bytes) a) (first_row bytes) (rows_of bytes) a q
counted (Replay bytes) a q = entries_count (opens_plan 1 a) bytes a q
counted (OpenShelf n) a q = if_accepted a.number (count_of q.banks q.total (λ i. [])) q
counted (Keep name) a q = if_accepted a.number (count_of q.banks q.total (kept_in (place_of name) q)) q
counted (Return name) a q =
    if_accepted a.number (count_of q.banks (kept_total (of_banks q.banks (q.kept (place_of name))) q.total) q.kept) q

-- the count after these calls, each with its own answer
unfoldable pub count_after : List Call → Depot → Count → Count
count_after [] d q = q
count_after (c ∷ cs) d q = count_after cs (made c d).depot (counted c (made c d).answer q)

-- an opening, a list or a replay that opens a plan
unfoldable pub begins : Call → Answer → Bool
begins (Open n) a = eqb a.number 0
begins (Edit k x y) a = false
begins (Record k x y size journal) a = false
begins (SetCap most) a = false
begins (Read bytes) a = opens_plan (first_row bytes) a
begins (Replay bytes) a = opens_plan 1 a
begins (OpenShelf n) a = false
begins (Keep name) a = false
begins (Return name) a = false

-- the state that an accepted return brings back is one that the run kept, of as many banks; neither was the shelf opened since, nor a plan of another
-- bank count kept
abbrev pub Own : Call → Answer → Count → Type 0
Own (Open n) a q = Unit {0}
Own (Edit k x y) a q = Unit {0}
Own (Record k x y size journal) a q = Unit {0}
Own (SetCap most) a q = Unit {0}
Own (Read bytes) a q = Unit {0}
Own (Replay bytes) a q = Unit {0}
Own (OpenShelf n) a q = Unit {0}
Own (Keep name) a q = Unit {0}
Own (Return name) a q = a.number ≡ 0 → of_banks q.banks (q.kept (place_of name)) ≡ [] → ⊥

-- is none of them a return?
unfoldable pub no_return : List Call → Bool
no_return [] = true
no_return (Open n ∷ cs) = no_return cs
no_return (Edit k x y ∷ cs) = no_return cs
no_return (Record k x y size journal ∷ cs) = no_return cs
no_return (SetCap most ∷ cs) = no_return cs
no_return (Read bytes ∷ cs) = no_return cs
no_return (Replay bytes ∷ cs) = no_return cs
no_return (OpenShelf n ∷ cs) = no_return cs
no_return (Keep name ∷ cs) = no_return cs
no_return (Return name ∷ cs) = false

-- all returns of the run are such: only its own calls wrote what they return to
abbrev pub Ours : List Call → Depot → Count → Type 0
Ours [] d q = Unit {0}
Ours (c ∷ cs) d q = Own c (made c d).answer q × Ours cs (made c d).depot (counted c (made c d).answer q)

-- the shelf is used for n banks alone: an accepted keeping or return is of a plan of n banks, and an accepted opening of the shelf is for n
abbrev pub Fits : ℕ → Call → Answer → Count → Type 0
Fits n (Open x) a q = Unit {0}
Fits n (Edit k x y) a q = Unit {0}
Fits n (Record k x y size journal) a q = Unit {0}
Fits n (SetCap most) a q = Unit {0}
Fits n (Read bytes) a q = Unit {0}
Fits n (Replay bytes) a q = Unit {0}
Fits n (OpenShelf x) a q = a.number ≡ 0 → x ≡ n
Fits n (Keep name) a q = a.number ≡ 0 → q.banks ≡ n
Fits n (Return name) a q = a.number ≡ 0 → q.banks ≡ n

abbrev pub OneCount : ℕ → List Call → Depot → Count → Type 0
OneCount n [] d q = Unit {0}
OneCount n (c ∷ cs) d q = Fits n c (made c d).answer q × OneCount n cs (made c d).depot (counted c (made c d).answer q)
