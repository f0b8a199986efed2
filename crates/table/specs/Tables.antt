-- What an ordered table holds, and what its calls answer and leave in the whole memory.
use Rattle.std.specs.Prelude.{ℕ, ◌+◌, min, if◌then◌else◌, List, ◌++◌, length, take, drop, Ok, Err, Result, nat_lt, slice_set}
use Rattle.std.specs.List.{insert}
use Rattle.std.specs.declared.cmp.Ordering.{Ordering}
use Rattle.table.specs.Orders.{first_place, is_there}
use Rattle.table.specs.declared.fault.TableFault.{TableFault}
use Rattle.table.specs.declared.fault.TableFault.TheVariants.{Present, Full}
use Rattle.table.specs.declared.table.Table.{Table}

-- all slots of the memory, and how many of the first are in use
pub record TableValues (T : Type 0) : Type 0 where
  pub slots : List T
  pub used : ℕ

-- the table over these slots, of which the first are in use (all, where there are fewer)
abbrev pub table_over : {T : Type 0} → ℕ → List T → TableValues T
table_over len slots = record { slots = slots; used = min len (length slots) }

-- a table of the code
abbrev pub table_of : {T K : Type 0} → Table T K → TableValues T
table_of t = table_over t.len t.slots.now

-- the records in use
abbrev pub in_use : {T : Type 0} → TableValues T → List T
in_use t = take t.used t.slots

module _ {K T : Type 0} (cmp : K → K → Ordering) (key : T → K) (x : T) where
  -- a record is put in its place, unless its number is there or no slot is left; the first n slots are in use
  abbrev pub insert_answer : ℕ → List T → Result ℕ (TableFault K)
  insert_answer n slots =
      if is_there cmp key (key x) (take n slots) then Err (Present (key x)) else
      (if nat_lt n (length slots) then Ok (first_place cmp key (key x) (take n slots)) else Err (Full n))

  -- those behind it move up by one, and what stands behind them stays
  abbrev pub slots_after_insert : ℕ → List T → List T
  slots_after_insert n slots =
      if is_there cmp key (key x) (take n slots) then slots else
      (if nat_lt n (length slots) then (insert (take n slots) (first_place cmp key (key x) (take n slots)) x ++ drop (n + 1) slots) else slots)

  -- one more is in use, unless it is refused
  abbrev pub used_after_insert : ℕ → List T → ℕ
  used_after_insert n slots =
      if is_there cmp key (key x) (take n slots) then n else (if nat_lt n (length slots) then n + 1 else n)

  -- the same of a table
  abbrev pub table_answer : TableValues T → Result ℕ (TableFault K)
  table_answer t = insert_answer t.used t.slots

  -- the table after an insertion
  abbrev pub table_after_insert : TableValues T → TableValues T
  table_after_insert t = record { slots = slots_after_insert t.used t.slots; used = used_after_insert t.used t.slots }

-- another record at a place that is in use
abbrev pub table_after_replace : {T : Type 0} → ℕ → T → TableValues T → TableValues T
table_after_replace place x t =
    if nat_lt place t.used then record { slots = slice_set t.slots place x; used = t.used } else t
