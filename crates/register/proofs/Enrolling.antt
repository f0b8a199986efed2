-- What an insertion into the slots of a register means for its list.
use Rattle.std.proofs.Common.{◌≡◌, ℕ, ◌+◌, ◌^◌, ◌<◌, ◌≤◌, min, T, List, ◌++◌, map, length, take, drop, Ok, Err, Result, ◌∙◌, arith}
use Rattle.std.specs.List.{insert}
use Rattle.std.specs.Ordering.{nat_cmp}
use Rattle.std.proofs.lemmas.List.Edits.{length-insert}
use Rattle.std.proofs.lemmas.List.{length-map, length-take-le, take_at}
use Rattle.wire.specs.Refusals.{Refusal}
use Rattle.table.specs.Orders.{first_place, is_there}
use Rattle.table.specs.Tables.{table_over, table_answer, table_after_insert}
use Rattle.table.specs.declared.fault.TableFault.{TableFault}
use Rattle.table.proofs.Places.{place_within}
use Rattle.register.specs.Controllers.{controller_of, lawful, present}
use Rattle.register.specs.Registers.{register_over, count_after, enroll_answer, after_enroll}
use Rattle.register.specs.RegisterRefusals.{climbed, register_refusal}
use Rattle.register.specs.declared.controller.Controller.{Controller}
use Rattle.register.proofs.Lawful.{there_is_present, enrolled_of_values, enrolled_lawful, controller_sound}

-- an answer of the table, as the register's
abbrev pub climbed_answer : Result ℕ (TableFault ℕ) → Result (Unit {0}) Refusal
climbed_answer (Ok place) = Ok tt
climbed_answer (Err fault) = Err (register_refusal (climbed fault))

module _ (x : Controller) (n : ℕ) (slots : List Controller) (within : n ≤ length slots) (t : T (lawful (map controller_of (take n slots)))) where
  -- the code's key
  abbrev id : Controller → ℕ
  id c = c.id

  in_use : length (map controller_of (take n slots)) ≡ n
  in_use = length-map (take n slots) controller_of ∙ length-take-le n slots within

  there : is_there nat_cmp id x.id (take n slots) ≡ present x.id (map controller_of (take n slots))
  there = there_is_present x.id 0 (take n slots) t

  used : min n (length slots) ≡ n
  used = omega arith

  pub refused_exactly : enroll_answer (controller_of x) (register_over (length slots) n slots) ≡ climbed_answer (table_answer nat_cmp id x (table_over n slots))
  refused_exactly = let a = in_use in let b = there in let u = used in grind arith

  -- a record that is put in its place
  put_in : take (n + 1) (insert (take n slots) (first_place nat_cmp id x.id (take n slots)) x ++ drop (n + 1) slots)
      ≡ insert (take n slots) (first_place nat_cmp id x.id (take n slots)) x
  put_in =
      take_at _ _ (n + 1) (length-insert (take n slots) _ x (place_within nat_cmp id x.id (take n slots)) ∙ omega (arith, length-take-le n slots within))

  pub adds_it : after_enroll (controller_of x) (register_over (length slots) n slots)
      ≡ register_over (length slots) (count_after (table_answer nat_cmp id x (table_over n slots)) n) (table_after_insert nat_cmp id x (table_over n slots)).slots
  adds_it = let u = used in let a = in_use in let b = there in let p = put_in in let v = enrolled_of_values x (take n slots) in grind arith

  pub stays_lawful : (p : ℕ) (after : List Controller) → x.id < 2 ^ 16 → Ok p ≡ table_answer nat_cmp id x (table_over n slots)
      → after ≡ (table_after_insert nat_cmp id x (table_over n slots)).slots → T (lawful (map controller_of (take (n + 1) after)))
  stays_lawful p after fits e s =
      let u = used in
      let b = there in
      let q = put_in in
      let v = enrolled_of_values x (take n slots) in
      let l = enrolled_lawful 0 (controller_of x) (map controller_of (take n slots)) t (omega arith) (controller_sound x fits) in
      grind arith

pub ruleset enrolling = (refused_exactly, adds_it, stays_lawful)
