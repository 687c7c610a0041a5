-- The rewrite with tables can be run, and is a plan for each file of which its tables can name all new places.
use Rattle.std.proofs.Common.{◌≡◌, ◌≤◌, ◌*◌, ◌+◌, ◌<◌, ◌^◌, ◌/◌, ℕ, List, length, take, drop, refl, ap, subst, sym, arith, lit<, length-take, length-drop}
use Rattle.part_tree.specs.declared.plan.Plan.{Plan}
use Rattle.part_tree.specs.declared.plan.Plan.TheVariants.{Rewrite}
use Rattle.part_tree.specs.declared.table.Base.TheVariants.{FileStart}
use Rattle.part_tree.specs.declared.table.TableForm.{TableForm}
use Rattle.part_tree.specs.declared.table.TableForm.TheVariants.{Idx1, Standard, Chunks32}
use Rattle.part_tree.specs.Moves.{Move}
use Rattle.part_tree.specs.declared.plan.Segment.{Segment}
use Rattle.part_tree.specs.Plans.{CanRun, AddsUp, Belongs}
use Rattle.relocator.specs.Pages.{count}
use Rattle.part_tree.specs.Tables.{RowsNamed, width}
use Rattle.part_tree.proofs.Relocated.{named_take}
use Rattle.crash_rows.specs.declared.tables.TheConstants.{HEAD}
use Rattle.crash_rows.specs.Tables.{gone, parts, tables}

pub can_relocate : CanRun tables
unfolding tables parts
can_relocate = record { total = refl; fits = lit< tt; based = (tt, (tt, (tt, (lit< tt, (tt, (tt, tt)))))) }

pub adds_up : (ss : List Segment) → ss ≡ parts → AddsUp 16524 ss
unfolding tables
adds_up ss is = subst (λ (l : List Segment). AddsUp 16524 l) (sym is) can_relocate

pub plan_is : (ms : List Move) (ss : List Segment) → ms ≡ gone → ss ≡ parts → Rewrite 16524 ms ss ≡ tables
unfolding tables
plan_is ms ss m s = λ i. Rewrite 16524 (m i) (s i)

-- rows that can be named, by the bytes that they are in
module _ (o : List ℕ) (long : length o ≡ 16516) where
  part : (at n : ℕ) → at + n ≤ 16516 → length (take n (drop at o)) ≡ n
  part at n inside = omega (arith, long, inside, length-take n (drop at o), length-drop at o)

  pub tables_belong : RowsNamed gone (Idx1 FileStart) (count (Idx1 FileStart) (take 48 (drop 16 o))) (take 48 (drop 16 o))
      → RowsNamed gone (Standard HEAD 16000) (count (Standard HEAD 16000) (take 24 (drop 64 o))) (take 24 (drop 64 o))
      → RowsNamed gone Chunks32 (count Chunks32 (take 16388 (drop 88 o))) (take 16388 (drop 88 o)) → Belongs tables o
  unfolding tables parts
  tables_belong idx1 standard chunks =
      let three : count (Idx1 FileStart) (take 48 (drop 16 o)) ≡ 3 = ap (λ (n : ℕ). n / 16) (part 16 48 (omega arith)) in
      let two : count (Standard HEAD 16000) (take 24 (drop 64 o)) ≡ 2 = ap (λ (n : ℕ). n / 12) (part 64 24 (omega arith)) in
      let many : count Chunks32 (take 16388 (drop 88 o)) ≡ 4097 = ap (λ (n : ℕ). n / 4) (part 88 16388 (omega arith)) in
      record {
        can = can_relocate;
        file = (
          (omega (arith, long), (tt, (omega (arith, long), (omega (arith, long), (omega (arith, long), (omega (arith, long), tt)))))),
          omega (arith, long),
          (
            tt,
            (
              tt,
              (
                named_take gone (Idx1 FileStart) 3 (drop 16 o) (subst (λ (n : ℕ). RowsNamed gone (Idx1 FileStart) n (take 48 (drop 16 o))) three idx1),
                (
                  named_take gone (Standard HEAD 16000) 2 (drop 64 o) (subst (λ (n : ℕ). RowsNamed gone (Standard HEAD 16000) n (take 24 (drop 64 o))) two standard),
                  (named_take gone Chunks32 4097 (drop 88 o) (subst (λ (n : ℕ). RowsNamed gone Chunks32 n (take 16388 (drop 88 o))) many chunks), (tt, tt)),
                ),
              ),
            ),
          ),
        );
      }
