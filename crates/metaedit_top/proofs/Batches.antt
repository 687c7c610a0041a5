-- All files of a batch behind its rounds.
use Rattle.std.proofs.Common.{◌≡◌, ℕ, zero, suc, ◌+◌, ◌≤◌, ◌<◌, List, [], ◌∷◌, length, get_or, map, Bool, true, false, Option, Some, None, Result, Ok, Err, refl, sym, ap, ◌∙◌, subst, arith, ⊎_elim}
use Rattle.std.specs.Prelude.{IfSome, if◌then◌else◌, is_some}
use Rattle.std.proofs.lemmas.Bool.{cases_eq}
use Rattle.me_disk.specs.Disk.{Disk, IsLawful, bytes_of}
use Rattle.part_tree.specs.declared.field.EditItem.{EditItem}
use Rattle.file_swap.specs.Steps.{calls}
use Rattle.file_swap.specs.Swap.{Swapping}
use Rattle.turn_batch.specs.declared.member.Member.{Member}
use Rattle.turn_batch.specs.Members.{failed_in, fresh_member, is_open, open_swap}
use Rattle.turn_batch.specs.Schedules.{Goes, RanBy, RanOpen, Stopped}
use Rattle.metaedit_top.specs.declared.batch_end.FileEnd.{FileEnd}
use Rattle.metaedit_top.specs.declared.batch_end.FileEnd.TheVariants as end
use Rattle.metaedit_top.specs.declared.outcome.Prepared.{Prepared}
use Rattle.metaedit_top.specs.declared.outcome.Stop.{Stop}
use Rattle.metaedit_top.specs.declared.words.Command.TheVariants as command
use Rattle.metaedit_top.specs.declared.words.Request.{Request}
use Rattle.metaedit_top.specs.Batch.{Begun, EndsFile, GoesOn, Readies, end_behind, end_in, swap_in, file_request}
use Rattle.metaedit_top.specs.BatchText.{end_of}
use Rattle.metaedit_top.specs.Changed.{IsFresh, OnSwap}
use Rattle.metaedit_top.specs.Words.{Text, request}
use Rattle.metaedit_top.proofs.Batched.{ends_done, ends_failed, ends_idle, ends_stopped, goes_on}

-- how one file is left: it has its end, or goes on
pub record Left (words : List Text) (rounds : Option ℕ) (made : ℕ) (old new : Disk) (m : Member) (e : FileEnd) : Type 0 where
  pub ended : is_open m ≡ false → EndsFile words rounds old new (end_behind m.swap new.faults e)
  pub on : is_open m ≡ true → GoesOn words made old new

module _ (words : List Text) (e : List EditItem) (file : Text) (is : request words ≡ Ok (file_request e file)) (rounds : Option ℕ) (made : ℕ) (few : IfSome rounds (λ r. made ≤ r))
    {D : Type 0} (disk : D → Disk) (a : Disk) (d d' : D) (lawful : IsLawful (disk d)) (lawful' : IsLawful (disk d')) (m' : Member) where
  -- a file without a swap is as it was made ready
  still : (x : FileEnd) → EndsFile words rounds a (disk d) x → m' ≡ fresh_member None → d' ≡ d → Left words rounds made a (disk d') m' x
  still x ends same_m same_d =
      subst (λ (z : D). Left words rounds made a (disk z) m' x) (sym same_d)
      (subst (λ (z : Member). Left words rounds made a (disk d) z x) (sym same_m)
      (record { ended = λ shut. ends; on = λ more. absurd cc }))

  -- the swap's turns
  turned : (s : Swapping) (p : Prepared) → p.swap ≡ Some s → IsFresh s → Readies (file_request e file) a (disk d) (Ok p) → RanOpen made s m' (bytes_of (disk d).slots.main) (disk d) (disk d')
      → Left words rounds made a (disk d') m' (end.Done p.finished.summary)
  turned s p some fresh readied ran =
      ⊎_elim
      (λ (goes : Goes made s ran.next m' (bytes_of (disk d).slots.main) (disk d) (disk d')).
      let unfailed : failed_in m'.swap ≡ false = ap failed_in ran.swap ∙ goes.underway.unfailed in
      record {
        ended = λ shut.
            subst (EndsFile words rounds a (disk d')) (sym (ap (λ (t : Bool). if t then end.DepotFault (disk d').faults else end.Done p.finished.summary) unfailed))
            (ends_done words e file is a (disk d) p readied.ready readied.stays readied.since readied.again_done lawful s some fresh made m' (disk d') lawful' ran goes rounds few (goes.ended.0 (shut_ended s m' ran.next ran.swap shut)) readied.ready.told.no_findings);
        on = λ more.
            goes_on words e file is a (disk d) p readied.ready readied.stays readied.since readied.again_done lawful s some fresh made m' (disk d') lawful' ran goes
            (left_some goes (open_unended m' more));
      })
      (λ (stopped : Stopped s ran.next m' (disk d) (disk d')).
      let failed : failed_in m'.swap ≡ true = ap failed_in ran.swap ∙ stopped.failed in
      record {
        ended = λ shut.
            subst (EndsFile words rounds a (disk d')) (sym (ap (λ (t : Bool). if t then end.DepotFault (disk d').faults else end.Done p.finished.summary) failed))
            (ends_failed words e file is a (disk d) p readied.ready readied.stays readied.since readied.again_done lawful s some fresh made m' (disk d') lawful' ran rounds stopped);
        on = λ more. absurd (open_unended m' more stopped.ended);
      }) ran.state
    where
      open_unended : (m : Member) → is_open m ≡ true → m.ended ≡ true → ⊥
      open_unended m more ended = absurd (let none : is_open m ≡ false = ap (λ (t : Bool). is_some (if t then None else m.swap)) ended in cc)

      shut_ended : (s : Swapping) (m : Member) (next : Swapping) → m.swap ≡ Some next → is_open m ≡ false → m.ended ≡ true
      shut_ended s m next swap shut = go m.ended refl
        where
          go : (t : Bool) → m.ended ≡ t → m.ended ≡ true
          go true e = e
          go false e = absurd (let some : is_open m ≡ true = ap (λ (t : Bool). is_some (if t then None else m.swap)) e ∙ ap (λ (x : Option Swapping). is_some x) swap in cc)

      left_some : Goes made s ran.next m' (bytes_of (disk d).slots.main) (disk d) (disk d') → (m'.ended ≡ true → ⊥) → ran.next.made < calls s.plan
      left_some goes unended =
          let counts = goes.made in
          ⊎_elim (λ (e : ran.next.made ≡ calls s.plan). absurd (unended (goes.ended.1 e))) (λ (ne : ran.next.made ≡ calls s.plan → ⊥). omega (arith, ne)) (cases_eq ran.next.made (calls s.plan))

  by_swap : (p : Prepared) → Readies (file_request e file) a (disk d) (Ok p) → (x : Option Swapping) → p.swap ≡ x → OnSwap x IsFresh → RanBy disk x made (fresh_member x) m' (bytes_of (disk d).slots.main) d d'
      → Left words rounds made a (disk d') m' (end.Done p.finished.summary)
  unfolding still turned
  by_swap p readied None none fresh ran =
      still (end.Done p.finished.summary) (ends_idle words e file is a (disk d) p readied.ready readied.stays readied.since readied.again_done lawful rounds none readied.ready.told.no_findings) ran.0 ran.1
  by_swap p readied (Some s) some fresh ran = turned s p some fresh readied ran.1

  by_answer : (r : Result Prepared Stop) → Readies (file_request e file) a (disk d) r → RanBy disk (swap_in r) made (fresh_member (swap_in r)) m' (bytes_of (disk d).slots.main) d d'
      → Left words rounds made a (disk d') m' (end_in r (disk d).faults)
  unfolding still by_swap
  by_answer (Ok p) readied ran = by_swap p readied p.swap refl readied.ready.fresh ran
  by_answer (Err s) readied ran =
      still (end_of s (disk d).faults) (ends_stopped words e file is a (disk d) rounds readied.stays readied.since s readied.stops readied.leaves readied.again) ran.0 ran.1

  -- one file of a batch
  pub left_of : (y : FileEnd) (swap : Option Swapping) → Begun (file_request e file) a (disk d) y swap → RanBy disk swap made (fresh_member swap) m' (bytes_of (disk d).slots.main) d d' → Left words rounds made a (disk d') m' y
  unfolding by_answer
  left_of y swap begun ran =
      subst (Left words rounds made a (disk d') m') (sym begun.end_is)
      (by_answer begun.answer begun.readied (subst (λ (x : Option Swapping). RanBy disk x made (fresh_member x) m' (bytes_of (disk d).slots.main) d d') begun.swap_is ran))
