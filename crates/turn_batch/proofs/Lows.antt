-- A member that makes turns has calls left.
use Rattle.std.proofs.Common.{Bool, true, false, ◌≡◌, ℕ, zero, suc, ◌<◌, List, [], ◌∷◌, length, map, set, get_or, Option, Some, None, refl, sym, ap, subst, arith, ◌∙◌}
use Rattle.std.specs.Prelude.{◌||◌, if◌then◌else◌}
use Rattle.me_disk.specs.Disk.{Disk}
use Rattle.part_tree.specs.declared.plan.Plan.{Plan}
use Rattle.part_tree.specs.declared.plan.Plan.TheVariants.{InPlace, Rewrite}
use Rattle.file_swap.specs.Steps.{calls}
use Rattle.file_swap.specs.Swap.{Swapping, Underway, fresh}
use Rattle.file_swap.specs.declared.machine.Turn.{Turn}
use Rattle.file_swap.specs.declared.machine.Turn.TheVariants as turn
use Rattle.turn_batch.specs.declared.member.BatchTurn.{BatchTurn}
use Rattle.turn_batch.specs.declared.member.Member.{Member}
use Rattle.turn_batch.specs.Members.{open_swap, fresh_member, IsReady, IsSound, OnSwap, AllFresh, AllLow, failed_in, Turned, TurnedBy, TurnedAt, ends, fails}

pub low_at : (ms : List Member) (i : ℕ) (m : Member) → AllLow ms → i < length ms → IsSound (get_or ms i m)
low_at [] i m all low = absurd (omega arith)
low_at (x ∷ ms) zero m all low = all.0
low_at (x ∷ ms) (suc i) m all low = low_at ms i m all.1 (omega arith)

-- an item inside a list needs no other in its place
pub any_other : (ms : List Member) (i : ℕ) (x y : Member) → i < length ms → get_or ms i x ≡ get_or ms i y
any_other [] i x y low = absurd (omega arith)
any_other (m ∷ ms) zero x y low = refl
any_other (m ∷ ms) (suc i) x y low = any_other ms i x y (omega arith)

pub low_set : (ms : List Member) (i : ℕ) (m : Member) → AllLow ms → IsSound m → AllLow (set ms i m)
low_set [] i m all low = tt
low_set (x ∷ ms) zero m all low = (low, all.1)
low_set (x ∷ ms) (suc i) m all low = (all.0, low_set ms i m all.1 low)

-- ---- after a turn

low_ended : (s : Swapping) (was : Bool) (t : Turn) → (t ≡ turn.More → s.made < calls s.plan) → (fails t || was) ≡ s.failed → IsSound (record { swap = Some s; ended = ends t; failed = fails t || was })
low_ended s was turn.More h f = record { low = h refl; told = f }
low_ended s was turn.Done h f = record { low = tt; told = f }
low_ended s was turn.Fault h f = record { low = tt; told = f }

module _ (s : Swapping) (was : Bool) (m' : Member) (o : List ℕ) (a b : Disk) (answer : BatchTurn) (t : Turned s was m' o a b answer) (unfailed : was ≡ false) where
  failed_so : (x : Turn) → t.turn ≡ x → (fails x || was) ≡ t.next.failed
  failed_so turn.More is = unfailed ∙ sym (t.turned.underway (λ h. let both = sym is ∙ h in cc)).unfailed
  failed_so turn.Done is = unfailed ∙ sym (t.turned.underway (λ h. let both = sym is ∙ h in cc)).unfailed
  failed_so turn.Fault is = sym (ap (λ (x : Swapping). x.failed) (t.turned.fault is))

  turned_open : IsSound m'
  unfolding failed_so
  turned_open =
      let low : t.turn ≡ turn.More → t.next.made < calls t.next.plan = λ more. subst (λ (p : Plan). t.next.made < calls p) (sym t.turned.plan) (t.turned.more more) in
      subst IsSound (sym t.member) (low_ended t.next was t.turn low (failed_so t.turn refl))

-- a member that makes turns hasn't failed
open_told : (m : Member) (s : Swapping) → open_swap m ≡ Some s → m.failed ≡ failed_in m.swap → m.failed ≡ s.failed
open_told m s is told = told ∙ ap failed_in (go m.ended m.swap is)
  where
    go : (t : Bool) (x : Option Swapping) → (if t then None else x) ≡ Some s → x ≡ Some s
    go true x h = absurd cc
    go false x h = h

turned_by : {D : Type 0} (disk : D → Disk) (x : Option Swapping) (o : List ℕ) (m m' : Member) (d d' : D) (answer : BatchTurn) → open_swap m ≡ x → OnSwap x (λ s. s.failed ≡ false) → IsSound m
    → TurnedBy disk x o m m' d d' answer → IsSound m'
turned_by disk None o m m' d d' answer is unfailed low t = subst IsSound (sym t.1) low
turned_by disk (Some s) o m m' d d' answer is unfailed low t = turned_open s m.failed m' o (disk d) (disk d') answer t (open_told m s is low.told ∙ unfailed)

unfailed_by : (x : Option Swapping) (o : List ℕ) (d : Disk) → OnSwap x (λ s. Underway s o d) → OnSwap x (λ s. s.failed ≡ false)
unfailed_by None o d h = tt
unfailed_by (Some s) o d h = h.unfailed

pub turned_low : {D : Type 0} (disk : D → Disk) (o : List ℕ) (m m' : Member) (d d' : D) (answer : BatchTurn) → IsReady o m (disk d) → IsSound m → TurnedAt disk o m m' d d' answer → IsSound m'
turned_low disk o m m' d d' answer ready low t = turned_by disk (open_swap m) o m m' d d' answer refl (unfailed_by (open_swap m) o (disk d) ready) low t

-- ---- before the first turn

pub calls_some : (p : Plan) → 0 < calls p
unfolding calls
calls_some (InPlace old new ps) = omega arith
calls_some (Rewrite new moves ss) = omega arith

fresh_one : (s : Option Swapping) → OnSwap s (λ x. x ≡ fresh x.plan) → IsSound (fresh_member s)
fresh_one None h = record { low = tt; told = refl }
fresh_one (Some s) h = record {
  low = let none : s.made ≡ 0 = ap (λ (x : Swapping). x.made) h in let some = calls_some s.plan in omega arith;
  told = sym (ap (λ (x : Swapping). x.failed) h);
}

pub fresh_low : (ss : List (Option Swapping)) → AllFresh ss → AllLow (map fresh_member ss)
fresh_low [] all = tt
fresh_low (s ∷ ss) all = (fresh_one s all.0, fresh_low ss all.1)
