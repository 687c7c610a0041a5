-- The worked plans are plans for the worked file.
use Rattle.std.proofs.Common.{◌≡◌, ap, inl, inr, ℕ, List, [], Some, refl, arith, lit<, subst, sym}
use Rattle.part_tree.specs.declared.plan.Patch.{Patch}
use Rattle.part_tree.specs.declared.plan.Segment.{Segment}
use Rattle.part_tree.specs.declared.plan.Plan.{Plan}
use Rattle.part_tree.specs.declared.plan.Plan.TheVariants.{InPlace, Rewrite}
use Rattle.me_disk.specs.Disk.{Disk, Only, plain}
use Rattle.edit_journal.specs.Strips.{cut}
use Rattle.edit_journal.specs.Journal.{Journal, spelled}
use Rattle.edit_journal.specs.Settled.{Stands}
use Rattle.file_swap.specs.Swap.{Swapping, fresh, IsSure, Underway}
use Rattle.file_swap.proofs.Installs.{begins}
use Rattle.part_tree.specs.Plans.{CanRun, Belongs}
use Rattle.edit_journal.specs.Journal.Journal.{version_1}
use Rattle.crash_rows.specs.declared.bytes.TheConstants.{JOURNAL, OLD_JOURNAL}
use Rattle.crash_rows.specs.Worked.{file, patches, in_place, rewrite}

pub rules : CanRun in_place
unfolding in_place patches
rules = record {
  few = omega arith;
  rules = record {
    old_fits = lit< tt;
    new_fits = lit< tt;
    order = (record { some = omega arith; after = omega arith; inside = omega arith }, (record { some = omega arith; after = omega arith; inside = omega arith }, tt));
    small = omega arith;
    whole = λ q past low. inr (inl (omega arith, omega arith));
  };
}

pub in_place_belongs : Belongs in_place file
unfolding file in_place patches
in_place_belongs = record { can = rules; file = refl }

pub adds_up : CanRun rewrite
unfolding rewrite
adds_up = record { total = refl; fits = lit< tt; based = (tt, (tt, (tt, (tt, (tt, (tt, tt)))))) }

pub rewrite_belongs : Belongs rewrite file
unfolding file rewrite
rewrite_belongs = record { can = adds_up; file = ((omega arith, (tt, (tt, (omega arith, (omega arith, (tt, tt)))))), lit< tt, (tt, (tt, (tt, (tt, (tt, (tt, tt))))))) }

pub can_patch : (ps : List Patch) → ps ≡ patches → CanRun (InPlace 48 72 ps)
unfolding in_place
can_patch ps is = subst (λ (qs : List Patch). CanRun (InPlace 48 72 qs)) (sym is) rules

pub can_rewrite : (ss : List Segment) → Rewrite 72 [] ss ≡ rewrite → CanRun (Rewrite 72 [] ss)
can_rewrite ss is = subst CanRun (sym is) adds_up

pub in_place_begins : (s : Swapping) (d : Disk) → s ≡ fresh in_place → Stands file d → Underway s file d
in_place_begins s d is stands = subst (λ (x : Swapping). Underway x file d) (sym is) (begins d in_place file stands (λ tells. in_place_belongs))

pub rewrite_begins : (s : Swapping) (d : Disk) → s ≡ fresh rewrite → Stands file d → Underway s file d
rewrite_begins s d is stands = subst (λ (x : Swapping). Underway x file d) (sym is) (begins d rewrite file stands (λ tells. rewrite_belongs))

-- before the first call the only image is the file
pub surely : (p : Plan) (s : Swapping) (o : List ℕ) (d : Disk) → s ≡ fresh p → Only (plain (Some o)) d → IsSure s o d
surely p s o d is only = subst (λ (x : Swapping). IsSure x o d) (sym is) (λ i h. only i h)

pub in_place_is : (ps : List Patch) → ps ≡ patches → InPlace 48 72 ps ≡ in_place
unfolding in_place
in_place_is ps is = ap (λ (qs : List Patch). InPlace 48 72 qs) is

pub journal_is : JOURNAL ≡ spelled 48 72 patches
unfolding patches spelled cut
journal_is = refl

pub old_journal_is : Journal OLD_JOURNAL 48 72 patches
unfolding in_place patches
old_journal_is = version_1 (record { is = refl; few = omega arith; rules = rules.rules })
