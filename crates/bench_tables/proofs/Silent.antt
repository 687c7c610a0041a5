-- A swap over a depot that tells nothing.
use Rattle.std.proofs.Common.{◌≡◌, ◌∙◌, ℕ, List, false, sym, subst}
use Rattle.std.specs.Prelude.{IsTrue}
use Rattle.std.proofs.lemmas.Bool.{false≢true}
use Rattle.me_disk.specs.declared.depot.WorkState.TheVariants.{Closed}
use Rattle.me_disk.specs.Disk.{Disk}
use Rattle.edit_journal.specs.Settled.{Stands}
use Rattle.part_tree.specs.declared.plan.Plan.{Plan}
use Rattle.file_swap.specs.Swap.{Swapping, fresh, Underway}
use Rattle.file_swap.proofs.Installs.{begins}

unsaid : (d : Disk) → d.tells ≡ false → IsTrue d.tells → ⊥
unsaid d silent tells = false≢true (sym silent ∙ tells)

stands : (o : List ℕ) (d : Disk) → d.tells ≡ false → d.work_state ≡ Closed → Stands o d
stands o d silent closed = record {
  main = λ tells. absurd (unsaid d silent tells);
  journal = λ tells. absurd (unsaid d silent tells);
  state = closed;
}

pub silent_begins : (p : Plan) (s : Swapping) (o : List ℕ) (d : Disk) → s ≡ fresh p → d.tells ≡ false → d.work_state ≡ Closed → Underway s o d
silent_begins p s o d is silent closed =
    subst (λ (x : Swapping). Underway x o d) (sym is) (begins d p o (stands o d silent closed) (λ tells. absurd (unsaid d silent tells)))
