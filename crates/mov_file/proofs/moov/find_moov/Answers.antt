use Rattle.std.proofs.Common.{arith, refl, sym, ap, subst, ◌≡◌, ◌∙◌, ◌+◌, ◌-◌, ◌≤◌, ℕ, List, length, Bool, true, false}
use Rattle.std.specs.Prelude.{codes}
use Rattle.std.specs.declared.option.Option.TheVariants.{Some}
use Rattle.me_disk.proofs.Holds.{holds_on}
use Rattle.me_disk.proofs.Runs.{ReadsOnly-trans}
use Rattle.container_model.specs.Atoms.{is}
use Rattle.container_model.specs.Chunk.{spell}
use Rattle.container_model.specs.Sizes.{top}
use Rattle.container_model.proofs.Windows.{length_slice}
use Rattle.qt_atoms.specs.Walk.{InOrder, Stepped, atom_in, level_of}
use Rattle.qt_atoms.specs.declared.header.Parent.{Parent}
use Rattle.mov_file.proofs.FirstMoov.{Ahead, found_one, passed_one}
use Rattle.mov_file.proofs.Walks.{stands}
use Rattle.mov_file.proofs.moov.find_moov.Goals as goal

pub returns-then-is-clause-moov : goal.returns-then-is-clause-moov
returns-then-is-clause-moov g c = λ b holds whole.
    let inv = c.atoms.invariant in
    let held = holds_on _ _ b inv.reads holds in
    let at = c.atoms.walker.at in
    let end = c.atoms.walker.end in
    let k = c.in-Ok-Some.atom in
    let this = atom_in b k in
    let order : InOrder at end k = rw c.in-Ok-Some.field-0-is at c.in-Ok-Some.ensures.atom in
    let here : InOrder k.at end k = subst (λ (i : ℕ). InOrder i end k) (sym order.begins) order in
    let step : Stepped top b at end (Some k) = subst (λ (x : Parent). Stepped (level_of x) b at end (Some k)) inv.parent (rw c.in-Ok-Some.field-0-is at (c.in-Ok-Some.ensures.row b held)) in
    let place : k.at + length (spell this) ≡ k.next = ap (λ (i : ℕ). i + length (spell this)) order.begins ∙ step.1 in
    let inside : end ≤ length b = omega (arith, inv.end, whole) in
    let len = length_slice b k.body.at k.body.len (omega (arith, inside, order.behind, order.last)) in
    found_one b at end k (sym c.if-is.ensures.is) order step.0 (stands b k end here len place).body (inv.ahead b holds whole)

pub atoms-preserved : goal.atoms-preserved
atoms-preserved g c =
    let inv = c.atoms.invariant in
    let at = c.atoms.walker.at in
    let end = c.atoms.walker.end in
    let k = c.in-Ok-Some.atom in
    let moved : c.next.new.self.at ≡ k.next = rw c.in-Ok-Some.field-0-is at c.in-Ok-Some.ensures.moved in
    record {
      end = c.next.ensures.end ∙ inv.end;
      parent = c.next.ensures.parent ∙ inv.parent;
      reads = ReadsOnly-trans _ _ _ inv.reads c.next.ensures.reads;
      window = c.next.ensures.window;
      ahead = λ b holds whole.
          let held = holds_on _ _ b inv.reads holds in
          let step : Stepped top b at end (Some k) = subst (λ (x : Parent). Stepped (level_of x) b at end (Some k)) inv.parent (rw c.in-Ok-Some.field-0-is at (c.in-Ok-Some.ensures.row b held)) in
          rw (moved, c.next.ensures.end) (passed_one b at k.next end (atom_in b k) (sym c.if-is.ensures.is) step.0 step.1 (inv.ahead b holds whole));
    }
