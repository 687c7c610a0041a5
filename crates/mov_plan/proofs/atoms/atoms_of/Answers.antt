use Rattle.std.proofs.Common.{arith, subst, ◌≡◌, ◌∙◌, ℕ}
use Rattle.std.specs.declared.option.Option.TheVariants.{Some, None}
use Rattle.me_disk.proofs.Holds.{holds_on}
use Rattle.me_disk.proofs.Runs.{ReadsOnly-trans}
use Rattle.container_model.specs.Sizes.{inside}
use Rattle.qt_atoms.specs.Walk.{InOrder, Stepped, level_of, row}
use Rattle.qt_atoms.specs.declared.header.Parent.{Parent}
use Rattle.mov_plan.specs.Atoms.{AllFollow, AreRow}
use Rattle.mov_plan.proofs.Rowing.{follow_more, follow_none, left_more, left_none}
use Rattle.mov_plan.proofs.atoms.atoms_of.Goals as goal

pub returns-in-Ok-None-clause-atoms : goal.returns-in-Ok-None-clause-atoms
returns-in-Ok-None-clause-atoms g c = λ b holds.
    let inv = c.atoms.invariant in
    let held = holds_on _ _ b inv.reads holds in
    let at = c.atoms.walker.at in
    let end = c.atoms.walker.end in
    let step : Stepped inside b at end None = subst (λ (x : Parent). Stepped (level_of x) b at end None) inv.parent (rw c.in-Ok-None.field-0-is at (c.in-Ok-None.ensures.row b held)) in
    let from = c.args.from in
    subst (λ (e : ℕ). AreRow b from c.atoms.atoms.items (row inside b from e).chunks) inv.end (left_none b from c.atoms.atoms.items at end step (inv.left b holds))

pub returns-in-Ok-None-clause-follow : goal.returns-in-Ok-None-clause-follow
returns-in-Ok-None-clause-follow g c =
    let inv = c.atoms.invariant in
    subst (λ (e : ℕ). AllFollow c.args.from c.atoms.atoms.items e) inv.end (follow_none c.args.from c.atoms.atoms.items c.atoms.walker.at c.atoms.walker.end c.atoms.walker.in_order inv.follow)

pub atoms-preserved : goal.atoms-preserved
atoms-preserved g c =
    let inv = c.atoms.invariant in
    let at = c.atoms.walker.at in
    let end = c.atoms.walker.end in
    let k = c.in-Ok-Some.atom in
    let order : InOrder at end k = rw c.in-Ok-Some.field-0-is at c.in-Ok-Some.ensures.atom in
    let moved : c.next.new.self.at ≡ k.next = rw c.in-Ok-Some.field-0-is at c.in-Ok-Some.ensures.moved in
    record {
      end = c.next.ensures.end ∙ inv.end;
      parent = c.next.ensures.parent ∙ inv.parent;
      low = omega (arith, moved, inv.low, order.body, order.behind);
      follow = rw (moved, c.next.ensures.end) (follow_more c.args.from c.atoms.atoms.items c.push.new.self.items at end k order c.in-Ok.ensures.items inv.follow);
      reads = ReadsOnly-trans _ _ _ inv.reads c.next.ensures.reads;
      window = c.next.ensures.window;
      left = λ b holds.
          let held = holds_on _ _ b inv.reads holds in
          let step : Stepped inside b at end (Some k) = subst (λ (x : Parent). Stepped (level_of x) b at end (Some k)) inv.parent (rw c.in-Ok-Some.field-0-is at (c.in-Ok-Some.ensures.row b held)) in
          rw (moved, c.next.ensures.end) (left_more b c.args.from c.atoms.atoms.items c.push.new.self.items at end k order step c.in-Ok.ensures.items (inv.left b holds));
    }
