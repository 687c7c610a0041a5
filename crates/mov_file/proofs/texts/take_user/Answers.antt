use Rattle.std.proofs.Common.{arith, refl, sym, ap, subst, ◌≡◌, ◌∙◌, ◌+◌, ◌-◌, ◌≤◌, ℕ, List, length, []}
use Rattle.std.specs.declared.option.Option.TheVariants.{Some, None}
use Rattle.me_disk.proofs.Holds.{holds_on}
use Rattle.me_disk.proofs.Runs.{ReadsOnly-trans}
use Rattle.container_model.specs.Chunk.{Chunk, ends}
use Rattle.container_model.specs.Sizes.{user}
use Rattle.container_model.specs.Windows.{window}
use Rattle.mov_file.specs.Fields.{Grows, texts_held}
use Rattle.qt_atoms.specs.Walk.{InOrder, Stepped, atom_in, level_of, row}
use Rattle.qt_atoms.specs.declared.header.Parent.{Parent}
use Rattle.qt_atoms.proofs.Windows.{window_stays}
use Rattle.mov_file.proofs.Grown.{UserLeft, user_end, user_next}
use Rattle.mov_file.proofs.texts.take_user.Goals as goal

pub returns-in-Ok-None-clause-texts : goal.returns-in-Ok-None-clause-texts
returns-in-Ok-None-clause-texts g c = λ b holds.
    let inv = c.items.invariant in
    let held = holds_on _ _ b inv.reads holds in
    let at = c.items.walker.at in
    let end = c.items.walker.end in
    let step : Stepped user b at end None = subst (λ (x : Parent). Stepped (level_of x) b at end None) inv.parent (rw c.in-Ok-None.field-0-is at (c.in-Ok-None.ensures.row b held)) in
    subst (λ (e : ℕ). Grows c.args.fields.now c.items.fields (texts_held (row user b c.args.span.at e).chunks)) inv.end
    (user_end b c.args.span.at end c.args.fields.now c.items.fields at ends (window b at end) step (inv.left b holds))

pub items-preserved : goal.items-preserved
items-preserved g c =
    let inv = c.items.invariant in
    let at = c.items.walker.at in
    let end = c.items.walker.end in
    let k = c.in-Ok-Some.atom in
    let moved : c.next.new.self.at ≡ k.next = rw c.in-Ok-Some.field-0-is at c.in-Ok-Some.ensures.moved in
    record {
      end = c.next.ensures.end ∙ inv.end;
      parent = c.next.ensures.parent ∙ inv.parent;
      reads = ReadsOnly-trans _ _ _ (ReadsOnly-trans _ _ _ inv.reads c.next.ensures.reads) c.take_item.ensures.reads;
      window = window_stays (g.D.Depot.disk c.next.new.depot) (g.D.Depot.disk c.take_item.new.depot) c.next.new.self.window c.take_item.ensures.reads c.next.ensures.window;
      lawful = λ law. c.in-Ok.ensures.lawful (inv.lawful law);
      left = λ b holds.
          let held = holds_on _ _ b inv.reads holds in
          let later = holds_on _ _ b c.next.ensures.reads held in
          let step : Stepped user b at end (Some k) = subst (λ (x : Parent). Stepped (level_of x) b at end (Some k)) inv.parent (rw c.in-Ok-Some.field-0-is at (c.in-Ok-Some.ensures.row b held)) in
          rw (moved, c.next.ensures.end) (user_next b c.args.span.at at k.next end c.args.fields.now c.items.fields c.take_item.new.fields (atom_in b k) step.0 (c.in-Ok.ensures.texts b later) (inv.left b holds));
    }
