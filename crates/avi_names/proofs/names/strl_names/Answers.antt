use Rattle.std.proofs.Common.{◌≡◌, ◌∙◌, ◌+◌, ◌≤◌, length, sym, subst, arith}
use Rattle.std.specs.declared.option.Option.TheVariants.{Some, None}
use Rattle.container_model.specs.Chunk.{riff}
use Rattle.me_disk.proofs.Holds.{holds_on}
use Rattle.me_disk.proofs.Runs.{ReadsOnly-refl, ReadsOnly-trans}
use Rattle.me_disk.proofs.Windows.{empty_window}
use Rattle.riff_form.specs.declared.StepFault.TheVariants.{Truncated}
use Rattle.riff_form.specs.Walk.{chunk_in, row, InOrder, Stepped, Stuck}
use Rattle.avi_names.specs.Names.{EndBy, names_of}
use Rattle.avi_names.proofs.Left.{end_more, named, unnamed, all_named, never_cut, names_start, body_is}
use Rattle.avi_names.proofs.names.strl_names.Goals as goal

pub chunks-init : goal.chunks-init
chunks-init g c = record {
  end = c.new-walker.ensures.end;
  window = empty_window (g.D.Depot.disk c.args.depot.now) c.new-walker.result.window c.new-walker.ensures.empty.0 c.new-walker.ensures.empty.1;
  inside = subst (EndBy (c.args.strl.at + c.args.strl.len)) (sym c.new-names.ensures.items) tt;
  reads = ReadsOnly-refl (g.D.Depot.disk c.args.depot.now);
  left = λ b held. names_start b c.new-walker.result.at c.new-walker.result.end c.args.strl c.new-names.result.items c.new-walker.ensures.at c.new-walker.ensures.end c.new-names.ensures.items (c.requires.whole b held);
}

pub chunks-preserved-in-Ok : goal.chunks-preserved-in-Ok
chunks-preserved-in-Ok g c =
    let before = c.chunks.invariant in
    let k = c.in-Ok-Some.chunk in
    let order : InOrder c.chunks.walker.at c.chunks.walker.end k = rw c.in-Ok-Some.field-0-is at c.in-Ok-Some.ensures.chunk in
    let moved : c.step.new.self.at ≡ k.next = rw c.in-Ok-Some.field-0-is at c.in-Ok-Some.ensures.moved in
    record {
      end = c.step.ensures.end ∙ before.end;
      window = c.step.ensures.window;
      inside = rw c.in-Ok.ensures.items (end_more (c.args.strl.at + c.args.strl.len) c.chunks.names.items k.body before.inside (omega (arith, order.whole, order.last, before.end)));
      reads = ReadsOnly-trans _ _ _ before.reads c.step.ensures.reads;
      left = λ b holds.
          let held = holds_on (g.D.Depot.disk c.args.depot.now) (g.D.Depot.disk c.chunks.depot) b before.reads holds in
          let step : Stepped b c.chunks.walker.at c.chunks.walker.end (Some k) = rw c.in-Ok-Some.field-0-is at (c.in-Ok-Some.ensures.row b held) in
          let inside : c.chunks.walker.end ≤ length b = omega (arith, before.end, c.requires.inside b holds) in
          rw (moved, c.step.ensures.end) (named c.chunks.walker.at k.next (row b c.chunks.walker.at c.chunks.walker.end) (row b k.next c.chunks.walker.end) (chunk_in b riff k) k.body c.chunks.names.items c.push.new.self.items (names_of b c.args.strl) (before.left b holds)
          (record { step = step.0; place = step.1 }) (sym c.is.ensures.is ∙ c.if-is.true) (body_is b c.chunks.walker.at c.chunks.walker.end k inside order) c.in-Ok.ensures.items);
    }

pub chunks-preserved : goal.chunks-preserved
chunks-preserved g c =
    let before = c.chunks.invariant in
    let k = c.in-Ok-Some.chunk in
    let order : InOrder c.chunks.walker.at c.chunks.walker.end k = rw c.in-Ok-Some.field-0-is at c.in-Ok-Some.ensures.chunk in
    let moved : c.step.new.self.at ≡ k.next = rw c.in-Ok-Some.field-0-is at c.in-Ok-Some.ensures.moved in
    record {
      end = c.step.ensures.end ∙ before.end;
      window = c.step.ensures.window;
      inside = before.inside;
      reads = ReadsOnly-trans _ _ _ before.reads c.step.ensures.reads;
      left = λ b holds.
          let held = holds_on (g.D.Depot.disk c.args.depot.now) (g.D.Depot.disk c.chunks.depot) b before.reads holds in
          let step : Stepped b c.chunks.walker.at c.chunks.walker.end (Some k) = rw c.in-Ok-Some.field-0-is at (c.in-Ok-Some.ensures.row b held) in
          rw (moved, c.step.ensures.end) (unnamed c.chunks.walker.at k.next (row b c.chunks.walker.at c.chunks.walker.end) (row b k.next c.chunks.walker.end) (chunk_in b riff k) c.chunks.names.items (names_of b c.args.strl) (before.left b holds) (record { step = step.0; place = step.1 }) (sym c.is.ensures.is ∙ c.if-is.false));
    }

pub returns-in-Err-Truncated-clause-names : goal.returns-in-Err-Truncated-clause-names
returns-in-Err-Truncated-clause-names g c b holds =
    let before = c.chunks.invariant in
    let held = holds_on (g.D.Depot.disk c.args.depot.now) (g.D.Depot.disk c.chunks.depot) b before.reads holds in
    let stuck : Stuck b c.chunks.walker.at c.chunks.walker.end (Truncated c.in-Err-Truncated.field-0-0) = rw c.in-Err-Truncated.field-0-is at (c.in-Err-Truncated.ensures.stuck b held) in
    absurd (never_cut (row b c.chunks.walker.at c.chunks.walker.end) _ (before.left b holds).whole stuck.0)

pub returns-in-Ok-None-clause-names : goal.returns-in-Ok-None-clause-names
returns-in-Ok-None-clause-names g c b holds =
    let before = c.chunks.invariant in
    let held = holds_on (g.D.Depot.disk c.args.depot.now) (g.D.Depot.disk c.chunks.depot) b before.reads holds in
    let step : Stepped b c.chunks.walker.at c.chunks.walker.end None = rw c.in-Ok-None.field-0-is at (c.in-Ok-None.ensures.row b held) in
    all_named c.chunks.walker.at (row b c.chunks.walker.at c.chunks.walker.end) _ c.chunks.names.items (names_of b c.args.strl) (before.left b holds) step
