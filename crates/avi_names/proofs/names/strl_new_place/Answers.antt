use Rattle.std.proofs.Common.{◌≡◌, ◌∙◌, refl}
use Rattle.std.specs.declared.option.Option.TheVariants.{Some, None}
use Rattle.container_model.specs.Chunk.{riff}
use Rattle.me_disk.proofs.Holds.{holds_on}
use Rattle.me_disk.proofs.Runs.{ReadsOnly-refl, ReadsOnly-trans}
use Rattle.me_disk.proofs.Windows.{empty_window}
use Rattle.riff_form.specs.declared.StepFault.TheVariants.{Truncated}
use Rattle.riff_form.specs.Walk.{chunk_in, row, InOrder, Stepped, Stuck}
use Rattle.carrier_model.specs.Names.{is_head}
use Rattle.avi_names.specs.Names.{new_place}
use Rattle.avi_names.proofs.Left.{placed, all_placed, never_cut, place_start}
use Rattle.avi_names.proofs.names.strl_new_place.Goals as goal

pub chunks-init : goal.chunks-init
chunks-init g c = record {
  end = c.new-walker.ensures.end;
  window = empty_window (g.D.Depot.disk c.args.depot.now) c.new-walker.result.window c.new-walker.ensures.empty.0 c.new-walker.ensures.empty.1;
  reads = ReadsOnly-refl (g.D.Depot.disk c.args.depot.now);
  left = λ b held. place_start b c.new-walker.result.at c.new-walker.result.end c.args.strl c.new-walker.ensures.at c.new-walker.ensures.end (c.requires.whole b held);
}

pub chunks-preserved : goal.chunks-preserved
chunks-preserved g c =
    let before = c.chunks.invariant in
    let k = c.in-Ok-Some.chunk in
    let order : InOrder c.chunks.walker.at c.chunks.walker.end k = rw c.in-Ok-Some.field-0-is at c.in-Ok-Some.ensures.chunk in
    let moved : c.step.new.self.at ≡ k.next = rw c.in-Ok-Some.field-0-is at c.in-Ok-Some.ensures.moved in
    record {
      end = c.step.ensures.end ∙ before.end;
      window = c.step.ensures.window;
      reads = ReadsOnly-trans _ _ _ before.reads c.step.ensures.reads;
      left = λ b holds.
          let held = holds_on (g.D.Depot.disk c.args.depot.now) (g.D.Depot.disk c.chunks.depot) b before.reads holds in
          let step : Stepped b c.chunks.walker.at c.chunks.walker.end (Some k) = rw c.in-Ok-Some.field-0-is at (c.in-Ok-Some.ensures.row b held) in
          rw (moved, c.step.ensures.end) (placed c.chunks.walker.at k.next (row b c.chunks.walker.at c.chunks.walker.end) (row b k.next c.chunks.walker.end) (chunk_in b riff k) c.chunks.found c.place_behind-found.result (new_place b c.args.strl) (is_head (chunk_in b riff k)) (before.left b holds) (record { step = step.0; place = step.1 }) refl (c.place_behind-found.ensures b));
    }

pub returns-in-Err-Truncated-clause-place : goal.returns-in-Err-Truncated-clause-place
returns-in-Err-Truncated-clause-place g c b holds =
    let before = c.chunks.invariant in
    let held = holds_on (g.D.Depot.disk c.args.depot.now) (g.D.Depot.disk c.chunks.depot) b before.reads holds in
    let stuck : Stuck b c.chunks.walker.at c.chunks.walker.end (Truncated c.in-Err-Truncated.field-0-0) = rw c.in-Err-Truncated.field-0-is at (c.in-Err-Truncated.ensures.stuck b held) in
    absurd (never_cut (row b c.chunks.walker.at c.chunks.walker.end) _ (before.left b holds).whole stuck.0)

pub returns-in-Ok-None-clause-place : goal.returns-in-Ok-None-clause-place
returns-in-Ok-None-clause-place g c b holds =
    let before = c.chunks.invariant in
    let held = holds_on (g.D.Depot.disk c.args.depot.now) (g.D.Depot.disk c.chunks.depot) b before.reads holds in
    let step : Stepped b c.chunks.walker.at c.chunks.walker.end None = rw c.in-Ok-None.field-0-is at (c.in-Ok-None.ensures.row b held) in
    all_placed c.chunks.walker.at (row b c.chunks.walker.at c.chunks.walker.end) _ c.chunks.found (new_place b c.args.strl) (before.left b holds) step
