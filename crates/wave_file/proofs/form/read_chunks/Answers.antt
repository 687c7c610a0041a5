use Rattle.std.proofs.Common.{refl, arith, ap, subst, ◌∙◌, ◌≡◌, ◌+◌, ◌≤◌, ℕ, length}
use Rattle.std.specs.declared.option.Option.TheVariants.{Some, None}
use Rattle.std.specs.declared.result.Result.TheVariants.{Err}
use Rattle.container_model.specs.Chunk.{spell}
use Rattle.me_disk.proofs.Runs.{ReadsOnly-trans}
use Rattle.me_disk.proofs.Holds.{holds_on}
use Rattle.riff_form.proofs.Windows.{window_stays}
use Rattle.riff_form.specs.Walk.{chunk_in, InOrder}
use Rattle.wave_model.specs.Wave.{form_kind}
use Rattle.wave_file.specs.Reads.{Took, Takes, Ends}
use Rattle.wave_file.specs.Sized.{FoundAt, run_at, state_of}
use Rattle.wave_file.proofs.Left.{left_more, take_fails, chunks_stuck, no_format, no_sound, left_all, lawful}
use Rattle.wave_file.proofs.Took.{ascend_to}
use Rattle.wave_file.proofs.form.read_chunks.Goals as goal

pub returns-in-Err-next_chunk-clause-chunks : goal.returns-in-Err-next_chunk-clause-chunks
returns-in-Err-next_chunk-clause-chunks g c = λ b holds form.
    let before = c.chunks.invariant in
    let held = holds_on (g.D.Depot.disk c.args.depot.now) (g.D.Depot.disk c.chunks.depot) b before.reads holds in
    chunks_stuck b c.chunks.walker.at c.chunks.walker.end c.chunks.sizing c.chunks.reading c.in-Err-next_chunk.fault (before.left b holds form) (c.in-Err-next_chunk.ensures.steps b held)

pub returns-in-Err-take_chunk-clause-chunks : goal.returns-in-Err-take_chunk-clause-chunks
returns-in-Err-take_chunk-clause-chunks g c = λ b holds form.
    let before = c.chunks.invariant in
    let k = c.in-Ok-Some.found.chunk in
    let this = chunk_in b (form_kind c.in-Ok-Some.found.wide) k in
    let held = holds_on (g.D.Depot.disk c.args.depot.now) (g.D.Depot.disk c.chunks.depot) b before.reads holds in
    let then = holds_on (g.D.Depot.disk c.chunks.depot) (g.D.Depot.disk c.next_chunk.new.depot) b c.next_chunk.ensures.reads held in
    let step : FoundAt b c.chunks.walker.at c.chunks.walker.end c.chunks.sizing c.next_chunk.new.sizing (Some c.in-Ok-Some.found) = rw c.in-Ok-Some.field-0-is at (c.in-Ok-Some.ensures.steps b held) in
    let order : InOrder c.chunks.walker.at c.chunks.walker.end k = rw c.in-Ok-Some.field-0-is at c.in-Ok-Some.ensures.order in
    let place : k.at + length (spell this) ≡ k.next = ap (λ (p : ℕ). p + length (spell this)) order.begins ∙ step.1 in
    let took : Takes this c.chunks.walker.at c.chunks.reading c.take_chunk.new.reading (Err c.in-Err-take_chunk.fault)
    = subst (λ (p : ℕ). Takes this p c.chunks.reading c.take_chunk.new.reading (Err c.in-Err-take_chunk.fault)) order.begins (c.in-Err-take_chunk.ensures.took b then place) in
    take_fails b _ _ c.chunks.walker.at this c.chunks.reading c.take_chunk.new.reading c.in-Err-take_chunk.fault (before.left b holds form) step.0 took

pub chunks-preserved : goal.chunks-preserved
chunks-preserved g c =
    let before = c.chunks.invariant in
    let k = c.in-Ok-Some.found.chunk in
    let order : InOrder c.chunks.walker.at c.chunks.walker.end k = rw c.in-Ok-Some.field-0-is at c.in-Ok-Some.ensures.order in
    let moved : c.next_chunk.new.walker.at ≡ k.next = rw c.in-Ok-Some.field-0-is at c.in-Ok-Some.ensures.moved in
    let few : length c.next_chunk.new.sizing.wides.items ≤ length c.chunks.sizing.wides.items + 1 = rw c.in-Ok-Some.field-0-is at c.in-Ok-Some.ensures.few in
    record {
      end = c.next_chunk.ensures.end ∙ before.end;
      partial = rw moved c.in-Ok-take_chunk.ensures.partial;
      few = omega (arith, few, before.few, c.in-Ok-take_chunk.ensures.more);
      same = c.next_chunk.ensures.same ∙ before.same;
      window = window_stays (g.D.Depot.disk c.next_chunk.new.depot) (g.D.Depot.disk c.take_chunk.new.depot) c.next_chunk.new.walker.window c.take_chunk.ensures.reads c.next_chunk.ensures.window;
      reads = ReadsOnly-trans _ _ _ (ReadsOnly-trans _ _ _ before.reads c.next_chunk.ensures.reads) c.take_chunk.ensures.reads;
      left = λ b holds form.
          let this = chunk_in b (form_kind c.in-Ok-Some.found.wide) k in
          let held = holds_on (g.D.Depot.disk c.args.depot.now) (g.D.Depot.disk c.chunks.depot) b before.reads holds in
          let then = holds_on (g.D.Depot.disk c.chunks.depot) (g.D.Depot.disk c.next_chunk.new.depot) b c.next_chunk.ensures.reads held in
          let step : FoundAt b c.chunks.walker.at c.chunks.walker.end c.chunks.sizing c.next_chunk.new.sizing (Some c.in-Ok-Some.found) = rw c.in-Ok-Some.field-0-is at (c.in-Ok-Some.ensures.steps b held) in
          let place : k.at + length (spell this) ≡ k.next = ap (λ (p : ℕ). p + length (spell this)) order.begins ∙ step.1 in
          let took : Took this c.chunks.walker.at c.chunks.reading c.take_chunk.new.reading = subst (λ (p : ℕ). Took this p c.chunks.reading c.take_chunk.new.reading) order.begins (c.in-Ok-take_chunk.ensures.took b then place) in
          rw (moved, c.next_chunk.ensures.end) (left_more b (run_at (state_of c.chunks.sizing) b c.chunks.walker.at c.chunks.walker.end) (run_at (state_of c.next_chunk.new.sizing) b k.next c.chunks.walker.end) c.chunks.walker.at k.next this c.chunks.reading c.take_chunk.new.reading (before.left b holds form) step.0 step.1 took);
    }

pub returns-in_default-clause-chunks : goal.returns-in_default-clause-chunks
returns-in_default-clause-chunks g c = λ b holds form.
    let before = c.chunks.invariant in
    let held = holds_on (g.D.Depot.disk c.args.depot.now) (g.D.Depot.disk c.chunks.depot) b before.reads holds in
    let step : FoundAt b c.chunks.walker.at c.chunks.walker.end c.chunks.sizing c.next_chunk.new.sizing None = rw c.in-Ok-None.field-0-is at (c.in-Ok-None.ensures.steps b held) in
    no_format b _ c.chunks.walker.at _ c.chunks.reading (before.left b holds form) step.0 c.in_default.is

pub returns-in_default-sound-clause-chunks : goal.returns-in_default-sound-clause-chunks
returns-in_default-sound-clause-chunks g c = λ b holds form.
    let before = c.chunks.invariant in
    let held = holds_on (g.D.Depot.disk c.args.depot.now) (g.D.Depot.disk c.chunks.depot) b before.reads holds in
    let step : FoundAt b c.chunks.walker.at c.chunks.walker.end c.chunks.sizing c.next_chunk.new.sizing None = rw c.in-Ok-None.field-0-is at (c.in-Ok-None.ensures.steps b held) in
    no_sound b _ c.chunks.walker.at _ c.chunks.reading c.in-Some.align (before.left b holds form) step.0 c.in-Some.is c.in_default-sound.is

pub returns-clause-chunks : goal.returns-clause-chunks
returns-clause-chunks g c = λ b holds form.
    let before = c.chunks.invariant in
    let held = holds_on (g.D.Depot.disk c.args.depot.now) (g.D.Depot.disk c.chunks.depot) b before.reads holds in
    let step : FoundAt b c.chunks.walker.at c.chunks.walker.end c.chunks.sizing c.next_chunk.new.sizing None = rw c.in-Ok-None.field-0-is at (c.in-Ok-None.ensures.steps b held) in
    left_all b _ c.chunks.walker.at _ c.chunks.reading c.in-Some.align c.in-Some-sound.sound _ (before.left b holds form) step.0 c.in-Some.is c.in-Some-sound.is refl refl refl refl

pub returns-clause-sound : goal.returns-clause-sound
returns-clause-sound g c =
    let before = c.chunks.invariant in
    let ends : Ends c.chunks.walker.at (Some c.in-Some-sound.sound) = subst (Ends c.chunks.walker.at) c.in-Some-sound.is before.partial.sound in
    record {
      ascends = ascend_to 12 c.chunks.walker.at c.args.end c.chunks.reading.parts.items (omega arith) before.partial.ascends;
      sound = omega (arith, ends);
      lawful = lawful c.chunks.reading.has_bext c.chunks.reading.fields before.partial.ranges before.partial.keys;
    }
