use Rattle.std.proofs.Common.{refl, arith, ap, false, subst, ◌∙◌, ◌≡◌, ◌+◌, ℕ, length}
use Rattle.std.specs.declared.option.Option.TheVariants.{Some, None}
use Rattle.std.specs.declared.result.Result.TheVariants.{Err}
use Rattle.container_model.specs.Chunk.{ends, riff, spell}
use Rattle.container_model.specs.Windows.{window}
use Rattle.container_model.proofs.Windows.{length-window}
use Rattle.me_disk.proofs.Runs.{ReadsOnly-trans}
use Rattle.me_disk.proofs.Holds.{holds_on}
use Rattle.riff_form.specs.declared.StepFault.TheVariants.{Truncated}
use Rattle.riff_form.proofs.Windows.{window_stays}
use Rattle.riff_form.specs.Walk.{chunk_in, row, InOrder, Stepped, Stuck}
use Rattle.avi_file.specs.Walk.{carries, chunk_told, end_told, plain_told, Reads, ReadAll, role_of, run_told}
use Rattle.avi_file.proofs.Left.{left_taken, left_refused, left_cut, left_ended, plain_next}
use Rattle.avi_file.proofs.Placed.{keeps_then, ok_then}
use Rattle.avi_file.proofs.list.read_chunks.Goals as goal

pub returns-in-Err-Truncated-clause-run : goal.returns-in-Err-Truncated-clause-run
returns-in-Err-Truncated-clause-run g c b holds =
    let before = c.chunks.invariant in
    let held = holds_on (g.D.Depot.disk c.args.depot.now) (g.D.Depot.disk c.chunks.depot) b before.reads holds in
    let told = plain_told c.args.inside in
    let at = c.chunks.walker.at in
    let end = c.chunks.walker.end in
    let stuck : Stuck b at end (Truncated c.in-Err-Truncated.at) = rw c.in-Err-Truncated.field-0-is at (c.in-Err-Truncated.ensures.stuck b held) in
    rw c.in-Err-Truncated.field-0-is (left_cut (run_told told c.args.start (row b c.args.start c.args.end)) told at c.in-Err-Truncated.at (row b at end) (window b at end) c.args.reading.now c.chunks.reading (λ p. refl) (before.left b holds) stuck.0 stuck.1)

pub returns-in-Ok-None-clause-run : goal.returns-in-Ok-None-clause-run
returns-in-Ok-None-clause-run g c b holds =
    let before = c.chunks.invariant in
    let held = holds_on (g.D.Depot.disk c.args.depot.now) (g.D.Depot.disk c.chunks.depot) b before.reads holds in
    let told = plain_told c.args.inside in
    let at = c.chunks.walker.at in
    let end = c.chunks.walker.end in
    let step : Stepped b at end None = rw c.in-Ok-None.field-0-is at (c.in-Ok-None.ensures.row b held) in
    let moved : c.step.new.self.at ≡ at = rw c.in-Ok-None.field-0-is at c.in-Ok-None.ensures.moved in
    let left = window b at end in
    let long : at + length left ≡ c.args.end = omega (arith, length-window b at end (rw before.end (c.requires.inside b holds)), before.end, c.chunks.walker.in_order) in
    left_ended (run_told told c.args.start (row b c.args.start c.args.end)) told at (row b at end) left c.args.reading.now c.chunks.reading c.put_rest.new.reading c.put_rest.result (λ p. refl) (before.left b holds) step
    (subst (λ (p : ℕ). Reads (end_told p ends left) c.chunks.reading c.put_rest.new.reading c.put_rest.result) moved (c.put_rest.ensures.took left (rw moved long)))

pub returns-in-Ok-None-clause-placed : goal.returns-in-Ok-None-clause-placed
returns-in-Ok-None-clause-placed g c =
    let before = c.chunks.invariant in
    let moved : c.step.new.self.at ≡ c.chunks.walker.at = rw c.in-Ok-None.field-0-is at c.in-Ok-None.ensures.moved in
    let order = c.chunks.walker.in_order in
    let end = before.end in
    ok_then c.put_rest.result (λ h. keeps_then c.args.start c.chunks.walker.at c.step.new.self.at c.args.end c.chunks.walker.at c.args.end c.args.end c.args.reading.now.parts.items c.chunks.reading.parts.items c.put_rest.new.reading.parts.items before.placed h (omega arith) (omega arith) (omega arith)) c.put_rest.ensures.placed

pub returns-in-Err-clause-run : goal.returns-in-Err-clause-run
returns-in-Err-clause-run g c b holds =
    let before = c.chunks.invariant in
    let k = c.in-Ok-Some.chunk in
    let this = chunk_in b riff k in
    let role = role_of c.args.inside this in
    let told = plain_told c.args.inside in
    let at = c.chunks.walker.at in
    let end = c.chunks.walker.end in
    let held = holds_on (g.D.Depot.disk c.args.depot.now) (g.D.Depot.disk c.chunks.depot) b before.reads holds in
    let later = holds_on (g.D.Depot.disk c.chunks.depot) (g.D.Depot.disk c.step.new.depot) b c.step.ensures.reads held in
    let step : Stepped b at end (Some k) = rw c.in-Ok-Some.field-0-is at (c.in-Ok-Some.ensures.row b held) in
    let order : InOrder at end k = rw c.in-Ok-Some.field-0-is at c.in-Ok-Some.ensures.chunk in
    let place : k.at + length (spell this) ≡ k.next = ap (λ (p : ℕ). p + length (spell this)) order.begins ∙ step.1 in
    let took : Reads (chunk_told (carries c.args.inside this) role at this) c.chunks.reading c.take_chunk.new.reading (Err c.in-Err.fault)
    = subst (λ (p : ℕ). Reads (chunk_told (carries c.args.inside this) role p this) c.chunks.reading c.take_chunk.new.reading (Err c.in-Err.fault)) order.begins (c.in-Err.ensures.took b later place) in
    left_refused (run_told told c.args.start (row b c.args.start c.args.end)) (chunk_told (carries c.args.inside this) role at this) told told at k.next this (row b at end) (row b k.next end) c.args.reading.now c.chunks.reading c.take_chunk.new.reading c.in-Err.fault (before.left b holds) step.0 step.1
    (plain_next c.args.inside at k.next this (row b k.next end) step.1) took

pub chunks-preserved : goal.chunks-preserved
chunks-preserved g c =
    let before = c.chunks.invariant in
    let k = c.in-Ok-Some.chunk in
    let order : InOrder c.chunks.walker.at c.chunks.walker.end k = rw c.in-Ok-Some.field-0-is at c.in-Ok-Some.ensures.chunk in
    let moved : c.step.new.self.at ≡ k.next = rw c.in-Ok-Some.field-0-is at c.in-Ok-Some.ensures.moved in
    record {
      end = c.step.ensures.end ∙ before.end;
      least = omega arith;
      window = window_stays (g.D.Depot.disk c.step.new.depot) (g.D.Depot.disk c.take_chunk.new.depot) c.step.new.self.window c.take_chunk.ensures.reads c.step.ensures.window;
      reads = ReadsOnly-trans _ _ _ (ReadsOnly-trans _ _ _ before.reads c.step.ensures.reads) c.take_chunk.ensures.reads;
      placed = rw moved (keeps_then c.args.start c.chunks.walker.at k.at k.next c.chunks.walker.at k.next k.next c.args.reading.now.parts.items c.chunks.reading.parts.items c.take_chunk.new.reading.parts.items before.placed c.in-Ok.ensures.placed (omega arith) (omega arith) (omega arith));
      left = λ b holds.
          let this = chunk_in b riff k in
          let role = role_of c.args.inside this in
          let told = plain_told c.args.inside in
          let at = c.chunks.walker.at in
          let end = c.chunks.walker.end in
          let held = holds_on (g.D.Depot.disk c.args.depot.now) (g.D.Depot.disk c.chunks.depot) b before.reads holds in
          let later = holds_on (g.D.Depot.disk c.chunks.depot) (g.D.Depot.disk c.step.new.depot) b c.step.ensures.reads held in
          let step : Stepped b at end (Some k) = rw c.in-Ok-Some.field-0-is at (c.in-Ok-Some.ensures.row b held) in
          let place : k.at + length (spell this) ≡ k.next = ap (λ (p : ℕ). p + length (spell this)) order.begins ∙ step.1 in
          let took : ReadAll (chunk_told (carries c.args.inside this) role at this) c.chunks.reading c.take_chunk.new.reading
          = subst (λ (p : ℕ). ReadAll (chunk_told (carries c.args.inside this) role p this) c.chunks.reading c.take_chunk.new.reading) order.begins (c.in-Ok.ensures.took b later place) in
          rw (moved, c.step.ensures.end) (left_taken (run_told told c.args.start (row b c.args.start c.args.end)) (chunk_told (carries c.args.inside this) role at this) told told at k.next this (row b at end) (row b k.next end) c.args.reading.now c.chunks.reading c.take_chunk.new.reading (before.left b holds) step.0 step.1
          (plain_next c.args.inside at k.next this (row b k.next end) step.1) took);
    }
