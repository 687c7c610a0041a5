use Rattle.std.proofs.Common.{refl, arith, ap, sym, subst, ◌∙◌, ◌≡◌, ◌+◌, ℕ, length}
use Rattle.std.specs.declared.option.Option.TheVariants.{Some, None}
use Rattle.std.specs.declared.result.Result.TheVariants.{Err}
use Rattle.container_model.specs.Chunk.{ends, riff, spell}
use Rattle.std.specs.Prelude.{codes, ◌||◌}
use Rattle.carrier_model.specs.Info.{is_type}
use Rattle.avi_model.specs.Avi.{has_id}
use Rattle.container_model.specs.Windows.{window}
use Rattle.container_model.proofs.Windows.{length-window}
use Rattle.me_disk.proofs.Runs.{ReadsOnly-trans}
use Rattle.me_disk.proofs.Holds.{holds_on}
use Rattle.riff_form.specs.declared.StepFault.TheVariants.{Truncated}
use Rattle.riff_form.proofs.Windows.{window_stays}
use Rattle.riff_form.specs.Walk.{chunk_in, row, InOrder, Stepped, Stuck}
use Rattle.avi_file.specs.Walk.{end_told, opened_top, top_told, Reads, ReadAll, run_told}
use Rattle.avi_file.proofs.Left.{left_taken, left_refused, left_cut, left_ended}
use Rattle.avi_file.proofs.Opened.{top_next, hdrl_next, hdrl_last}
use Rattle.avi_file.proofs.Placed.{keeps_then, ok_always, ok_then}
use Rattle.avi_file.proofs.top.read_top.Goals as goal

pub returns-in-Err-Truncated-clause-run : goal.returns-in-Err-Truncated-clause-run
returns-in-Err-Truncated-clause-run g c b holds =
    let before = c.chunks.invariant in
    let held = holds_on (g.D.Depot.disk c.args.depot.now) (g.D.Depot.disk c.chunks.depot) b before.reads holds in
    let told = top_told c.chunks.top.hdrl c.chunks.top.idx1 in
    let all = top_told c.args.top.now.hdrl c.args.top.now.idx1 in
    let at = c.chunks.walker.at in
    let end = c.chunks.walker.end in
    let stuck : Stuck b at end (Truncated c.in-Err-Truncated.at) = rw c.in-Err-Truncated.field-0-is at (c.in-Err-Truncated.ensures.stuck b held) in
    rw c.in-Err-Truncated.field-0-is (left_cut (run_told all c.args.start (row b c.args.start c.args.end)) told at c.in-Err-Truncated.at (row b at end) (window b at end) c.args.top.now.reading c.chunks.top.reading (λ p. refl) (before.left b holds) stuck.0 stuck.1)

pub returns-in-Ok-None-clause-run : goal.returns-in-Ok-None-clause-run
returns-in-Ok-None-clause-run g c b holds =
    let before = c.chunks.invariant in
    let held = holds_on (g.D.Depot.disk c.args.depot.now) (g.D.Depot.disk c.chunks.depot) b before.reads holds in
    let told = top_told c.chunks.top.hdrl c.chunks.top.idx1 in
    let all = top_told c.args.top.now.hdrl c.args.top.now.idx1 in
    let at = c.chunks.walker.at in
    let end = c.chunks.walker.end in
    let step : Stepped b at end None = rw c.in-Ok-None.field-0-is at (c.in-Ok-None.ensures.row b held) in
    let moved : c.step.new.self.at ≡ at = rw c.in-Ok-None.field-0-is at c.in-Ok-None.ensures.moved in
    let left = window b at end in
    let long : at + length left ≡ c.args.end = omega (arith, length-window b at end (rw before.end (c.requires.inside b holds)), before.end, c.chunks.walker.in_order) in
    left_ended (run_told all c.args.start (row b c.args.start c.args.end)) told at (row b at end) left c.args.top.now.reading c.chunks.top.reading c.put_rest.new.reading c.put_rest.result (λ p. refl) (before.left b holds) step
    (subst (λ (p : ℕ). Reads (end_told p ends left) c.chunks.top.reading c.put_rest.new.reading c.put_rest.result) moved (c.put_rest.ensures.took left (rw moved long)))

pub returns-in-Ok-None-clause-placed : goal.returns-in-Ok-None-clause-placed
returns-in-Ok-None-clause-placed g c =
    let before = c.chunks.invariant in
    let moved : c.step.new.self.at ≡ c.chunks.walker.at = rw c.in-Ok-None.field-0-is at c.in-Ok-None.ensures.moved in
    let order = c.chunks.walker.in_order in
    let end = before.end in
    ok_then c.put_rest.result (λ h. keeps_then c.args.start c.chunks.walker.at c.step.new.self.at c.args.end c.chunks.walker.at c.args.end c.args.end c.args.top.now.reading.parts.items c.chunks.top.reading.parts.items c.put_rest.new.reading.parts.items before.placed h (omega arith) (omega arith) (omega arith)) c.put_rest.ensures.placed

pub returns-in-Err-clause-run : goal.returns-in-Err-clause-run
returns-in-Err-clause-run g c b holds =
    let before = c.chunks.invariant in
    let k = c.in-Ok-Some.chunk in
    let this = chunk_in b riff k in
    let told = top_told c.chunks.top.hdrl c.chunks.top.idx1 in
    let all = top_told c.args.top.now.hdrl c.args.top.now.idx1 in
    let at = c.chunks.walker.at in
    let end = c.chunks.walker.end in
    let held = holds_on (g.D.Depot.disk c.args.depot.now) (g.D.Depot.disk c.chunks.depot) b before.reads holds in
    let later = holds_on (g.D.Depot.disk c.chunks.depot) (g.D.Depot.disk c.step.new.depot) b c.step.ensures.reads held in
    let later_told = top_told (c.chunks.top.hdrl || is_type (codes "hdrl") this) (c.chunks.top.idx1 || has_id (codes "idx1") this) in
    let step : Stepped b at end (Some k) = rw c.in-Ok-Some.field-0-is at (c.in-Ok-Some.ensures.row b held) in
    let order : InOrder at end k = rw c.in-Ok-Some.field-0-is at c.in-Ok-Some.ensures.chunk in
    let place : k.at + length (spell this) ≡ k.next = ap (λ (p : ℕ). p + length (spell this)) order.begins ∙ step.1 in
    let took : Reads (opened_top c.chunks.top.hdrl c.chunks.top.idx1 at this) c.chunks.top.reading c.take_top.new.top.reading (Err c.in-Err.fault)
    = subst (λ (p : ℕ). Reads (opened_top c.chunks.top.hdrl c.chunks.top.idx1 p this) c.chunks.top.reading c.take_top.new.top.reading (Err c.in-Err.fault)) order.begins (c.in-Err.ensures.took b later place) in
    left_refused (run_told all c.args.start (row b c.args.start c.args.end)) (opened_top c.chunks.top.hdrl c.chunks.top.idx1 at this) told later_told at k.next this (row b at end) (row b k.next end) c.args.top.now.reading c.chunks.top.reading c.take_top.new.top.reading c.in-Err.fault (before.left b holds) step.0 step.1
    (top_next c.chunks.top.hdrl c.chunks.top.idx1 at k.next this (row b k.next end) step.1) took

pub chunks-preserved : goal.chunks-preserved
chunks-preserved g c =
    let before = c.chunks.invariant in
    let k = c.in-Ok-Some.chunk in
    let order : InOrder c.chunks.walker.at c.chunks.walker.end k = rw c.in-Ok-Some.field-0-is at c.in-Ok-Some.ensures.chunk in
    let moved : c.step.new.self.at ≡ k.next = rw c.in-Ok-Some.field-0-is at c.in-Ok-Some.ensures.moved in
    record {
      end = c.step.ensures.end ∙ before.end;
      least = omega arith;
      window = window_stays (g.D.Depot.disk c.step.new.depot) (g.D.Depot.disk c.take_top.new.depot) c.step.new.self.window c.take_top.ensures.reads c.step.ensures.window;
      reads = ReadsOnly-trans _ _ _ (ReadsOnly-trans _ _ _ before.reads c.step.ensures.reads) c.take_top.ensures.reads;
      placed = rw moved (keeps_then c.args.start c.chunks.walker.at k.at k.next c.chunks.walker.at k.next k.next c.args.top.now.reading.parts.items c.chunks.top.reading.parts.items c.take_top.new.top.reading.parts.items before.placed c.in-Ok.ensures.placed (omega arith) (omega arith) (omega arith));
      hdrl = λ b holds.
          let this = chunk_in b riff k in
          let at = c.chunks.walker.at in
          let end = c.chunks.walker.end in
          let held = holds_on (g.D.Depot.disk c.args.depot.now) (g.D.Depot.disk c.chunks.depot) b before.reads holds in
          let later = holds_on (g.D.Depot.disk c.chunks.depot) (g.D.Depot.disk c.step.new.depot) b c.step.ensures.reads held in
          let step : Stepped b at end (Some k) = rw c.in-Ok-Some.field-0-is at (c.in-Ok-Some.ensures.row b held) in
          rw (moved, c.step.ensures.end, c.in-Ok.ensures.hdrl b later) (sym (hdrl_next c.chunks.top.hdrl this (row b at end) (row b k.next end) step.0) ∙ before.hdrl b holds);
      left = λ b holds.
          let this = chunk_in b riff k in
          let told = top_told c.chunks.top.hdrl c.chunks.top.idx1 in
          let all = top_told c.args.top.now.hdrl c.args.top.now.idx1 in
          let at = c.chunks.walker.at in
          let end = c.chunks.walker.end in
          let held = holds_on (g.D.Depot.disk c.args.depot.now) (g.D.Depot.disk c.chunks.depot) b before.reads holds in
          let later = holds_on (g.D.Depot.disk c.chunks.depot) (g.D.Depot.disk c.step.new.depot) b c.step.ensures.reads held in
          let later_told = top_told (c.chunks.top.hdrl || is_type (codes "hdrl") this) (c.chunks.top.idx1 || has_id (codes "idx1") this) in
          let step : Stepped b at end (Some k) = rw c.in-Ok-Some.field-0-is at (c.in-Ok-Some.ensures.row b held) in
          let place : k.at + length (spell this) ≡ k.next = ap (λ (p : ℕ). p + length (spell this)) order.begins ∙ step.1 in
          let took : ReadAll (opened_top c.chunks.top.hdrl c.chunks.top.idx1 at this) c.chunks.top.reading c.take_top.new.top.reading
          = subst (λ (p : ℕ). ReadAll (opened_top c.chunks.top.hdrl c.chunks.top.idx1 p this) c.chunks.top.reading c.take_top.new.top.reading) order.begins (c.in-Ok.ensures.took b later place) in
          rw (moved, c.step.ensures.end, c.in-Ok.ensures.hdrl b later, c.in-Ok.ensures.idx1 b later) (left_taken (run_told all c.args.start (row b c.args.start c.args.end)) (opened_top c.chunks.top.hdrl c.chunks.top.idx1 at this) told later_told at k.next this (row b at end) (row b k.next end) c.args.top.now.reading c.chunks.top.reading c.take_top.new.top.reading (before.left b holds) step.0 step.1
          (top_next c.chunks.top.hdrl c.chunks.top.idx1 at k.next this (row b k.next end) step.1) took);
    }

pub returns-in-Ok-None-clause-hdrl : goal.returns-in-Ok-None-clause-hdrl
returns-in-Ok-None-clause-hdrl g c b holds =
    let before = c.chunks.invariant in
    let held = holds_on (g.D.Depot.disk c.args.depot.now) (g.D.Depot.disk c.chunks.depot) b before.reads holds in
    let at = c.chunks.walker.at in
    let end = c.chunks.walker.end in
    let step : Stepped b at end None = rw c.in-Ok-None.field-0-is at (c.in-Ok-None.ensures.row b held) in
    ok_always c.put_rest.result (hdrl_last c.chunks.top.hdrl (row b at end) ends (window b at end) step ∙ before.hdrl b holds)
