use Rattle.std.proofs.Common.{◌≡◌, ◌∙◌, ◌+◌, ◌≤◌, ◌++◌, ℕ, length, refl, subst, arith}
use Rattle.std.specs.Prelude.{OnOk}
use Rattle.std.specs.declared.option.Option.TheVariants.{Some, None}
use Rattle.container_model.specs.Chunk.{riff}
use Rattle.container_model.specs.Windows.{window}
use Rattle.container_model.proofs.Windows.{length-window}
use Rattle.me_disk.proofs.Holds.{holds_on}
use Rattle.me_disk.proofs.Runs.{ReadsOnly-refl, ReadsOnly-trans}
use Rattle.me_disk.proofs.Windows.{empty_window}
use Rattle.riff_form.specs.declared.StepFault.TheVariants.{Truncated}
use Rattle.riff_form.specs.Walk.{chunk_in, row, InOrder, Stepped, Stuck}
use Rattle.part_tree.specs.Parts.{rest_parts}
use Rattle.wave_parts.proofs.Listed.{last_left, never_cut, next_ends, next_left, ok_then, part_is}
use Rattle.wave_parts.proofs.items.put_items.Goals as goal

pub items-init : goal.items-init
items-init g c = record {
  end = c.new-walker.ensures.end;
  window = empty_window (g.D.Depot.disk c.args.depot.now) c.new-walker.result.window c.new-walker.ensures.empty.0 c.new-walker.ensures.empty.1;
  reads = ReadsOnly-refl (g.D.Depot.disk c.args.depot.now);
  whole = λ b holds w. rw (c.new-walker.ensures.at, c.new-walker.ensures.end) w;
  left = λ b holds. rw (c.new-walker.ensures.at, c.new-walker.ensures.end) refl;
}

pub items-preserved : goal.items-preserved
items-preserved g c =
    let before = c.items.invariant in
    let k = c.in-Ok-Some.chunk in
    let at = c.items.walker.at in
    let end = c.items.walker.end in
    let order : InOrder at end k = rw c.in-Ok-Some.field-0-is at c.in-Ok-Some.ensures.chunk in
    let moved : c.step.new.self.at ≡ k.next = rw c.in-Ok-Some.field-0-is at c.in-Ok-Some.ensures.moved in
    record {
      end = c.step.ensures.end ∙ before.end;
      window = c.step.ensures.window;
      reads = ReadsOnly-trans _ _ _ before.reads c.step.ensures.reads;
      whole = λ b holds w.
          let held = holds_on (g.D.Depot.disk c.args.depot.now) (g.D.Depot.disk c.items.depot) b before.reads holds in
          let step : Stepped b at end (Some k) = rw c.in-Ok-Some.field-0-is at (c.in-Ok-Some.ensures.row b held) in
          rw (moved, c.step.ensures.end) (next_ends (row b at end) (row b k.next end) (chunk_in b riff k) step.0 (before.whole b holds w));
      left = λ b holds.
          let held = holds_on (g.D.Depot.disk c.args.depot.now) (g.D.Depot.disk c.items.depot) b before.reads holds in
          let step : Stepped b at end (Some k) = rw c.in-Ok-Some.field-0-is at (c.in-Ok-Some.ensures.row b held) in
          let inside : end ≤ length b = omega (arith, before.end, c.requires.inside b holds) in
          rw (moved, c.step.ensures.end) (next_left at k.next (row b at end) (row b k.next end) (chunk_in b riff k) c.items.parts.items c.push.new.self.items _ _ step.0 step.1 c.in-Ok.ensures.items (part_is b at end k inside order step.1) (before.left b holds));
    }

pub returns-in-Err-Truncated-clause-why : goal.returns-in-Err-Truncated-clause-why
returns-in-Err-Truncated-clause-why g c b holds w =
    let before = c.items.invariant in
    let held = holds_on (g.D.Depot.disk c.args.depot.now) (g.D.Depot.disk c.items.depot) b before.reads holds in
    let stuck : Stuck b c.items.walker.at c.items.walker.end (Truncated c.in-Err-Truncated.at) = rw c.in-Err-Truncated.field-0-is at (c.in-Err-Truncated.ensures.stuck b held) in
    never_cut (row b c.items.walker.at c.items.walker.end) _ (before.whole b holds w) stuck.0

pub returns-in-Ok-None-clause-items : goal.returns-in-Ok-None-clause-items
returns-in-Ok-None-clause-items g c b holds w =
    let before = c.items.invariant in
    let held = holds_on (g.D.Depot.disk c.args.depot.now) (g.D.Depot.disk c.items.depot) b before.reads holds in
    let at = c.items.walker.at in
    let end = c.items.walker.end in
    let step : Stepped b at end None = rw c.in-Ok-None.field-0-is at (c.in-Ok-None.ensures.row b held) in
    let moved : c.step.new.self.at ≡ at = rw c.in-Ok-None.field-0-is at c.in-Ok-None.ensures.moved in
    let left = window b at end in
    let long : at + length left ≡ c.args.end = omega (arith, length-window b at end (rw before.end (c.requires.inside b holds)), before.end, c.items.walker.in_order) in
    ok_then c.put_rest.result (λ n. last_left at (row b at end) left c.items.parts.items c.put_rest.new.parts.items _ step (before.left b holds) n)
    (subst (λ (p : ℕ). OnOk c.put_rest.result (c.put_rest.new.parts.items ≡ c.items.parts.items ++ rest_parts p left)) moved (c.put_rest.ensures.rest left (rw moved long)))
