use Rattle.std.proofs.Common.{arith, ap, sym, ◌∙◌, ◌≡◌, ◌++◌, ◌∷◌, [], List, ℕ, map, take, drop}
use Rattle.std.specs.declared.option.Option.TheVariants.{Some, None}
use Rattle.container_model.specs.Chunk.{riff, Run}
use Rattle.riff_form.specs.Walk.{Stepped, row, chunk_in}
use Rattle.std.proofs.lemmas.List.{append-nil}
use Rattle.info_list.specs.Info.{item_of}
use Rattle.info_list.proofs.Items.{items_more, place_more}
use Rattle.info_list.proofs.read_info.Goals as goal

pub loop-fault-preserved : goal.loop-fault-preserved
loop-fault-preserved c =
    let at = c.loop-fault.walker.at in
    let end = c.loop-fault.walker.end in
    let before = c.loop-fault.invariant in
    let step : Stepped c.args.body.now at end (Some c.in-Ok-Some.chunk) = rw c.in-Ok-Some.field-0-is at c.in-Ok-Some.ensures.row in
    let moved : c.step_in.new.self.at ≡ c.in-Ok-Some.chunk.next = rw c.in-Ok-Some.field-0-is at c.in-Ok-Some.ensures.moved in
    let this = chunk_in c.args.body.now riff c.in-Ok-Some.chunk in
    let next = row c.args.body.now c.in-Ok-Some.chunk.next end in
    let pushed : c.push.new.self.items ≡ c.loop-fault.items.items ++ item_of this ∷ [] =
    c.in-Ok-push.ensures.items ∙ ap (λ (x : List ℕ). c.loop-fault.items.items ++ record { id = c.in-Ok-Some.chunk.id; raw = x } ∷ []) (c.in-Ok.ensures ∙ ap (λ (n : ℕ). take n (drop c.in-Ok-Some.chunk.body.at c.args.body.now)) (omega arith))
    in
    rw (moved, c.step_in.ensures.end, pushed) (record {
      end = before.end;
      items = items_more item_of _ this next c.loop-fault.items.items _ step.0 before.items;
      place = place_more _ this next at _ _ step.0 step.1 before.place;
      stop = ap (λ r. r.stop) (sym step.0) ∙ before.stop;
      left = ap (λ r. r.left) (sym step.0) ∙ before.left;
    })

pub returns-in-Ok-new-clause-list : goal.returns-in-Ok-new-clause-list
returns-in-Ok-new-clause-list c =
    let at = c.loop-fault.walker.at in
    let end = c.loop-fault.walker.end in
    let before = c.loop-fault.invariant in
    let items = c.loop-fault.items.items in
    let step : Stepped c.args.body.now at end None = rw c.in-Ok-None.field-0-is at c.in-Ok-None.ensures.row in
    let moved : c.step_in.new.self.at ≡ at = rw c.in-Ok-None.field-0-is at c.in-Ok-None.ensures.moved in
    record {
      stop = sym before.stop ∙ ap (λ r. r.stop) step;
      items = c.new-in-Ok-new.ensures ∙ sym (append-nil items) ∙ ap (λ (r : Run). items ++ map item_of r.chunks) (sym step) ∙ before.items;
      rest = c.in-Ok-new.ensures ∙ rw (moved, ← before.end) (ap (λ (r : Run). r.left) (sym step) ∙ before.left);
    }
