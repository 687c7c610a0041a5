use Rattle.std.proofs.Common.{◌≡◌, ◌∙◌, ◌+◌, ◌≤◌, ℕ, Bool, false, List, [], ◌∷◌, ◌++◌, map, length, sym, ap, subst, refl, arith}
use Rattle.std.specs.Prelude.{◌||◌}
use Rattle.std.specs.declared.option.Option.TheVariants.{Some}
use Rattle.me_disk.proofs.Holds.{holds_on}
use Rattle.me_disk.proofs.Runs.{ReadsOnly-refl, ReadsOnly-trans}
use Rattle.me_disk.proofs.Windows.{empty_window}
use Rattle.container_model.specs.Chunk.{riff}
use Rattle.riff_form.specs.Walk.{InOrder, Stepped, chunk_in, row}
use Rattle.unit_plan.specs.Places.{Follow, shape_in}
use Rattle.unit_plan.specs.declared.place.Place.{Place}
use Rattle.avi_names.specs.Names.{chunks_of}
use Rattle.carrier_model.specs.Names.{is_name}
use Rattle.avi_plan.specs.Strls.{cells_from, name_cell, put_here, shapes}
use Rattle.avi_plan.proofs.Rowed.{CountLeft, count_next, count_start, row_next, row_start, there}
use Rattle.avi_plan.proofs.strl.strl_row.Goals as goal

pub chunks-init : goal.chunks-init
chunks-init g c =
    let strl = c.args.strl in
    record {
      end = c.new-walker.ensures.end;
      window = empty_window (g.D.Depot.disk c.args.depot.now) c.new-walker.result.window c.new-walker.ensures.empty.0 c.new-walker.ensures.empty.1;
      reads = ReadsOnly-refl (g.D.Depot.disk c.args.depot.now);
      at = sym c.new-walker.ensures.at;
      follow = subst (λ (ps : List Place). Follow strl.at ps strl.at) (sym c.new.ensures.items) refl;
      left = λ b held. count_start b c.new-walker.result.at c.new-walker.result.end strl c.new-walker.ensures.at c.new-walker.ensures.end (c.requires.whole b held);
      shaped = λ b ns held bytes spelled. row_start b ns c.args.place c.new-walker.result.at c.new-walker.result.end strl c.new.result.items c.new-walker.ensures.at c.new-walker.ensures.end c.new.ensures.items;
    }

pub chunks-preserved : goal.chunks-preserved
chunks-preserved g c =
    let before = c.chunks.invariant in
    let w = c.chunks.walker in
    let k = c.in-Ok-Some.chunk in
    let order : InOrder w.at w.end k = rw c.in-Ok-Some.field-0-is at c.in-Ok-Some.ensures.chunk in
    let moved : c.step.new.self.at ≡ k.next = rw c.in-Ok-Some.field-0-is at c.in-Ok-Some.ensures.moved in
    record {
      end = c.step.ensures.end ∙ before.end;
      window = c.step.ensures.window;
      reads = ReadsOnly-trans _ _ _ before.reads c.step.ensures.reads;
      at = c.in-Ok-put_chunk.ensures.at ∙ sym moved;
      follow = c.in-Ok-put_chunk.ensures.follow c.args.strl.at (c.in-Ok.ensures.follow c.args.strl.at before.follow);
      left = λ b holds.
          let held = holds_on (g.D.Depot.disk c.args.depot.now) (g.D.Depot.disk c.chunks.depot) b before.reads holds in
          let step : Stepped b w.at w.end (Some k) = rw c.in-Ok-Some.field-0-is at (c.in-Ok-Some.ensures.row b held) in
          let count : c.chunks.row.chunks + 1 ≡ c.put_chunk.new.self.chunks = sym (c.in-Ok-put_chunk.ensures.chunks ∙ ap (λ (n : ℕ). n + 1) c.in-Ok.ensures.chunks) in
          rw (moved, c.step.ensures.end) (subst (λ (n : ℕ). CountLeft k.next n (row b k.next w.end) (chunks_of b c.args.strl) c.args.strl.at) count
          (count_next w.at k.next c.chunks.row.chunks (row b w.at w.end) (row b k.next w.end) (chunks_of b c.args.strl) c.args.strl.at (chunk_in b riff k) (before.left b holds) step.0 step.1));
      shaped = λ b ns holds bytes spelled.
          let held = holds_on (g.D.Depot.disk c.args.depot.now) (g.D.Depot.disk c.chunks.depot) b before.reads holds in
          let step : Stepped b w.at w.end (Some k) = rw c.in-Ok-Some.field-0-is at (c.in-Ok-Some.ensures.row b held) in
          let inside : w.end ≤ length b = omega (arith, before.end, c.requires.inside b holds) in
          let stands = there b w.at w.end k bytes inside order step.0 step.1 in
          let whole = shapes (cells_from ns c.args.place false c.args.strl.at (chunks_of b c.args.strl).chunks) in
          let put = subst (λ (p : ℕ). map (shape_in b) c.put_new.new.self.places.items ≡ map (shape_in b) c.chunks.row.places.items ++ shapes (put_here ns c.args.place p)) before.at (c.in-Ok.ensures.shapes b ns spelled) in
          let named = subst (λ (t : Bool). map (shape_in b) c.put_chunk.new.self.places.items ≡ map (shape_in b) c.put_new.new.self.places.items ++ shapes (name_cell ns t (chunk_in b riff k) ∷ [])) c.in-Ok.ensures.named (c.in-Ok-put_chunk.ensures.shapes b ns spelled stands) in
          rw (moved, c.step.ensures.end) (row_next b ns c.args.place c.chunks.row.named c.put_chunk.new.self.named w.at k.next (row b w.at w.end) (row b k.next w.end) (chunk_in b riff k)
          (map (shape_in b) c.chunks.row.places.items) (map (shape_in b) c.put_new.new.self.places.items) (map (shape_in b) c.put_chunk.new.self.places.items) whole (before.shaped b ns holds bytes spelled) step.0 step.1 put named
          (c.in-Ok-put_chunk.ensures.named ∙ ap (λ (t : Bool). t || is_name (chunk_in b riff k)) c.in-Ok.ensures.named));
    }
