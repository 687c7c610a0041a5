use Rattle.std.proofs.Common.{refl, arith, ap, sym, subst, ◌∙◌, ◌≡◌, ◌+◌, ◌≤◌, ◌++◌, ◌∷◌, [], ℕ, length}
use Rattle.std.specs.declared.option.Option.TheVariants.{Some, None}
use Rattle.part_tree.specs.declared.part.Part.{Part}
use Rattle.part_tree.specs.declared.part.Role.TheVariants.{Sizes}
use Rattle.container_model.specs.Chunk.{spell}
use Rattle.container_model.proofs.Windows.{length_slice}
use Rattle.riff_form.specs.Walk.{chunk_in, InOrder}
use Rattle.wave_model.specs.Wave.{form_kind}
use Rattle.wave_file.specs.Reads.{IsLeft}
use Rattle.wave_file.specs.Sized.{FoundAt, StuckAt, run_at, state_of}
use Rattle.wave_file.proofs.Begins.{begins_plain, begins_none, begins_fails, begins_first}
use Rattle.wave_file.proofs.Took.{part_from, part_is}
use Rattle.wave_file.proofs.form.begin.Goals as goal

pub returns-in-None-clause-begins : goal.returns-in-None-clause-begins
returns-in-None-clause-begins g c = λ b holds form.
    subst (λ (p : ℕ). IsLeft b (run_at (state_of c.args.sizing.now) b p c.args.walker.now.end) p c.args.reading.now) (sym c.requires.starts)
    (begins_plain b c.args.walker.now.end c.args.reading.now c.args.sizing.now form c.requires.fresh c.in-None.is)

pub returns-in-Err-clause-begins : goal.returns-in-Err-clause-begins
returns-in-Err-clause-begins g c = λ b holds form.
    let stuck : StuckAt b 12 c.args.walker.now.end c.args.sizing.now c.in-Err.fault = subst (λ (p : ℕ). StuckAt b p c.args.walker.now.end c.args.sizing.now c.in-Err.fault) c.requires.starts (c.in-Err.ensures.steps b holds) in
    begins_fails b c.args.walker.now.end c.next_chunk.new.walker.at c.args.reading.now c.args.reading.now c.args.sizing.now c.next_chunk.new.sizing _ c.in-Err.fault form c.requires.fresh c.in-Some.is stuck

pub returns-in-Ok-None-clause-begins : goal.returns-in-Ok-None-clause-begins
returns-in-Ok-None-clause-begins g c = λ b holds form.
    let step : FoundAt b c.args.walker.now.at c.args.walker.now.end c.args.sizing.now c.next_chunk.new.sizing None = rw c.in-Ok-None.field-0-is at (c.in-Ok-None.ensures.steps b holds) in
    let moved : c.next_chunk.new.walker.at ≡ c.args.walker.now.at = rw c.in-Ok-None.field-0-is at c.in-Ok-None.ensures.moved in
    rw (moved ∙ c.requires.starts, c.next_chunk.ensures.end)
    (begins_none b c.args.walker.now.end c.args.reading.now c.args.sizing.now c.next_chunk.new.sizing _ _ form c.requires.fresh c.in-Some.is
    (ap (λ (p : ℕ). run_at (state_of c.args.sizing.now) b p c.args.walker.now.end) (sym c.requires.starts) ∙ step.0) step.1)

pub returns-in-Ok-None-clause-few : goal.returns-in-Ok-None-clause-few
returns-in-Ok-None-clause-few g c =
    let few : length c.next_chunk.new.sizing.wides.items ≤ length c.args.sizing.now.wides.items + 0 = rw c.in-Ok-None.field-0-is at c.in-Ok-None.ensures.few in
    omega (arith, few, ap length c.requires.fresh.wides)

pub returns-in-Ok-clause-begins : goal.returns-in-Ok-clause-begins
returns-in-Ok-clause-begins g c = λ b holds form.
    let k = c.in-Ok-Some.found.chunk in
    let this = chunk_in b (form_kind c.in-Ok-Some.found.wide) k in
    let step : FoundAt b c.args.walker.now.at c.args.walker.now.end c.args.sizing.now c.next_chunk.new.sizing (Some c.in-Ok-Some.found) = rw c.in-Ok-Some.field-0-is at (c.in-Ok-Some.ensures.steps b holds) in
    let moved : c.next_chunk.new.walker.at ≡ k.next = rw c.in-Ok-Some.field-0-is at c.in-Ok-Some.ensures.moved in
    let order : InOrder c.args.walker.now.at c.args.walker.now.end k = rw c.in-Ok-Some.field-0-is at c.in-Ok-Some.ensures.order in
    let inside = c.requires.inside b holds in
    let long : length this.body ≡ k.body.len = length_slice b k.body.at k.body.len (omega (arith, inside, order.whole, order.last)) in
    let place : 12 + length (spell this) ≡ k.next = ap (λ (p : ℕ). p + length (spell this)) (sym c.requires.starts) ∙ step.1 in
    let part = ap (λ (p : ℕ). part_from k.id p k.body.at k.body.len k.next Sizes) (order.begins ∙ c.requires.starts) ∙ part_is this k.id 12 k.body.at k.body.len k.next Sizes Sizes refl (order.body ∙ ap (λ (p : ℕ). p + 8) c.requires.starts) long place refl in
    rw (moved, c.next_chunk.ensures.end)
    (begins_first b c.args.walker.now.end k.next this (run_at (state_of c.next_chunk.new.sizing) b k.next c.args.walker.now.end) c.args.reading.now _ c.args.sizing.now _ form c.requires.fresh c.in-Some.is
    (ap (λ (p : ℕ). run_at (state_of c.args.sizing.now) b p c.args.walker.now.end) (sym c.requires.starts) ∙ step.0) place
    refl (c.in-Ok.ensures.items ∙ ap (λ (x : Part). c.args.reading.now.parts.items ++ x ∷ []) part) refl refl refl refl)
