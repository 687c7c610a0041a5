use Rattle.std.proofs.Common.{rules, ap, sym, ◌∙◌, ◌≡◌, ◌+◌, ℕ, length}
use Rattle.container_model.proofs.Windows.{length_slice}
use Rattle.riff_form.specs.Walk.{chunk_in}
use Rattle.wave_model.specs.Wave.{form_kind}
use Rattle.wave_file.proofs.Sound.{block_zero, adds_format, two_sounds, adds_sound, adds_nothing}
use Rattle.wave_file.proofs.chunk.read_essence.Goals as goal

pub returns-then-align-eq0-clause-essence : goal.returns-then-align-eq0-clause-essence
returns-then-align-eq0-clause-essence g c = λ b holds wide.
    let this = chunk_in b (form_kind wide) c.args.chunk.now in
    block_zero this c.args.reading.now c.in-Ok.align (sym c.is.ensures.flipped ∙ c.if-is.true) (c.in-Ok.ensures.align b holds) c.if-align-eq0.true

pub returns-then-is-clause-essence : goal.returns-then-is-clause-essence
returns-then-is-clause-essence g c = λ b holds wide.
    let this = chunk_in b (form_kind wide) c.args.chunk.now in
    adds_format this c.args.chunk.now.at c.args.reading.now c.in-Ok.align (sym c.is.ensures.flipped ∙ c.if-is.true) (search rules) (c.in-Ok.ensures.align b holds) c.if-align-eq0.false

pub returns-then-is_some-clause-essence : goal.returns-then-is_some-clause-essence
returns-then-is_some-clause-essence g c = λ b holds wide.
    let this = chunk_in b (form_kind wide) c.args.chunk.now in
    two_sounds this c.args.reading.now (sym c.is.ensures.flipped ∙ c.if-is.false) (sym c.is-2.ensures.flipped ∙ c.if-is-2.true) (sym c.is_some.ensures ∙ c.if-is_some.true)

pub returns-then-is-2-clause-essence : goal.returns-then-is-2-clause-essence
returns-then-is-2-clause-essence g c = λ b holds wide.
    let this = chunk_in b (form_kind wide) c.args.chunk.now in
    let long : length this.body ≡ c.args.chunk.now.body.len = length_slice b c.args.chunk.now.body.at c.args.chunk.now.body.len (c.requires.inside b holds) in
    adds_sound this c.args.chunk.now.at c.args.reading.now c.args.chunk.now.body (sym c.is.ensures.flipped ∙ c.if-is.false) (sym c.is-2.ensures.flipped ∙ c.if-is-2.true) (sym c.is_some.ensures ∙ c.if-is_some.false)
    (ap (λ (x : ℕ). record { at = x; len = c.args.chunk.now.body.len }) c.requires.place ∙ ap (λ (x : ℕ). record { at = c.args.chunk.now.at + 8; len = x }) (sym long))

pub returns-clause-essence : goal.returns-clause-essence
returns-clause-essence g c = λ b holds wide. adds_nothing (chunk_in b (form_kind wide) c.args.chunk.now) c.args.chunk.now.at c.args.reading.now (sym c.is.ensures.flipped ∙ c.if-is.false) (sym c.is-2.ensures.flipped ∙ c.if-is-2.false)
