use Rattle.std.proofs.Common.{refl, arith, ap, sym, ◌∙◌, drop, take, length-take, ◌∷◌, []}
use Rattle.std.specs.Prelude.{not}
use Rattle.std.proofs.lemmas.List.{take-take}
use Rattle.container_model.proofs.Windows.{length_slice}
use Rattle.riff_form.specs.Walk.{chunk_in}
use Rattle.wave_model.specs.Wave.{form_kind}
use Rattle.wave_file.specs.Reads.{role_from}
use Rattle.wave_file.proofs.Roles.{role_read, role_no_list, role_short}
use Rattle.wave_file.proofs.chunk.role_in.Goals as goal

pub returns-then-not-is-clause-role : goal.returns-then-not-is-clause-role
returns-then-not-is-clause-role g c = λ b holds.
    let this = chunk_in b (form_kind c.args.wide) c.args.chunk.now in
    c.role_by.ensures.role ∙ role_no_list (not c.args.wide) c.args.chunk.now.id.0 (0 ∷ (0 ∷ (0 ∷ (0 ∷ [])))) (take 4 this.body) (sym c.is.ensures.is ∙ c.if-not-is.true) ∙ role_read b c.args.chunk.now c.args.wide

pub returns-then-chunk-lt4-clause-role : goal.returns-then-chunk-lt4-clause-role
returns-then-chunk-lt4-clause-role g c = λ b holds.
    let this = chunk_in b (form_kind c.args.wide) c.args.chunk.now in
    let long = length_slice b c.args.chunk.now.body.at c.args.chunk.now.body.len (c.requires.inside b holds) in
    c.role_by-then-chunk-lt4.ensures.role ∙ role_short (not c.args.wide) c.args.chunk.now.id.0 (0 ∷ (0 ∷ (0 ∷ (0 ∷ [])))) (take 4 this.body) refl (omega (arith, long, c.if-chunk-lt4.true, length-take 4 this.body))
    ∙ role_read b c.args.chunk.now c.args.wide

pub returns-clause-role : goal.returns-clause-role
returns-clause-role g c = λ b holds.
    let this = chunk_in b (form_kind c.args.wide) c.args.chunk.now in
    let word = c.in_ok-read_at.ensures.bytes holds.tells ∙ ap (λ x. take 4 (drop c.args.chunk.now.body.at x)) holds.bytes ∙ sym (take-take 4 c.args.chunk.now.body.len (drop c.args.chunk.now.body.at b) c.if-chunk-lt4.false) in
    c.role_by-2.ensures.role ∙ ap (role_from (not c.args.wide) c.args.chunk.now.id.0) word ∙ role_read b c.args.chunk.now c.args.wide
