use Rattle.std.proofs.Common.{sym, ◌∙◌, arith, ◌≡◌, ◌<◌, if◌then◌else◌, ◌==◌}
use Rattle.std.proofs.lemmas.Bool.{cond-true, cond-false, eq-eqb, ne_eqb}
use Rattle.field_model.specs.Bext.{version, without_umid, without_loudness}
use Rattle.bext_fields.proofs.Raise.{raise_done}
use Rattle.bext_fields.proofs.raise_version.Goals as goal
use Rattle.bext_fields.proofs.raise_version.Goals.{then-old-eq0, else-old-eq0, then-to-eq2, else-to-eq2}

pub returns : goal.returns
returns c =
    let low : version c.args.bext.now < c.args.to = omega (arith, c.if-old-to.false, c.version_in-old.ensures) in
    let first : c.if-old-eq0.bext ≡ (if version c.args.bext.now == 0 then without_umid c.args.bext.now else c.args.bext.now) =
    elim c.if-old-eq0.branch [
      | then-old-eq0 w ↦ w.bext-is ∙ w.set_raw.ensures ∙ sym (cond-true (version c.args.bext.now == 0) _ _ (eq-eqb (version c.args.bext.now) 0 (omega (arith, w.if-old-eq0.true, c.version_in-old.ensures))))
      | else-old-eq0 w ↦ w.bext-is ∙ sym (cond-false (version c.args.bext.now == 0) _ _ (ne_eqb (version c.args.bext.now) 0 (λ e. w.if-old-eq0.false (c.version_in-old.ensures ∙ e))))
    ]
    in
    let second : c.if-to-eq2.bext ≡ (if c.args.to == 2 then without_loudness c.if-old-eq0.bext else c.if-old-eq0.bext) =
    elim c.if-to-eq2.branch [
      | then-to-eq2 w ↦ w.bext-is ∙ w.clear_loudness.ensures ∙ sym (cond-true (c.args.to == 2) _ _ (eq-eqb c.args.to 2 w.if-to-eq2.true))
      | else-to-eq2 w ↦ w.bext-is ∙ sym (cond-false (c.args.to == 2) _ _ (ne_eqb c.args.to 2 w.if-to-eq2.false))
    ]
    in
    c.set_raw-2.ensures ∙ raise_done c.args.bext.now c.if-old-eq0.bext c.if-to-eq2.bext c.to_le_bytes.result c.args.to low first second c.to_le_bytes.ensures
