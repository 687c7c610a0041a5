use Rattle.std.proofs.Common.{arith, sym, ◌∙◌, refl}
use Rattle.std.proofs.lemmas.Bool.{not-false, not-true}
use Rattle.me_disk.specs.Disk.{bytes_of}
use Rattle.wave_plan.proofs.Frames.{behind_sizes, long_file, narrow}
use Rattle.wave_plan.proofs.frame.reads_wide.Goals as goal

pub returns-then-not-form-clause-wide : goal.returns-then-not-form-clause-wide
returns-then-not-form-clause-wide g c = λ b holds bytes from. narrow b (sym (c.requires.form b holds).big ∙ not-true _ c.if-not-form.true)

pub returns-then-from-lt28-clause-wide : goal.returns-then-from-lt28-clause-wide
returns-then-from-lt28-clause-wide g c = λ b holds bytes from.
    let form = c.requires.form b holds in
    let far = behind_sizes b bytes form.supported (sym form.big ∙ not-false _ c.if-not-form.false) in
    absurd (omega (arith, far, from, c.if-from-lt28.true))

pub read_at-requires : goal.read_at-requires
read_at-requires g c = λ tells.
    let d = g.D.Depot.disk c.args.depot.now in
    let form = c.requires.form (bytes_of d.slots.main) (record { tells = tells; bytes = refl }) in
    omega (arith, long_file (bytes_of d.slots.main) form.supported)
