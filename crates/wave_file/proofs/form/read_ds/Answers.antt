use Rattle.std.proofs.Common.{ap, sym, ◌∙◌, Bool}
use Rattle.wave_model.specs.Why.{ds64_why}
use Rattle.wave_file.proofs.Fronts.{sizes_hand}
use Rattle.wave_file.proofs.form.read_ds.Goals as goal

pub returns-in-Err-clause-sizes : goal.returns-in-Err-clause-sizes
returns-in-Err-clause-sizes g c = λ b holds. sizes_hand b c.args.big c.in-Err.fault c.if-not-big.false (c.in-Err.ensures.sizes b holds)

pub returns-in-Ok-clause-sizes : goal.returns-in-Ok-clause-sizes
returns-in-Ok-clause-sizes g c = λ b holds.
    let read = c.in-Ok.ensures.sizes b holds in
    (ap (λ (t : Bool). ds64_why t b) c.if-not-big.false ∙ read.0, λ e. read.1 (sym e ∙ c.if-not-big.false))
