use Rattle.me_disk.proofs.Holds.{holds_on}
use Rattle.wave_file.proofs.Fronts.{front_fails}
use Rattle.wave_file.proofs.form.read_wave.Goals as goal

pub returns-in-Err-read_front-clause-wave : goal.returns-in-Err-read_front-clause-wave
returns-in-Err-read_front-clause-wave g c = λ b holds.
    let held = holds_on (g.D.Depot.disk c.args.depot.now) (g.D.Depot.disk c.len.new.self) b c.len.ensures.reads holds in
    front_fails b c.in-Err-read_front.fault (c.in-Err-read_front.ensures.front b held)
