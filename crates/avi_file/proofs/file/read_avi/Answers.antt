use Rattle.me_disk.proofs.Holds.{holds_on}
use Rattle.avi_file.proofs.Staged.{forms_refuse}
use Rattle.avi_file.proofs.file.read_avi.Goals as goal

pub returns-in-Err-read_forms-clause-avi : goal.returns-in-Err-read_forms-clause-avi
returns-in-Err-read_forms-clause-avi g c b holds =
    let held = holds_on (g.D.Depot.disk c.args.depot.now) (g.D.Depot.disk c.len.new.self) b c.len.ensures.reads holds in
    forms_refuse b c.in-Err-read_forms.fault (c.in-Err-read_forms.ensures.forms b held)

pub returns-clause-avi : goal.returns-clause-avi
returns-clause-avi g c b holds =
    let held = holds_on (g.D.Depot.disk c.args.depot.now) (g.D.Depot.disk c.len.new.self) b c.len.ensures.reads holds in
    c.read_rest.ensures.avi b (holds_on (g.D.Depot.disk c.len.new.self) (g.D.Depot.disk c.read_forms.new.depot) b c.read_forms.ensures.reads held)
