use Rattle.std.proofs.Common.{◌∙◌, [], sym}
use Rattle.me_disk.proofs.Holds.{holds_on}
use Rattle.mov_file.proofs.Whole.{all_lie, file_fails, find_fails, moov_fails, moov_meets, no_user_yet}
use Rattle.mov_file.proofs.movie.meet.Goals as goal

pub returns-in-Err-clause-meets : goal.returns-in-Err-clause-meets
returns-in-Err-clause-meets g c = λ b holds whole. file_fails b c.args.reading.now c.walk_file.new.reading c.walk_file.new.reading c.in-Err.fault (c.in-Err.ensures.walks b [] holds whole c.requires.knows)

pub returns-in-Err-find_moov-clause-meets : goal.returns-in-Err-find_moov-clause-meets
returns-in-Err-find_moov-clause-meets g c = λ b holds whole.
    let held = holds_on _ _ b c.walk_file.ensures.reads holds in
    find_fails b c.walk_file.new.reading c.in-Err-find_moov.fault (c.in-Ok.ensures.walks b [] holds whole c.requires.knows).tests (c.in-Err-find_moov.ensures.moov b held whole)

pub returns-in-Err-walk_moov-clause-meets : goal.returns-in-Err-walk_moov-clause-meets
returns-in-Err-walk_moov-clause-meets g c = λ b holds whole.
    let held = holds_on _ _ b c.walk_file.ensures.reads holds in
    let then = holds_on _ _ b c.find_moov.ensures.reads held in
    let w = c.in-Ok.ensures.walks b [] holds whole c.requires.knows in
    moov_fails b c.in-Ok-find_moov.moov c.walk_file.new.reading c.walk_moov.new.reading c.walk_moov.new.reading c.in-Err-walk_moov.fault c.walk_file.new.reading.has_user (w.knows.user ∙ no_user_yet b) (c.in-Ok-find_moov.ensures.moov b held whole) w.tests
    (c.in-Err-walk_moov.ensures.walks b _ then w.knows)

pub returns-in-Ok-walk_moov-clause-meets : goal.returns-in-Ok-walk_moov-clause-meets
returns-in-Ok-walk_moov-clause-meets g c = λ b holds whole.
    let held = holds_on _ _ b c.walk_file.ensures.reads holds in
    let then = holds_on _ _ b c.find_moov.ensures.reads held in
    let w = c.in-Ok.ensures.walks b [] holds whole c.requires.knows in
    moov_meets b c.in-Ok-find_moov.moov c.args.reading.now c.walk_file.new.reading c.walk_moov.new.reading c.walk_file.new.reading.has_user (w.knows.user ∙ no_user_yet b) c.requires.fresh (c.in-Ok-find_moov.ensures.moov b held whole) w
    (c.in-Ok-walk_moov.ensures.walks b _ then w.knows)

pub returns-in-Ok-walk_moov-clause-sound : goal.returns-in-Ok-walk_moov-clause-sound
returns-in-Ok-walk_moov-clause-sound g c =
    all_lie c.args.len c.in-Ok-find_moov.moov c.args.reading.now c.walk_file.new.reading c.walk_moov.new.reading c.requires.fresh c.in-Ok-find_moov.ensures.order c.in-Ok-walk_moov.ensures.few c.in-Ok.ensures.lies c.in-Ok-walk_moov.ensures.lies
