use Rattle.std.proofs.Common.{sym, ap, ◌≡◌, ◌∙◌, ℕ, List, length, true}
use Rattle.me_disk.proofs.Holds.{holds_on}
use Rattle.mov_model.specs.Begins.{begins_movie}
use Rattle.mov_file.proofs.movie.read_mov.Goals as goal

pub returns-clause-movie : goal.returns-clause-movie
returns-clause-movie g c = λ b holds.
    let held = holds_on _ _ b c.len.ensures.reads holds in
    let then = holds_on _ _ b c.begins.ensures.reads held in
    let whole : length b ≡ c.in-Ok.len = sym (c.in-Ok.ensures.answer holds.tells ∙ ap (λ (x : List ℕ). length x) holds.bytes) in
    let begins : begins_movie b ≡ true = sym (rw c.in-Ok-true.field-0-test at (c.in-Ok-true.ensures.begins b held whole)) in
    c.read_movie.ensures.movie b then begins
