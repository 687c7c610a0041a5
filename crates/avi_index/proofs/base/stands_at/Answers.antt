use Rattle.std.proofs.Common.{◌∙◌, ℕ, List, ap}
use Rattle.container_model.specs.Written.{slice}
use Rattle.avi_index.proofs.Judged.{stands_told}
use Rattle.avi_index.proofs.base.stands_at.Goals as goal

pub returns-clause-stands : goal.returns-clause-stands
returns-clause-stands g c b row held id =
    stands_told b row c.read_at.new.into c.args.id.0 c.args.indexes.now c.args.place c.is-same.result c.is_head-head.result c.is_clear-clear.result c.is-same.ensures.is c.is_head-head.ensures c.is_clear-clear.ensures
    (c.in_ok-read_at.ensures.bytes held.tells ∙ ap (λ (x : List ℕ). slice x c.args.place 4) held.bytes) id
