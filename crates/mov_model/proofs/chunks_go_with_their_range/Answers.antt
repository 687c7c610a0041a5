use Rattle.mov_model.specs.Edited.{changes}
use Rattle.mov_model.proofs.Clauses.{put_law, slots_ascend}
use Rattle.mov_model.proofs.chunks_go_with_their_range.Goals as goal

pub returns-clause-ascend : goal.returns-clause-ascend
returns-clause-ascend c = λ o e bytes sup. slots_ascend o bytes sup.readable (changes o e)

pub returns-clause-put : goal.returns-clause-put
returns-clause-put c = λ o e p bytes sup h. put_law o bytes sup.readable (changes o e) p h.0 h.1
