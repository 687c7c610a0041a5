use Rattle.std.proofs.Common.{rules, ap, ◌≡◌, ◌∙◌, take}
use Rattle.part_tree.specs.Kinds.{kind}
use Rattle.mov_model.specs.Begins.{is_mov}
use Rattle.mov_file.proofs.FirstMoov.{kind_read}
use Rattle.mov_file.proofs.moov.begins.Goals as goal

pub returns-clause-begins : goal.returns-clause-begins
returns-clause-begins g c = λ b holds whole.
    let read : c.kind_of.result ≡ kind (take 12 b) = search rules in
    c.is_movie.ensures ∙ ap is_mov (read ∙ kind_read b)
