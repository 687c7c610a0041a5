use Rattle.container_model.specs.Sizes.{atom_front}
use Rattle.container_model.proofs.Codec.{chunks_spelled}
use Rattle.container_model.proofs.atoms_are_read_again.Goals as goal

pub returns : goal.returns
returns c = λ s cs left h. chunks_spelled atom_front s cs left h
