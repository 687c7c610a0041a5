use Rattle.container_model.specs.Sizes.{riff_front}
use Rattle.container_model.proofs.Codec.{chunks_spelled}
use Rattle.container_model.proofs.riff_is_read_again.Goals as goal

pub returns : goal.returns
returns c = λ s cs left h. chunks_spelled riff_front s cs left h
