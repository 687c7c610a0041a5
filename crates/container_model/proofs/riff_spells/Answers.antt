use Rattle.container_model.specs.Sizes.{riff_front}
use Rattle.container_model.proofs.Codec.{chunks_joined}
use Rattle.container_model.proofs.Fronts.{riff_gives_back}
use Rattle.container_model.proofs.riff_spells.Goals as goal

pub returns : goal.returns
returns c = λ s b h. chunks_joined riff_front riff_gives_back s b h
