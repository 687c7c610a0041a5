use Rattle.wave_model.proofs.Names.{whole_map}
use Rattle.wave_model.proofs.fields_are_updated.Goals as goal

pub returns : goal.returns
returns c = λ o e b s r l h name. whole_map o e b s r l h name
