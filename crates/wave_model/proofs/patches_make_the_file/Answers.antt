use Rattle.wave_model.proofs.Few.{few_patches}
use Rattle.wave_model.proofs.Room.{room_law, order_law}
use Rattle.wave_model.proofs.patches_make_the_file.Goals as goal

pub returns : goal.returns
returns c = record { made = λ o e b s r. room_law o e b s r; sound = λ o e b s r. order_law o e b s r; few = λ o e b s l. few_patches o b s e l }
