use Rattle.mov_model.proofs.InPlace.{patches_law, room_stays}
use Rattle.mov_model.proofs.Order.{patches_sound, patches_three}
use Rattle.mov_model.proofs.patches_make_new.Goals as goal

pub returns : goal.returns
returns c = record { stay = λ o e b s r. room_stays o e b s.readable r; made = λ o e b s r. patches_law o e b s.readable r; sound = λ o e b s r. patches_sound o e b s.readable r; three = λ o e b s. patches_three o e b s.readable }
