use Rattle.me_generate.proofs.Titles.{small, unbroken}
use Rattle.me_generate.proofs.Waves.{no_refusal}
use Rattle.me_generate.proofs.made_wave_files_are_accepted.Goals as goal

pub returns : goal.returns
returns c = record { supported = no_refusal; unbroken = unbroken; small = small }
