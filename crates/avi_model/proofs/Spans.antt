-- The first form as a form of RIFF, and its edit as spans that are replaced.
use Rattle.std.proofs.Common.{◌≡◌, refl}
use Rattle.container_model.specs.Chunk.{riff}
use Rattle.container_model.specs.Splice.{splice}
use Rattle.carrier_model.specs.RiffForm.{with_size}
use Rattle.carrier_model.proofs.RiffForm.{IsRiff, new_is_spliced}
use Rattle.avi_model.specs.Avi.{Avi, spell_avi}
use Rattle.avi_model.specs.NewFile.{Items, new_cells, new_size, laid, edit_cuts}
use Rattle.avi_model.specs.Named.{riff_of}
use Rattle.avi_model.proofs.Tables.{was_new}

pub is_riff : (a : Avi) → IsRiff (riff_of a)
is_riff a = record { form_is = tt; id_len = refl; front_long = λ e. absurd cc }

pub laid_spliced : (a : Avi) (e : Items) → spell_avi (laid a e) ≡ with_size riff (new_size a e) (splice (spell_avi a) (edit_cuts a e))
laid_spliced a e = new_is_spliced (riff_of a) (new_cells a e) (is_riff a) (was_new a e)
