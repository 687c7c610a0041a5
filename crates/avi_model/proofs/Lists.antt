-- Lists into which numbers are written end where they ended.
use Rattle.std.proofs.Common.{◌≡◌, ℕ, ◌+◌, true, List, [], ◌∷◌, ◌++◌, length, drop, refl, ap, ◌∙◌, arith}
use Rattle.std.specs.List.{AllByRecursion}
use Rattle.std.proofs.lemmas.List.{length-append}
use Rattle.container_model.specs.Chunk.{Run, spell, chunks}
use Rattle.container_model.specs.Sizes.{plain, riff_front}
use Rattle.container_model.specs.Stood.{Stood}
use Rattle.container_model.specs.Written.{Write, written}
use Rattle.container_model.proofs.Codec.{IsBytes-drop}
use Rattle.container_model.proofs.Fronts.{riff_gives_back}
use Rattle.container_model.proofs.Moved.{riff_moves}
use Rattle.container_model.proofs.Written.{renew, head_length, written-drop, chunks_written}
use Rattle.container_model.proofs.Stood.{carried_to}
use Rattle.avi_model.specs.Avi.{Avi, form_of, spell_avi}
use Rattle.avi_model.specs.Support.{begins, ListEnds}
use Rattle.avi_model.proofs.Walk.{IsRiffHead, Open}

pub all_both : {X : Type 0} (P : X → Type 0) (a b : List X) → AllByRecursion P a → AllByRecursion P b → AllByRecursion P (a ++ b)
all_both P [] b h g = g
all_both P (x ∷ a) b h g = (h.0, all_both P a b h.1 g)

-- a list into which numbers are written is read to its end
pub open_ends : (f : ℕ → ℕ) (ws : List Write) (x : Stood) → IsRiffHead x → Open ws x → ListEnds (carried_to f ws x)
open_ends f ws x head o =
    let c = x.chunk in
    let b = drop 4 c.body in
    let hl : x.at + head_length c ≡ x.at + 8 = omega (arith, head) in
    let at4 : (x.at + 8) + 4 ≡ x.at + 12 = omega arith in
    let body : drop 4 (renew ws x.at c).body ≡ written ws (x.at + 12) b = written-drop ws (x.at + head_length c) 4 c.body ∙ ap (λ (k : ℕ). written ws (k + 4) b) hl ∙ ap (λ (k : ℕ). written ws k b) at4 in
    ap (λ (y : List ℕ). (chunks riff_front plain y).stop) body ∙ ap (λ (r : Run). r.stop) (chunks_written riff_front riff_gives_back riff_moves ws (x.at + 12) plain b (IsBytes-drop 4 c.body o.bytes) o.all_read o.on_chunks)

pub spell_begins : (x : Avi) → begins (spell_avi x) ≡ true
spell_begins x = let long = Rattle.std.proofs.lemmas.Bool.le-leb 12 (length (spell_avi x)) (omega (arith, length-append (spell (form_of x)) (Rattle.avi_model.specs.Avi.behind x))) in rw long refl
