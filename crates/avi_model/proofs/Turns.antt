-- The forms of a file are read one after the other, whatever is refused behind them.
use Rattle.std.proofs.Common.{◌≡◌, ◌∙◌, ℕ, ◌<◌, ◌≤◌, Bool, true, List, ◌++◌, length, take, drop, ap, arith}
use Rattle.std.proofs.lemmas.List.{length-drop, take-append-drop}
use Rattle.container_model.specs.Chunk.{Form, Chunk, too_short, full_header, ends, passes, stopped, joined, chunk_of, and_then, behind, chunks}
use Rattle.container_model.specs.Sizes.{plain, riff_front}
use Rattle.container_model.proofs.Codec.{IsBytes, IsBytes-drop, chunks_joined}
use Rattle.container_model.proofs.Fronts.{riff_gives_back}
use Rattle.container_model.proofs.Steps.{Eats, chunks_ahead, chunks_few, chunks_cut}
use Rattle.carrier_model.specs.Info.{list_run}
use Rattle.avi_model.specs.Avi.{avi_front, forms}
use Rattle.avi_model.proofs.Forms.{form_head, avi_gives_back}

avi_eats : Eats avi_front
avi_eats s next b id after form n e = let h = form_head s next b id after form n e in omega (arith, h.long, ap length h.after_is, length-drop 8 b)

pub forms_spell : (b : List ℕ) → IsBytes b → joined (forms b) ≡ b
forms_spell b h = chunks_joined avi_front avi_gives_back true b h

pub lists_spell : (c : Chunk) → IsBytes c.body → take 4 c.body ++ joined (list_run c) ≡ c.body
lists_spell c h = ap (λ (x : List ℕ). take 4 c.body ++ x) (chunks_joined riff_front riff_gives_back plain (drop 4 c.body) (IsBytes-drop 4 c.body h)) ∙ take-append-drop 4 c.body

pub form_ahead : (s next : Bool) (b : List ℕ) (form : Form) (id : List ℕ) (n : ℕ) (after : List ℕ) → avi_front s b ≡ full_header form id n after next → n ≤ length after
    → chunks avi_front s b ≡ and_then (chunk_of form id n after) (chunks avi_front next (behind form n after))
form_ahead s next b form id n after e le = chunks_ahead avi_front avi_eats s next b form id n after e le

pub no_form : (s : Bool) (b : List ℕ) → avi_front s b ≡ too_short → chunks avi_front s b ≡ stopped ends b
no_form s b e = chunks_few avi_front avi_eats s b e

pub form_cut : (s next : Bool) (b : List ℕ) (form : Form) (id : List ℕ) (n : ℕ) (after : List ℕ) → avi_front s b ≡ full_header form id n after next → length after < n → chunks avi_front s b ≡ stopped passes b
form_cut s next b form id n after e lt = chunks_cut avi_front avi_eats s next b form id n after e lt
