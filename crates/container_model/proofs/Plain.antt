-- Chunks of plain RIFF: what is read of bytes, and what is read again.
use Rattle.std.proofs.Common.{◌≡◌, ℕ, zero, suc, ◌^◌, ◌<◌, Bool, true, false, ltb, List, [], ◌∷◌, ◌++◌, length, refl, arith}
use Rattle.std.specs.List.{AllByRecursion}
use Rattle.std.proofs.lemmas.Bool.{ltb-false, ltb-true, lt-ltb}
use Rattle.std.proofs.lemmas.List.{length-append, length-take}
use Rattle.container_model.specs.Chunk.{Form, riff, Chunk, spell, spell_all, header_bytes, Header, too_short, no_header, past_end, full_header, Run, ends, fit, turn, read, chunks, behind, Heads, Pads, IsRest}
use Rattle.container_model.specs.Sizes.{plain, Sizes, riff_ahead, riff_front}
use Rattle.container_model.proofs.Codec.{reads_from, chunks_spelled}
use Rattle.container_model.proofs.Fronts.{riff_head}

pub record IsPlain (c : Chunk) : Type 0 where
  pub form_is : c.form ≡ riff
  pub id_len : length c.id ≡ 4

abbrev pub ArePlain : List Chunk → Type 0
ArePlain cs = AllByRecursion IsPlain cs

abbrev PlainAhead : List ℕ → Header Sizes → Type 0
PlainAhead b too_short = length b < 8
PlainAhead b no_header = Unit {0}
PlainAhead b past_end = Unit {0}
PlainAhead b (full_header form id n after next) = (form ≡ riff) × (length id ≡ 4) × (next ≡ plain)

plain_ahead : (b : List ℕ) → PlainAhead b (riff_front plain b)
plain_ahead b = go (ltb (length b) 8) refl
  where
    go : (t : Bool) → ltb (length b) 8 ≡ t → PlainAhead b (riff_ahead plain b t)
    go true e = ltb-true _ _ e
    go false e = let long = ltb-false (length b) 8 e in (refl, omega (arith, length-take 4 b), refl)

-- what is read is plain
abbrev PlainRun : Run → Type 0
PlainRun r = ArePlain r.chunks × (r.stop ≡ ends → length r.left < 8)

plain_fit : (again : Sizes → List ℕ → Run) (b : List ℕ) (form : Form) (id : List ℕ) (n : ℕ) (after : List ℕ) (next : Sizes) (r : Bool)
    → (form ≡ riff) → (length id ≡ 4) → PlainRun (again next (behind form n after)) → PlainRun (fit again b form id n after next r)
plain_fit again b form id n after next true e l h = (tt, λ x. absurd cc)
plain_fit again b form id n after next false e l h = ((record { form_is = e; id_len = l }, h.0), h.1)

plain_turn : (again : Sizes → List ℕ → Run) (b : List ℕ) (a : Header Sizes) → PlainAhead b a → ((x : List ℕ) → PlainRun (again plain x)) → PlainRun (turn again b a)
plain_turn again b too_short h g = (tt, λ x. h)
plain_turn again b no_header h g = (tt, λ x. absurd cc)
plain_turn again b past_end h g = (tt, λ x. absurd cc)
plain_turn again b (full_header form id n after next) h g =
    let more : PlainRun (again next (behind form n after)) = rw h.2 (g (behind form n after)) in
    plain_fit again b form id n after next (ltb (length after) n) h.0 h.1 more

plain_read : (k : ℕ) (b : List ℕ) → PlainRun (read riff_front k plain b)
unfolding read
plain_read zero b = (tt, λ x. absurd cc)
plain_read (suc k) b = plain_turn (read riff_front k) b (riff_front plain b) (plain_ahead b) (λ x. plain_read k x)

pub plain_chunks : (b : List ℕ) → ArePlain (chunks riff_front plain b).chunks
unfolding chunks
plain_chunks b = (plain_read (suc (length b)) b).0

pub plain_left : (b : List ℕ) → (chunks riff_front plain b).stop ≡ ends → length (chunks riff_front plain b).left < 8
unfolding chunks
plain_left b e = (plain_read (suc (length b)) b).1 e

-- ---- read again

pub rest_is : (left : List ℕ) → length left < 8 → IsRest riff_front left
rest_is left h s = rw (lt-ltb (length left) 8 h) refl

pub Heads-plain : (cs : List Chunk) → ArePlain cs → length (spell_all cs) < 2 ^ 32 → Heads riff_front plain cs
Heads-plain [] h lt = tt
Heads-plain (c ∷ cs) h lt =
    let long = length-append (spell c) (spell_all cs) in
    let inside = length-append (header_bytes c.form c.id (length c.body)) (c.body ++ c.pad) in
    let tail = length-append c.body c.pad in
    (plain, λ after. rw h.0.form_is (riff_head plain c.id (length c.body) after h.0.id_len (omega arith)), Heads-plain cs h.1 (omega arith))

-- plain chunks and a rest are read again
pub plain_again : (cs : List Chunk) (left : List ℕ) → ArePlain cs → Pads cs left → length left < 8 → length (spell_all cs) < 2 ^ 32
    → chunks riff_front plain (spell_all cs ++ left) ≡ record { chunks = cs; stop = ends; left = left }
plain_again cs left h p r lt = chunks_spelled riff_front plain cs left (reads_from riff_front plain cs left (Heads-plain cs h lt) p (rest_is left r))
