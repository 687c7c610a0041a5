-- A write into the body of one chunk of a list, or before or behind the list, touches no header, no pad and no rest.
use Rattle.std.proofs.Common.{◌≡◌, ℕ, ◌+◌, ◌≤◌, List, [], ◌∷◌, ◌++◌, length, arith, inl, inr}
use Rattle.std.specs.Prelude.{◌⊎◌}
use Rattle.std.proofs.lemmas.List.{length-append}
use Rattle.container_model.specs.Chunk.{Chunk, header_bytes, spell, spell_all}
use Rattle.container_model.specs.Written.{Write}
use Rattle.container_model.proofs.Written.{write_end, head_length, Avoids}

-- a write inside the body of a chunk of the list
abbrev pub InBody : ℕ → List Chunk → Write → Type 0
InBody at [] w = ⊥
InBody at (c ∷ cs) w = ((at + head_length c ≤ w.at) × (write_end w ≤ at + head_length c + length c.body)) ⊎ InBody (at + length (spell c)) cs w

spell_length : (c : Chunk) → length (spell c) ≡ head_length c + length c.body + length c.pad
spell_length c = omega (arith, length-append (header_bytes c.form c.id (length c.body)) (c.body ++ c.pad), length-append c.body c.pad)

pub avoids_behind : (at : ℕ) (cs : List Chunk) (left : List ℕ) (w : Write) → write_end w ≤ at → Avoids at cs left w
avoids_behind at [] left w h = inl h
avoids_behind at (c ∷ cs) left w h = (inl h, inl (omega arith), avoids_behind (at + length (spell c)) cs left w (omega arith))

pub avoids_before : (at : ℕ) (cs : List Chunk) (left : List ℕ) (w : Write) → at + length (spell_all cs ++ left) ≤ w.at → Avoids at cs left w
avoids_before at [] left w h = inr h
avoids_before at (c ∷ cs) left w h =
    let whole = length-append (spell c ++ spell_all cs) left in
    let two = length-append (spell c) (spell_all cs) in
    let rest = length-append (spell_all cs) left in
    (inr (omega (arith, spell_length c, whole, two, h)), inr (omega (arith, spell_length c, whole, two, h)), avoids_before (at + length (spell c)) cs left w (omega (arith, whole, two, rest, h)))

in_low : (at : ℕ) (cs : List Chunk) (w : Write) → InBody at cs w → at ≤ w.at
in_low at [] w h = absurd h
in_low at (c ∷ cs) w (inl h) = omega (arith, h.0)
in_low at (c ∷ cs) w (inr h) = omega (arith, in_low (at + length (spell c)) cs w h)

pub avoids_in : (at : ℕ) (cs : List Chunk) (left : List ℕ) (w : Write) → InBody at cs w → Avoids at cs left w
avoids_in at [] left w h = absurd h
avoids_in at (c ∷ cs) left w (inl h) = (inr h.0, inl h.1, avoids_behind (at + length (spell c)) cs left w (omega (arith, h.1, spell_length c)))
avoids_in at (c ∷ cs) left w (inr h) =
    let low = in_low (at + length (spell c)) cs w h in
    (inr (omega (arith, low, spell_length c)), inr (omega (arith, low, spell_length c)), avoids_in (at + length (spell c)) cs left w h)
