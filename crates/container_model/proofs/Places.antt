-- Where a copied chunk stands in the new bytes.
use Rattle.std.proofs.Common.{◌≡◌, ℕ, ◌+◌, ◌<◌, ◌≤◌, List, [], ◌∷◌, ◌++◌, length, map, arith, inl, inr}
use Rattle.std.specs.List.{flat_map}
use Rattle.std.proofs.lemmas.List.{length-append}
use Rattle.container_model.specs.Chunk.{Chunk, spell, spell_all}
use Rattle.container_model.specs.Splice.{Cut, end_of, Ascend, shift, Outside}
use Rattle.container_model.specs.Units.{Piece, copied, replaced, Fill, padded, old_bytes, lead_pad, unit_bytes, lay, cut_of, cuts}
use Rattle.container_model.proofs.Units.{BringsPad, spell_all-append}
use Rattle.container_model.proofs.Splice.{before_lost, behind_lost, lost_low}

abbrev pub old_length : List Piece → ℕ
old_length ps = length (flat_map old_bytes ps)

pub cuts_ascend : (fill : Fill) (at : ℕ) (ps : List Piece) (low : ℕ) → low ≤ at → Ascend low (cuts fill at ps) (at + old_length ps)
cuts_ascend fill at [] low h = omega arith
cuts_ascend fill at (copied c ∷ ps) low h =
    let e : (at + length (spell c)) + old_length ps ≡ at + old_length (copied c ∷ ps) = omega (arith, length-append (spell c) (flat_map old_bytes ps)) in
    rw (← e) (cuts_ascend fill (at + length (spell c)) ps low (omega arith))
cuts_ascend fill at (replaced lead slot now last ∷ ps) low h =
    let next = at + length (spell_all lead ++ slot) in
    let e : next + old_length ps ≡ at + old_length (replaced lead slot now last ∷ ps) = omega (arith, length-append (spell_all lead ++ slot) (flat_map old_bytes ps)) in
    (omega arith, rw (← e) (cuts_ascend fill next ps (end_of (cut_of fill at lead slot now last)) (omega (arith, length-append (spell_all lead) slot))))

-- a place before all spans
abbrev pub Before : ℕ → List Cut → Type 0
Before p [] = Unit {0}
Before p (c ∷ cs) = (p < c.at) × Before p cs

pub before_all : (fill : Fill) (at : ℕ) (ps : List Piece) (p : ℕ) → p < at → Before p (cuts fill at ps)
before_all fill at [] p h = tt
before_all fill at (copied c ∷ ps) p h = before_all fill (at + length (spell c)) ps p (omega arith)
before_all fill at (replaced lead slot now last ∷ ps) p h = (omega arith, before_all fill (at + length (spell_all lead ++ slot)) ps p (omega arith))

pub before_stays : (cs : List Cut) (p : ℕ) → Before p cs → Outside cs p × (shift cs p ≡ p)
before_stays [] p h = (tt, omega arith)
before_stays (c ∷ cs) p h = let z = behind_lost c cs p h.0 in ((inl h.0, (before_stays cs p h.1).0), omega (arith, z.0, z.1))

-- Each place of a copied chunk is in no span, and moves with the chunk.
pub still_moves : (fill : Fill) (at : ℕ) (a : List Piece) (c : Chunk) (b : List Piece) (i : ℕ) → BringsPad a → i < length (spell c)
    → Outside (cuts fill at (a ++ copied c ∷ b)) (at + old_length a + i) × (shift (cuts fill at (a ++ copied c ∷ b)) (at + old_length a + i) ≡ at + length (spell_all (lay fill a)) + i)
still_moves fill at [] c b i h lt =
    let s = before_stays (cuts fill (at + length (spell c)) b) (at + 0 + i) (before_all fill (at + length (spell c)) b (at + 0 + i) (omega arith)) in
    (s.0, s.1)
still_moves fill at (copied d ∷ a) c b i h lt =
    let again = still_moves fill (at + length (spell d)) a c b i h lt in
    let e : (at + length (spell d)) + old_length a + i ≡ at + old_length (copied d ∷ a) + i = omega (arith, length-append (spell d) (flat_map old_bytes a)) in
    let g : (at + length (spell d)) + length (spell_all (lay fill a)) + i ≡ at + length (spell_all (lay fill (copied d ∷ a))) + i = omega (arith, length-append (spell d) (spell_all (lay fill a))) in
    rw (← e, ← g) again
still_moves fill at (replaced lead slot now last ∷ a) c b i h lt =
    let next = at + length (spell_all lead ++ slot) in
    let cut = cut_of fill at lead slot now last in
    let more = cuts fill next (a ++ copied c ∷ b) in
    let p = at + old_length (replaced lead slot now last ∷ a) + i in
    let again = still_moves fill next a c b i h.1 lt in
    let e : next + old_length a + i ≡ p = omega (arith, length-append (spell_all lead ++ slot) (flat_map old_bytes a)) in
    let out : Outside more p = rw (← e) again.0 in
    let moved : shift more p ≡ next + length (spell_all (lay fill a)) + i = rw (← e) again.1 in
    let end_is : end_of cut ≡ next = omega (arith, length-append (spell_all lead) slot) in
    let behind : end_of cut ≤ p = omega (arith, e, end_is) in
    let z = before_lost cut more p behind in
    let low = lost_low next (next + old_length (a ++ copied c ∷ b)) more p (cuts_ascend fill next (a ++ copied c ∷ b) next (omega arith)) out (omega (arith, e)) in
    let f = fill last slot (length (unit_bytes lead now)) in
    let len : length (spell_all (lay fill (replaced lead slot now last ∷ a))) ≡ length (spell_all lead) + length cut.bytes + length (spell_all (lay fill a))
    = rw (spell_all-append (map padded lead ++ (now ++ f)) (lay fill a), spell_all-append (map padded lead) (now ++ f), spell_all-append now f, h.0)
    (omega (arith, length-append ((spell_all lead ++ lead_pad lead) ++ (spell_all now ++ spell_all f)) (spell_all (lay fill a)), length-append (spell_all lead ++ lead_pad lead) (spell_all now ++ spell_all f), length-append (spell_all lead) (lead_pad lead), length-append (spell_all now) (spell_all f), length-append (unit_bytes lead now) (spell_all f), length-append (lead_pad lead) (spell_all now))) in
    ((inr behind, out), omega (arith, z.0, z.1, low, moved, len, length-append (spell_all lead) slot))

-- Each place behind all pieces is in no span, and moves by what the pieces grow.
pub past_moves : (fill : Fill) (at : ℕ) (ps : List Piece) (p : ℕ) → BringsPad ps → at + old_length ps ≤ p
    → Outside (cuts fill at ps) p × (shift (cuts fill at ps) p + old_length ps ≡ p + length (spell_all (lay fill ps)))
past_moves fill at [] p h le = (tt, omega arith)
past_moves fill at (copied d ∷ ps) p h le =
    let again = past_moves fill (at + length (spell d)) ps p h (omega (arith, length-append (spell d) (flat_map old_bytes ps))) in
    (again.0, omega (arith, again.1, length-append (spell d) (flat_map old_bytes ps), length-append (spell d) (spell_all (lay fill ps))))
past_moves fill at (replaced lead slot now last ∷ ps) p h le =
    let next = at + length (spell_all lead ++ slot) in
    let cut = cut_of fill at lead slot now last in
    let more = cuts fill next ps in
    let again = past_moves fill next ps p h.1 (omega (arith, length-append (spell_all lead ++ slot) (flat_map old_bytes ps))) in
    let end_is : end_of cut ≡ next = omega (arith, length-append (spell_all lead) slot) in
    let behind : end_of cut ≤ p = omega (arith, end_is, length-append (spell_all lead ++ slot) (flat_map old_bytes ps)) in
    let z = before_lost cut more p behind in
    let low = lost_low next (next + old_length ps) more p (cuts_ascend fill next ps next (omega arith)) again.0 (omega (arith, length-append (spell_all lead ++ slot) (flat_map old_bytes ps))) in
    let f = fill last slot (length (unit_bytes lead now)) in
    let len : length (spell_all (lay fill (replaced lead slot now last ∷ ps))) ≡ length (spell_all lead) + length cut.bytes + length (spell_all (lay fill ps))
    = rw (spell_all-append (map padded lead ++ (now ++ f)) (lay fill ps), spell_all-append (map padded lead) (now ++ f), spell_all-append now f, h.0)
    (omega (arith, length-append ((spell_all lead ++ lead_pad lead) ++ (spell_all now ++ spell_all f)) (spell_all (lay fill ps)), length-append (spell_all lead ++ lead_pad lead) (spell_all now ++ spell_all f), length-append (spell_all lead) (lead_pad lead), length-append (spell_all now) (spell_all f), length-append (unit_bytes lead now) (spell_all f), length-append (lead_pad lead) (spell_all now))) in
    ((inr behind, again.0), omega (arith, z.0, z.1, low, again.1, len, length-append (spell_all lead) slot, length-append (spell_all lead ++ slot) (flat_map old_bytes ps)))
