-- How long what is laid is, where the last slot goes on behind moov.
use Rattle.std.proofs.Common.{Bool, List, [], ap, append_assoc, arith, false, length, map, refl, sym, true, ℕ, ◌++◌, ◌+◌, ◌∙◌, ◌∷◌, ◌≡◌}
use Rattle.std.proofs.lemmas.List.{append-nil, length-append}
use Rattle.std.specs.List.{flat_map}
use Rattle.container_model.proofs.Places.{old_length}
use Rattle.container_model.proofs.Units.{BringsPad, spell_all-append}
use Rattle.container_model.specs.Chunk.{Chunk, spell, spell_all}
use Rattle.container_model.specs.Units.{Piece, copied, lay, old_bytes, padded, replaced, unit_bytes}
use Rattle.carrier_model.proofs.Fitted.{LastOnly}
use Rattle.mov_model.specs.New.{ends_open, fill, grown, hanging, padding}

pub fill_between : (o : Bool) (slot : List ℕ) (s : ℕ) → fill o false slot s ≡ padding slot s
fill_between true slot s = refl
fill_between false slot s = refl

-- a slot that has grown
pub grown_old : (more : List ℕ) (ps : List Piece) → LastOnly ps → ends_open ps ≡ true → old_length (grown more ps) ≡ old_length ps + length more
grown_old more [] l o = absurd cc
grown_old more (copied c ∷ ps) l o = omega (arith, grown_old more ps l o, length-append (spell c) (flat_map old_bytes ps), length-append (spell c) (flat_map old_bytes (grown more ps)))
grown_old more (replaced lead slot now true ∷ ps) l o =
    rw (l.0 refl) (omega (arith, length-append (spell_all lead ++ (slot ++ more)) [], length-append (spell_all lead ++ slot) [], length-append (spell_all lead) (slot ++ more), length-append (spell_all lead) slot, length-append slot more))
grown_old more (replaced lead slot now false ∷ ps) l o =
    omega (arith, grown_old more ps l.1 o, length-append (spell_all lead ++ slot) (flat_map old_bytes ps), length-append (spell_all lead ++ slot) (flat_map old_bytes (grown more ps)))

pub grown_brings : (more : List ℕ) (ps : List Piece) → BringsPad ps → BringsPad (grown more ps)
grown_brings more [] h = tt
grown_brings more (copied c ∷ ps) h = grown_brings more ps h
grown_brings more (replaced lead slot now true ∷ ps) h = h
grown_brings more (replaced lead slot now false ∷ ps) h = (h.0, grown_brings more ps h.1)

laid_length : List Chunk → ℕ
laid_length cs = length (spell_all cs)

-- what is laid with the grown slot is what is laid without its padding, and this padding
pub grown_new : (o : Bool) (more : List ℕ) (ps : List Piece) → LastOnly ps → ends_open ps ≡ true
    → length (spell_all (lay (fill o) (grown more ps))) ≡ length (spell_all (lay (fill true) ps)) + length (spell_all (hanging (fill o) (grown more ps)))
grown_new o more [] l i = absurd cc
grown_new o more (copied c ∷ ps) l i = omega (arith, grown_new o more ps l i, length-append (spell c) (spell_all (lay (fill true) ps)), length-append (spell c) (spell_all (lay (fill o) (grown more ps))))
grown_new o more (replaced lead slot now true ∷ ps) l i =
    let f = fill o true (slot ++ more) (length (unit_bytes lead now)) in
    rw (l.0 refl, append-nil (map padded lead ++ (now ++ f)), append-nil (map padded lead ++ (now ++ [])), append-nil now, ← append_assoc (map padded lead) now f, spell_all-append (map padded lead ++ now) f) (length-append (spell_all (map padded lead ++ now)) (spell_all f))
grown_new o more (replaced lead slot now false ∷ ps) l i =
    let f = padding slot (length (unit_bytes lead now)) in
    let a = map padded lead ++ (now ++ f) in
    let again = grown_new o more ps l.1 i in
    let one : length (spell_all (a ++ lay (fill o) (grown more ps))) ≡ length (spell_all (a ++ lay (fill true) ps)) + length (spell_all (hanging (fill o) (grown more ps)))
    = rw (spell_all-append a (lay (fill o) (grown more ps)), spell_all-append a (lay (fill true) ps)) (omega (arith, again, length-append (spell_all a) (spell_all (lay (fill o) (grown more ps))), length-append (spell_all a) (spell_all (lay (fill true) ps)))) in
    ap (λ (x : List Chunk). length (spell_all ((map padded lead ++ (now ++ x)) ++ lay (fill o) (grown more ps)))) (fill_between o slot (length (unit_bytes lead now))) ∙ one

-- nothing stands behind a slot that ends the file
pub hanging_none : (ps : List Piece) → hanging (fill true) ps ≡ []
hanging_none [] = refl
hanging_none (copied c ∷ ps) = hanging_none ps
hanging_none (replaced lead slot now true ∷ ps) = refl
hanging_none (replaced lead slot now false ∷ ps) = hanging_none ps

-- ---- the same of bytes

pub grown_bytes : (more : List ℕ) (ps : List Piece) → LastOnly ps → ends_open ps ≡ true → flat_map old_bytes (grown more ps) ≡ flat_map old_bytes ps ++ more
grown_bytes more [] l o = absurd cc
grown_bytes more (copied c ∷ ps) l o = ap (λ (x : List ℕ). spell c ++ x) (grown_bytes more ps l o) ∙ sym (append_assoc (spell c) (flat_map old_bytes ps) more)
grown_bytes more (replaced lead slot now true ∷ ps) l o = rw (l.0 refl) (simp (append_assoc, append-nil))
grown_bytes more (replaced lead slot now false ∷ ps) l o =
    ap (λ (x : List ℕ). (spell_all lead ++ slot) ++ x) (grown_bytes more ps l.1 o) ∙ sym (append_assoc (spell_all lead ++ slot) (flat_map old_bytes ps) more)

pub grown_laid : (o : Bool) (more : List ℕ) (ps : List Piece) → LastOnly ps → ends_open ps ≡ true
    → spell_all (lay (fill o) (grown more ps)) ≡ spell_all (lay (fill true) ps) ++ spell_all (hanging (fill o) (grown more ps))
grown_laid o more [] l i = absurd cc
grown_laid o more (copied c ∷ ps) l i = ap (λ (x : List ℕ). spell c ++ x) (grown_laid o more ps l i) ∙ sym (append_assoc (spell c) (spell_all (lay (fill true) ps)) (spell_all (hanging (fill o) (grown more ps))))
grown_laid o more (replaced lead slot now true ∷ ps) l i =
    let f = fill o true (slot ++ more) (length (unit_bytes lead now)) in
    rw (l.0 refl, append-nil (map padded lead ++ (now ++ f)), append-nil (map padded lead ++ (now ++ [])), append-nil now, ← append_assoc (map padded lead) now f) (spell_all-append (map padded lead ++ now) f)
grown_laid o more (replaced lead slot now false ∷ ps) l i =
    let f = padding slot (length (unit_bytes lead now)) in
    let a = map padded lead ++ (now ++ f) in
    let again = grown_laid o more ps l.1 i in
    let one : spell_all (a ++ lay (fill o) (grown more ps)) ≡ spell_all (a ++ lay (fill true) ps) ++ spell_all (hanging (fill o) (grown more ps))
    = rw (spell_all-append a (lay (fill o) (grown more ps)), spell_all-append a (lay (fill true) ps), again) (sym (append_assoc (spell_all a) (spell_all (lay (fill true) ps)) (spell_all (hanging (fill o) (grown more ps))))) in
    ap (λ (x : List Chunk). spell_all ((map padded lead ++ (now ++ x)) ++ lay (fill o) (grown more ps))) (fill_between o slot (length (unit_bytes lead now))) ∙ one
