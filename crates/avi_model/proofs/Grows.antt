-- No place moves towards the start of the file.
use Rattle.std.proofs.Common.{◌≡◌, ℕ, ◌+◌, ◌-◌, ◌%◌, ◌^◌, ◌<◌, ◌≤◌, Bool, true, false, cond, leb, ltb, eqb, List, [], ◌∷◌, ◌++◌, length, drop, refl, ap, arith, inl, inr}
use Rattle.std.specs.Prelude.{◌⊎◌, ◌&&◌, ◌||◌, not, codes}
use Rattle.std.proofs.lemmas.Bool.{lt-leb, le-leb, lt-ltb, leb-true, eqb-false, cases_lt}
use Rattle.std.proofs.lemmas.List.{length-append, length-drop}
use Rattle.container_model.specs.Chunk.{Chunk, header_bytes, spell, spell_all}
use Rattle.container_model.specs.Splice.{Cut, end_of, gained, lost, shift}
use Rattle.container_model.specs.Units.{Cell, kept, gap, edited, lacks_pad, Piece, copied, replaced, Slot, shut, begun, is_empty, closed, kept_next, units, old_bytes, unit_bytes, Fill, cut_of, cuts}
use Rattle.container_model.proofs.Splice.{before_lost, behind_lost}
use Rattle.container_model.proofs.Places.{Before, old_length}
use Rattle.container_model.proofs.Copied.{Later}
use Rattle.avi_model.specs.Avi.{Avi, inner}
use Rattle.avi_model.specs.NewFile.{Items, new_cells, pad_after, edit_cuts}
use Rattle.avi_model.specs.Named.{ends_file}
use Rattle.carrier_model.specs.RiffForm.{pad_cut}
use Rattle.avi_model.proofs.Tables.{pad_later}
use Rattle.carrier_model.specs.Info.{made, room, fill_by, riff_fill}

-- ---- only the last unit ends the list

abbrev Ends : List Piece → Type 0
Ends [] = Unit {0}
Ends (copied c ∷ ps) = Ends ps
Ends (replaced lead slot now last ∷ ps) = (last ≡ true → ps ≡ []) × Ends ps

closed_ends : (s : Slot) (ps : List Piece) → Ends ps → Ends (closed false s ++ ps)
closed_ends shut ps h = h
closed_ends (begun lead slot now) ps h = ((λ e. absurd cc), h)

kept_ends : (r : Bool) (c : Chunk) (more : Slot → List Piece) → ((s : Slot) → Ends (more s)) → Ends (kept_next r c more)
kept_ends true c more h = h (begun (c ∷ []) [] [])
kept_ends false c more h = h shut

pub units_end : (s : Slot) (xs : List Cell) → Ends (units s xs)
unfolding units
units_end shut [] = tt
units_end (begun lead slot now) [] = ((λ e. refl), tt)
units_end s (kept c ∷ xs) = closed_ends s _ (kept_ends (lacks_pad c && not (is_empty xs)) c (λ t. units t xs) (λ t. units_end t xs))
units_end shut (gap c ∷ xs) = kept_ends (lacks_pad c && not (is_empty xs)) c (λ t. units t xs) (λ t. units_end t xs)
units_end (begun lead slot now) (gap c ∷ xs) = units_end (begun lead (slot ++ spell c) now) xs
units_end shut (edited old new ∷ xs) = units_end (begun [] (spell_all old) new) xs
units_end (begun lead slot now) (edited old new ∷ xs) = units_end (begun lead (slot ++ spell_all old) (now ++ new)) xs

-- ---- a unit is no shorter than its slot, unless it ends the list

abbrev pub Grows : Fill → Type 0
Grows fill = (slot : List ℕ) (s : ℕ) → length slot < 2 ^ 32 → length slot ≤ s + length (spell_all (fill false slot s))

before_none : (cs : List Cut) (q : ℕ) → Before q cs → (gained cs q ≡ 0) × (lost cs q ≡ 0)
before_none [] q h = (refl, refl)
before_none (c ∷ cs) q h = behind_lost c cs q h.0

inside_none : (c : Cut) (cs : List Cut) (q : ℕ) → q < end_of c → (gained (c ∷ cs) q ≡ 0) × (lost (c ∷ cs) q ≡ 0)
inside_none c cs q h = let no : leb (end_of c) q ≡ false = lt-leb (end_of c) q h in (rw (no, gained) refl, rw (no, lost) refl)

-- slots that a chunk of padding can fill
abbrev pub SlotsLow : List Piece → Type 0
SlotsLow [] = Unit {0}
SlotsLow (copied c ∷ ps) = SlotsLow ps
SlotsLow (replaced lead slot now last ∷ ps) = (length slot < 2 ^ 32) × SlotsLow ps

low_slots : (ps : List Piece) → old_length ps < 2 ^ 32 → SlotsLow ps
low_slots [] lt = tt
low_slots (copied c ∷ ps) lt = low_slots ps (omega (arith, lt, length-append (spell c) (Rattle.std.specs.List.flat_map old_bytes ps)))
low_slots (replaced lead slot now last ∷ ps) lt =
    let len = length-append (spell_all lead ++ slot) (Rattle.std.specs.List.flat_map old_bytes ps) in
    let two = length-append (spell_all lead) slot in
    (omega (arith, lt, len, two), low_slots ps (omega (arith, lt, len)))

pub cuts_grow : (fill : Fill) → Grows fill → (at : ℕ) (ps : List Piece) → Ends ps → SlotsLow ps → (more : List Cut) → Later (at + old_length ps) more → (q : ℕ) → q < at + old_length ps
    → lost (cuts fill at ps ++ more) q ≤ gained (cuts fill at ps ++ more) q
cuts_grow fill g at [] h small more later q lt = let z = before_none more q (later q lt) in omega (arith, z.0, z.1)
cuts_grow fill g at (copied c ∷ ps) h small more later q lt =
    let len = length-append (spell c) (Rattle.std.specs.List.flat_map old_bytes ps) in
    let e : (at + length (spell c)) + old_length ps ≡ at + old_length (copied c ∷ ps) = omega (arith, len) in
    cuts_grow fill g (at + length (spell c)) ps h small more (rw e later) q (omega (arith, e, lt))
cuts_grow fill g at (replaced lead slot now last ∷ ps) h small more later q lt =
    let next = at + length (spell_all lead ++ slot) in
    let cut = cut_of fill at lead slot now last in
    let rest = cuts fill next ps ++ more in
    let len = length-append (spell_all lead ++ slot) (Rattle.std.specs.List.flat_map old_bytes ps) in
    let two = length-append (spell_all lead) slot in
    let e : next + old_length ps ≡ at + old_length (replaced lead slot now last ∷ ps) = omega (arith, len) in
    go cut rest (cases_lt q (end_of cut)) (λ past. cuts_grow fill g next ps h.1 small.1 more (rw e later) q (omega (arith, e, lt))) (λ past. grown last refl h.0 small.0 (omega (arith, past, two)))
  where
    go : (c : Cut) (rest : List Cut) → (q < end_of c) ⊎ (end_of c ≤ q) → (end_of c ≤ q → lost rest q ≤ gained rest q) → (end_of c ≤ q → c.len ≤ length c.bytes) → lost (c ∷ rest) q ≤ gained (c ∷ rest) q
    go c rest (inl x) again size = let z = inside_none c rest q x in omega (arith, z.0, z.1)
    go c rest (inr x) again size = let z = before_lost c rest q x in omega (arith, z.0, z.1, again x, size x)

    grown : (b : Bool) → last ≡ b → (last ≡ true → ps ≡ []) → length slot < 2 ^ 32 → at + length (spell_all lead ++ slot) ≤ q → length slot ≤ length (unit_bytes lead now ++ spell_all (fill last slot (length (unit_bytes lead now))))
    grown true e ends low past = let none = ends e in absurd (omega (arith, lt, past, length-append (spell_all lead ++ slot) (Rattle.std.specs.List.flat_map old_bytes ps), ap old_length none))
    grown false e ends low past =
        let one = g slot (length (unit_bytes lead now)) low in
        omega (arith, one, length-append (unit_bytes lead now) (spell_all (fill last slot (length (unit_bytes lead now)))), ap (λ (b : Bool). length (spell_all (fill b slot (length (unit_bytes lead now))))) e)

-- ---- RIFF's padding

room_long : (n s : ℕ) (slot : List ℕ) → n ≡ length slot - s → n < 2 ^ 32 → n ≤ 8 + length (room n slot s)
room_long n s slot e low = go (eqb (n % 2) 0 && (leb 8 n && ltb n (2 ^ 32))) (eqb (n % 2) 1 && (leb 9 n && ltb n (2 ^ 32))) refl refl
  where
    small : (eqb (n % 2) 0 && (leb 8 n && ltb n (2 ^ 32))) ≡ false → (eqb (n % 2) 1 && (leb 9 n && ltb n (2 ^ 32))) ≡ false → (8 < n) ⊎ (n ≤ 8) → n ≤ 8
    small a b (inr x) = x
    small a b (inl x) =
        let even : eqb (n % 2) 0 ≡ false = one (eqb (n % 2) 0) (leb 8 n) (ltb n (2 ^ 32)) (le-leb 8 n (omega arith)) (lt-ltb n (2 ^ 32) low) a in
        let odd : eqb (n % 2) 1 ≡ false = one (eqb (n % 2) 1) (leb 9 n) (ltb n (2 ^ 32)) (le-leb 9 n (omega arith)) (lt-ltb n (2 ^ 32) low) b in
        absurd (parity (eqb-false (n % 2) 0 even) (eqb-false (n % 2) 1 odd))
      where
        one : (p q r : Bool) → q ≡ true → r ≡ true → (p && (q && r)) ≡ false → p ≡ false
        one true true true x y z = absurd cc
        one true true false x y z = absurd cc
        one true false r x y z = absurd cc
        one false q r x y z = refl

        parity : (n % 2 ≡ 0 → ⊥) → (n % 2 ≡ 1 → ⊥) → ⊥
        parity x y = omega (arith, x, y)

    go : (t u : Bool) → (eqb (n % 2) 0 && (leb 8 n && ltb n (2 ^ 32))) ≡ t → (eqb (n % 2) 1 && (leb 9 n && ltb n (2 ^ 32))) ≡ u → n ≤ 8 + length (cond t (drop (s + 8) slot) (cond u (drop (s + 7) slot) []))
    go true u a b = omega (arith, e, length-drop (s + 8) slot)
    go false true a b = omega (arith, e, length-drop (s + 7) slot)
    go false false a b = small a b (cases_lt 8 n)

pub riff_grows : (b : Bool) → Grows (riff_fill b)
riff_grows b slot s low = go (leb (length slot) s || (b && false)) refl
  where
    short : (x y : Bool) → (x || (y && false)) ≡ true → x ≡ true
    short true y e = refl
    short false true e = absurd cc
    short false false e = absurd cc

    go : (t : Bool) → (leb (length slot) s || (b && false)) ≡ t → length slot ≤ s + length (spell_all (fill_by slot s t))
    go true e = omega (arith, leb-true (length slot) s (short (leb (length slot) s) b e))
    go false e =
        let body = room (length slot - s) slot s in
        let c = made (codes "JUNK") body in
        omega (arith, room_long (length slot - s) s slot refl (omega (arith, low)), length-append (spell c) [], length-append (header_bytes c.form c.id (length c.body)) (c.body ++ c.pad), length-append c.body c.pad)

-- Places in the first form don't move towards the start of the file.
pub edit_grows : (a : Avi) (e : Items) (q : ℕ) → old_length (units shut (new_cells a e)) < 2 ^ 32 → q < 12 + old_length (units shut (new_cells a e)) → q ≤ shift (edit_cuts a e) q
edit_grows a e q small lt =
    omega (
      arith,
      cuts_grow (riff_fill (ends_file a)) (riff_grows (ends_file a)) 12 (units shut (new_cells a e)) (units_end shut (new_cells a e)) (low_slots (units shut (new_cells a e)) small)
          (pad_cut (8 + length (inner a.children a.left)) a.pad (pad_after a e)) (pad_later a e) q lt,
    )
