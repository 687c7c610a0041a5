-- Where the spans in each copied chunk make another chunk of it, the spans of the list make the edited list of these.
use Rattle.std.proofs.Common.{◌≡◌, ℕ, ◌+◌, ◌-◌, ◌≤◌, Bool, true, false, List, [], ◌∷◌, ◌++◌, length, map, take, drop, refl, sym, ap, subst, ◌∙◌, append_assoc, arith}
use Rattle.std.specs.Prelude.{◌&&◌, not}
use Rattle.std.specs.List.{flat_map}
use Rattle.std.proofs.lemmas.List.{length-append, take_at, drop_at}
use Rattle.container_model.specs.Chunk.{Chunk, spell, spell_all}
use Rattle.container_model.specs.Cuts.{cuts_with, changed_piece}
use Rattle.container_model.specs.Splice.{Ascend, Cut, end_of, splice_from}
use Rattle.container_model.specs.Units.{Cell, kept, gap, edited, Piece, copied, replaced, Slot, shut, begun, closed, kept_next, is_empty, lacks_pad, padded, units, old_bytes, lead_pad, unit_bytes, Fill, lay, cut_of}
use Rattle.container_model.proofs.Units.{AllCells, BringsPad, From, spell_all-append}

module _ (t : ℕ → Chunk → List Cut) (g : Chunk → Chunk) where
  -- The spans in a chunk at a place: they begin behind the place, ascend and end with the chunk, and with them replaced the chunk is another one, whatever follows.
  pub record Makes (at : ℕ) (c : Chunk) : Type 0 where
    pub from : (more : List Cut) → From (at + length (spell c)) more → From at (t at c ++ more)
    pub ascend : (more : List Cut) (end : ℕ) → Ascend (at + length (spell c)) more end → Ascend at (t at c ++ more) end
    pub makes : (rest : List ℕ) (more : List Cut) → From (at + length (spell c)) more → splice_from at (spell c ++ rest) (t at c ++ more) ≡ spell (g c) ++ splice_from (at + length (spell c)) rest more

  -- of each copied chunk
  abbrev pub AllMake : List Piece → Type 0
  AllMake [] = Unit {0}
  AllMake (copied c ∷ ps) = ((at : ℕ) → Makes at c) × AllMake ps
  AllMake (replaced lead slot now last ∷ ps) = AllMake ps

  pub cuts_from_with : (fill : Fill) (at : ℕ) (ps : List Piece) → AllMake ps → From at (cuts_with t fill at ps)
  cuts_from_with fill at [] h = tt
  cuts_from_with fill at (copied c ∷ ps) h = (h.0 at).from (cuts_with t fill (at + length (spell c)) ps) (cuts_from_with fill (at + length (spell c)) ps h.1)
  cuts_from_with fill at (replaced lead slot now last ∷ ps) h = omega arith

  pub cuts_ascend_with : (fill : Fill) (at : ℕ) (ps : List Piece) (end : ℕ) → AllMake ps → at + length (flat_map old_bytes ps) ≤ end → Ascend at (cuts_with t fill at ps) end
  cuts_ascend_with fill at [] end h low = omega arith
  cuts_ascend_with fill at (copied c ∷ ps) end h low =
      (h.0 at).ascend (cuts_with t fill (at + length (spell c)) ps) end (cuts_ascend_with fill (at + length (spell c)) ps end h.1 (omega (arith, length-append (spell c) (flat_map old_bytes ps))))
  cuts_ascend_with fill at (replaced lead slot now last ∷ ps) end h low =
      let l = spell_all lead in
      let next = at + length (l ++ slot) in
      let e : next ≡ at + length l + length slot = omega (arith, length-append l slot) in
      (omega arith, subst (λ (k : ℕ). Ascend k (cuts_with t fill next ps) end) e (cuts_ascend_with fill next ps end h (omega (arith, length-append (l ++ slot) (flat_map old_bytes ps)))))

  pub lay_splices_with : (fill : Fill) (at : ℕ) (ps : List Piece) (rest : List ℕ) → BringsPad ps → AllMake ps
      → splice_from at (flat_map old_bytes ps ++ rest) (cuts_with t fill at ps) ≡ spell_all (lay fill (map (changed_piece g) ps)) ++ rest
  lay_splices_with fill at [] rest h k = refl
  lay_splices_with fill at (copied c ∷ ps) rest h k =
      let b = flat_map old_bytes ps ++ rest in
      let next = at + length (spell c) in
      let one : splice_from at ((spell c ++ flat_map old_bytes ps) ++ rest) (t at c ++ cuts_with t fill next ps) ≡ splice_from at (spell c ++ b) (t at c ++ cuts_with t fill next ps)
      = ap (λ (x : List ℕ). splice_from at x (t at c ++ cuts_with t fill next ps)) (append_assoc (spell c) (flat_map old_bytes ps) rest) in
      one ∙ (k.0 at).makes b (cuts_with t fill next ps) (cuts_from_with fill next ps k.1) ∙ ap (λ (x : List ℕ). spell (g c) ++ x) (lay_splices_with fill next ps rest h k.1)
      ∙ sym (append_assoc (spell (g c)) (spell_all (lay fill (map (changed_piece g) ps))) rest)
  lay_splices_with fill at (replaced lead slot now last ∷ ps) rest h k =
      let b = flat_map old_bytes ps ++ rest in
      let l = spell_all lead in
      let c = cut_of fill at lead slot now last in
      let next = at + length (l ++ slot) in
      let f = fill last slot (length (unit_bytes lead now)) in
      let qs = map (changed_piece g) ps in
      let e1 : c.at - at ≡ length l = omega arith in
      let e2 : end_of c - at ≡ length (l ++ slot) = omega (arith, length-append l slot) in
      let e3 : end_of c ≡ next = omega (arith, length-append l slot) in
      let old : ((l ++ slot) ++ flat_map old_bytes ps) ++ rest ≡ (l ++ slot) ++ b = append_assoc (l ++ slot) (flat_map old_bytes ps) rest in
      let front : take (c.at - at) ((l ++ slot) ++ b) ≡ l = rw (e1, append_assoc l slot b) (take_at l (slot ++ b) (length l) refl) in
      let back : drop (end_of c - at) ((l ++ slot) ++ b) ≡ b = rw e2 (drop_at (l ++ slot) b (length (l ++ slot)) refl) in
      let again : splice_from (end_of c) b (cuts_with t fill next ps) ≡ spell_all (lay fill qs) ++ rest = rw e3 (lay_splices_with fill next ps rest h.1 k) in
      let new : spell_all (lay fill (replaced lead slot now last ∷ qs)) ≡ (l ++ lead_pad lead) ++ ((spell_all now ++ spell_all f) ++ spell_all (lay fill qs))
      = rw (spell_all-append (map padded lead ++ (now ++ f)) (lay fill qs), spell_all-append (map padded lead) (now ++ f), spell_all-append now f, h.0) (append_assoc (l ++ lead_pad lead) (spell_all now ++ spell_all f) (spell_all (lay fill qs))) in
      rw (old, front, back, again, new) (simp append_assoc)

  -- ---- what is copied are chunks of the cells

  abbrev pub CanMake : Chunk → Type 0
  CanMake c = (at : ℕ) → Makes at c

  closed_makes : (last : Bool) (s : Slot) (ps : List Piece) → AllMake ps → AllMake (closed last s ++ ps)
  closed_makes last shut ps h = h
  closed_makes last (begun lead slot now) ps h = h

  next_makes : (r : Bool) (c : Chunk) (more : Slot → List Piece) → CanMake c → ((s : Slot) → AllMake (more s)) → AllMake (kept_next r c more)
  next_makes true c more k h = h (begun (c ∷ []) [] [])
  next_makes false c more k h = (k, h shut)

  pub units_make : (s : Slot) (xs : List Cell) → AllCells CanMake xs → AllMake (units s xs)
  unfolding units
  units_make shut [] h = tt
  units_make (begun lead slot now) [] h = tt
  units_make s (kept c ∷ xs) h = closed_makes false s _ (next_makes (lacks_pad c && not (is_empty xs)) c (λ u. units u xs) h.0 (λ u. units_make u xs h.1))
  units_make shut (gap c ∷ xs) h = next_makes (lacks_pad c && not (is_empty xs)) c (λ u. units u xs) h.0 (λ u. units_make u xs h.1)
  units_make (begun lead slot now) (gap c ∷ xs) h = units_make (begun lead (slot ++ spell c) now) xs h.1
  units_make shut (edited old new ∷ xs) h = units_make (begun [] (spell_all old) new) xs h.1
  units_make (begun lead slot now) (edited old new ∷ xs) h = units_make (begun lead (slot ++ spell_all old) (now ++ new)) xs h.1
