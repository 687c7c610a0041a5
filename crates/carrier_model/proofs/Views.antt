-- What a view sees of the chunks that are laid, where padding and pads are nothing to it.
use Rattle.std.proofs.Common.{◌≡◌, ℕ, Bool, true, false, List, [], ◌∷◌, ◌++◌, length, map, refl, sym, ap, ◌∙◌, append_assoc}
use Rattle.std.specs.Prelude.{◌&&◌, not}
use Rattle.std.specs.List.{flat_map}
use Rattle.std.proofs.lemmas.List.{append-nil}
use Rattle.std.proofs.lemmas.List.Concat.{flat_map-append}
use Rattle.container_model.specs.Chunk.{Chunk, spell, spell_all}
use Rattle.container_model.specs.Units.{Cell, kept, gap, edited, live, padded, lacks_pad, Piece, Slot, shut, begun, is_empty, closed, kept_next, units, unit_bytes, Fill, lay}
use Rattle.carrier_model.proofs.Cells.{Gaps}

module _ {X : Type 0} (v : Chunk → List X) (pads : (c : Chunk) → v (record c { pad = [] }) ≡ v c) (fill : Fill) (fills : (last : Bool) (slot : List ℕ) (n : ℕ) → flat_map v (fill last slot n) ≡ []) where
  abbrev slot_view : Slot → List X
  slot_view shut = []
  slot_view (begun lead slot now) = flat_map v lead ++ flat_map v now

  padded_view : (cs : List Chunk) → flat_map v (map padded cs) ≡ flat_map v cs
  padded_view [] = refl
  padded_view (c ∷ cs) = ap (λ (x : List X). x ++ flat_map v (map padded cs)) (sym (pads (padded c)) ∙ pads c) ∙ ap (λ (x : List X). v c ++ x) (padded_view cs)

  closed_view : (last : Bool) (t : Slot) (ps : List Piece) → flat_map v (lay fill (closed last t ++ ps)) ≡ slot_view t ++ flat_map v (lay fill ps)
  closed_view last shut ps = refl
  closed_view last (begun lead slot now) ps =
      let f = fill last slot (length (unit_bytes lead now)) in
      flat_map-append v (map padded lead ++ (now ++ f)) (lay fill ps)
      ∙ ap (λ (x : List X). x ++ flat_map v (lay fill ps)) (flat_map-append v (map padded lead) (now ++ f) ∙ rw (padded_view lead, flat_map-append v now f, fills last slot (length (unit_bytes lead now)), append-nil (flat_map v now)) refl)

  kept_view : (r : Bool) (c : Chunk) (more : Slot → List Piece) (b : List X) → ((t : Slot) → flat_map v (lay fill (more t)) ≡ slot_view t ++ b) → flat_map v (lay fill (kept_next r c more)) ≡ v c ++ b
  kept_view true c more b h = h (begun (c ∷ []) [] []) ∙ ap (λ (x : List X). x ++ b) (append-nil (v c ++ []) ∙ append-nil (v c))
  kept_view false c more b h = ap (λ (x : List X). v c ++ x) (h shut)

  units_view : (t : Slot) (xs : List Cell) → Gaps (λ c. v c ≡ []) xs → flat_map v (lay fill (units t xs)) ≡ slot_view t ++ flat_map v (flat_map live xs)
  unfolding units
  units_view t [] g = ap (λ (ps : List Piece). flat_map v (lay fill ps)) (sym (append-nil (closed true t))) ∙ closed_view true t []
  units_view t (kept c ∷ xs) g =
      closed_view false t (kept_next (lacks_pad c && not (is_empty xs)) c (λ u. units u xs))
      ∙ ap (λ (x : List X). slot_view t ++ x) (kept_view (lacks_pad c && not (is_empty xs)) c (λ u. units u xs) (flat_map v (flat_map live xs)) (λ u. units_view u xs g))
  units_view shut (gap c ∷ xs) g =
      kept_view (lacks_pad c && not (is_empty xs)) c (λ u. units u xs) (flat_map v (flat_map live xs)) (λ u. units_view u xs g.1) ∙ ap (λ (x : List X). x ++ flat_map v (flat_map live xs)) g.0
  units_view (begun lead slot now) (gap c ∷ xs) g = units_view (begun lead (slot ++ spell c) now) xs g.1
  units_view shut (edited old new ∷ xs) g = units_view (begun [] (spell_all old) new) xs g ∙ sym (flat_map-append v new (flat_map live xs))
  units_view (begun lead slot now) (edited old new ∷ xs) g =
      units_view (begun lead (slot ++ spell_all old) (now ++ new)) xs g
      ∙ ap (λ (x : List X). (flat_map v lead ++ x) ++ flat_map v (flat_map live xs)) (flat_map-append v now new)
      ∙ ap (λ (x : List X). x ++ flat_map v (flat_map live xs)) (sym (append_assoc (flat_map v lead) (flat_map v now) (flat_map v new)))
      ∙ append_assoc (flat_map v lead ++ flat_map v now) (flat_map v new) (flat_map v (flat_map live xs))
      ∙ ap (λ (x : List X). (flat_map v lead ++ flat_map v now) ++ x) (sym (flat_map-append v new (flat_map live xs)))

  pub laid_view : (xs : List Cell) → Gaps (λ c. v c ≡ []) xs → flat_map v (lay fill (units shut xs)) ≡ flat_map v (flat_map live xs)
  laid_view xs g = units_view shut xs g
