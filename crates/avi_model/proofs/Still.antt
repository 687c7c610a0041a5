-- Where every unit fits its slot, no place moves.
use Rattle.std.proofs.Common.{◌≡◌, ℕ, ◌+◌, ◌<◌, ◌≤◌, Bool, true, false, List, [], ◌∷◌, ◌++◌, length, refl, sym, ap, ◌∙◌, arith, inl, inr}
use Rattle.std.specs.Prelude.{◌⊎◌}
use Rattle.std.proofs.lemmas.Bool.{cases_lt}
use Rattle.std.proofs.lemmas.List.{length-append}
use Rattle.container_model.specs.Chunk.{spell_all}
use Rattle.container_model.specs.Splice.{Cut, end_of, gained, lost, shift}
use Rattle.container_model.specs.Units.{Piece, shut, units, cuts}
use Rattle.container_model.proofs.Places.{old_length, Before}
use Rattle.container_model.proofs.Splice.{before_lost, behind_lost}
use Rattle.container_model.proofs.Units.{BringsPad, units_bring}
use Rattle.carrier_model.specs.Info.{riff_fill}
use Rattle.carrier_model.specs.Room.{units_fit}
use Rattle.carrier_model.proofs.Fitted.{AllFit, LastOnly, last_units, cut_open, same_gained}
use Rattle.carrier_model.proofs.Room.{riff_fits}
use Rattle.avi_model.specs.Avi.{Avi, inner, behind}
use Rattle.carrier_model.specs.RiffForm.{pad_cut}
use Rattle.carrier_model.proofs.RiffForm.{ended_rest, size_stays, pad_stays}
use Rattle.avi_model.specs.NewFile.{Items, new_cells, new_children, new_size, pad_after, edit_cuts}
use Rattle.avi_model.specs.Named.{riff_of, ends_file}
use Rattle.avi_model.proofs.Spans.{is_riff}
use Rattle.avi_model.proofs.Read.{others_place}
use Rattle.avi_model.proofs.Tables.{was_new, pad_later}
use Rattle.avi_model.proofs.Past.{children_length, past_edit}

-- ---- no place moves

-- spans behind a place are nothing to it
none_before : (more : List Cut) (p : ℕ) → Before p more → (gained more p ≡ 0) × (lost more p ≡ 0)
none_before [] p h = (refl, refl)
none_before (c ∷ more) p h = let r = behind_lost c more p h.0 in (r.0, r.1)

pub gained_before : (cs more : List Cut) (p : ℕ) → Before p more → (gained (cs ++ more) p ≡ gained cs p) × (lost (cs ++ more) p ≡ lost cs p)
gained_before [] more p h = none_before more p h
gained_before (c ∷ cs) more p h = go (cases_lt p (end_of c)) (gained_before cs more p h)
  where
    go : (p < end_of c) ⊎ (end_of c ≤ p) → (gained (cs ++ more) p ≡ gained cs p) × (lost (cs ++ more) p ≡ lost cs p) → (gained (c ∷ (cs ++ more)) p ≡ gained (c ∷ cs) p) × (lost (c ∷ (cs ++ more)) p ≡ lost (c ∷ cs) p)
    go (inl lt) again = let x = cut_open c (cs ++ more) p lt in let y = cut_open c cs p lt in (x.0 ∙ sym y.0, x.1 ∙ sym y.1)
    go (inr le) again = let x = before_lost c (cs ++ more) p le in let y = before_lost c cs p le in (omega (arith, x.0, y.0, again.0), omega (arith, x.1, y.1, again.1))

module _ (a : Avi) (e : Items) (fits : units_fit (ends_file a) (units shut (new_cells a e)) ≡ true) where
  abbrev ps : List Piece
  ps = units shut (new_cells a e)

  all_fit : AllFit (riff_fill (ends_file a)) (ends_file a) (units shut (new_cells a e))
  all_fit = riff_fits (ends_file a) (units shut (new_cells a e)) fits

  only_last : LastOnly (units shut (new_cells a e))
  only_last = last_units shut (new_cells a e)

  brings : BringsPad (units shut (new_cells a e))
  brings = units_bring shut (new_cells a e) tt

  -- what stands behind the chunks where the last slot ends the file
  behind_none : ends_file a ≡ true → behind a ≡ []
  behind_none t = (ended_rest (riff_of a) (new_cells a e) (is_riff a) (was_new a e) refl fits t).2

  -- the form keeps its size, unless the last slot ends the file, and its pad
  form_size : ends_file a ≡ false → new_size a e ≡ length (inner a.children a.left)
  form_size t = size_stays (riff_of a) (new_cells a e) (is_riff a) (was_new a e) refl fits t

  pad_same : pad_after a e ≡ a.pad
  pad_same = pad_stays (riff_of a) (new_cells a e) (is_riff a) (was_new a e) refl fits

  -- No place of a chunk of the first form moves.
  pub place_stays : (q : ℕ) → q < 12 + length (spell_all a.children) → shift (edit_cuts a e) q ≡ q
  place_stays q lt =
      let low : q < 12 + old_length ps = omega (arith, lt, children_length a e) in
      let same = same_gained (riff_fill (ends_file a)) (ends_file a) 12 ps q only_last all_fit (λ t. low) in
      let m = gained_before (cuts (riff_fill (ends_file a)) 12 ps) (pad_cut (8 + length (inner a.children a.left)) a.pad (pad_after a e)) q (pad_later a e q low) in
      omega (arith, same, m.0, m.1)

  -- Nor does one behind it.
  pub past_stays : (q : ℕ) → others_place a ≤ q → 0 < length (behind a) → shift (edit_cuts a e) q ≡ q
  past_stays q le some = go (ends_file a) refl
    where
      go : (t : Bool) → ends_file a ≡ t → shift (edit_cuts a e) q ≡ q
      go true t = absurd (omega (arith, some, ap length (behind_none t)))
      go false t =
          let p = past_edit a e q le in
          omega (
            arith,
            p.1,
            form_size t,
            ap length pad_same,
            length-append (inner a.children a.left) a.pad,
            length-append (inner (new_children a e) a.left) (pad_after a e),
          )
