-- What is written into the old file changes no span of the edit.
use Rattle.std.proofs.Common.{◌≡◌, ℕ, ◌+◌, Bool, true, false, List, [], ◌∷◌, ◌++◌, length, map, refl, ap, ◌∙◌, arith}
use Rattle.std.specs.Prelude.{◌&&◌}
use Rattle.std.proofs.lemmas.List.{length-append}
use Rattle.container_model.specs.Chunk.{Chunk, spell, spell_all}
use Rattle.container_model.specs.Splice.{Cut}
use Rattle.container_model.specs.Units.{Cell, kept, gap, shut, units, lay, cuts}
use Rattle.container_model.specs.Written.{Write}
use Rattle.container_model.proofs.Written.{renew, renewed, renewed_length}
use Rattle.carrier_model.specs.Lists.{edit_list_cells}
use Rattle.carrier_model.specs.Info.{info, info_items, is_padding, riff_fill}
use Rattle.carrier_model.proofs.Renewed.{renewed_cells, Fixed, LeftAlone, carried_renewed, cuts_shut, laid_shut}
use Rattle.avi_model.specs.Avi.{Avi, inner, behind}
use Rattle.avi_model.specs.NewFile.{Items, home, new_cells, new_children, pad_after, edit_cuts}
use Rattle.avi_model.specs.Named.{cell_by, cell_of, ends_file}
use Rattle.carrier_model.specs.RiffForm.{new_pad, pad_cut}
use Rattle.container_model.specs.Items.{is_nil}
use Rattle.avi_model.proofs.Read.{renewed_avi, others_place}

-- padding and carriers are left alone
abbrev pub ChunkAlone : List Write → ℕ → Chunk → Type 0
ChunkAlone ws at c = (is_padding c ≡ true → renew ws at c ≡ c) × LeftAlone info home ws at c

abbrev pub AllAlone : List Write → ℕ → List Chunk → Type 0
AllAlone ws at [] = Unit {0}
AllAlone ws at (c ∷ cs) = ChunkAlone ws at c × AllAlone ws (at + length (spell c)) cs

module _ (ws : List Write) where
  cells_renewed : (at : ℕ) (cs : List Chunk) → AllAlone ws at cs → map cell_of (renewed ws at cs) ≡ renewed_cells ws at (map cell_of cs)
  cells_renewed at [] h = refl
  cells_renewed at (c ∷ cs) h = go (is_padding c) refl (cells_renewed (at + length (spell c)) cs h.1)
    where
      go : (t : Bool) → is_padding c ≡ t → map cell_of (renewed ws (at + length (spell c)) cs) ≡ renewed_cells ws (at + length (spell c)) (map cell_of cs)
          → cell_by (renew ws at c) t ∷ map cell_of (renewed ws (at + length (spell c)) cs) ≡ renewed_cells ws at (cell_by c t ∷ map cell_of cs)
      go true e g = ap (λ (d : Chunk). gap d ∷ map cell_of (renewed ws (at + length (spell c)) cs)) (h.0.0 e) ∙ ap (λ (ys : List Cell). gap c ∷ ys) g
      go false e g = ap (λ (ys : List Cell). kept (renew ws at c) ∷ ys) g

  cells_fixed : (at : ℕ) (cs : List Chunk) → AllAlone ws at cs → Fixed info home ws at (map cell_of cs)
  cells_fixed at [] h = tt
  cells_fixed at (c ∷ cs) h = go (is_padding c) (cells_fixed (at + length (spell c)) cs h.1)
    where
      go : (t : Bool) → Fixed info home ws (at + length (spell c)) (map cell_of cs) → Fixed info home ws at (cell_by c t ∷ map cell_of cs)
      go true g = g
      go false g = (h.0.1, g)

  pub new_cells_renewed : (a : Avi) (e : Items) → AllAlone ws 12 a.children → new_cells (renewed_avi ws a) e ≡ renewed_cells ws 12 (new_cells a e)
  new_cells_renewed a e h = ap (edit_list_cells info info_items home e) (cells_renewed 12 a.children h) ∙ carried_renewed info home ws info_items e 12 (map cell_of a.children) (cells_fixed 12 a.children h)

  none_length : (x y : List ℕ) → length x ≡ length y → is_nil x ≡ is_nil y
  none_length [] [] e = refl
  none_length [] (b ∷ y) e = absurd (omega arith)
  none_length (a ∷ x) [] e = absurd (omega arith)
  none_length (a ∷ x) (b ∷ y) e = refl

  pub behind_length : (a : Avi) → length (behind (renewed_avi ws a)) ≡ length (behind a)
  behind_length a = omega (arith, length-append (spell_all (renewed ws (others_place a) a.others)) a.tail, length-append (spell_all a.others) a.tail, renewed_length ws (others_place a) a.others)

  pub ends_same : (a : Avi) → ends_file (renewed_avi ws a) ≡ ends_file a
  ends_same a = ap (λ (b : Bool). is_nil a.left && (is_nil a.pad && b)) (none_length (behind (renewed_avi ws a)) (behind a) (behind_length a))

  pub pad_same : (old new : ℕ) (pad x y : List ℕ) → length x ≡ length y → new_pad old new pad x ≡ new_pad old new pad y
  pad_same old new pad x y e = rw (none_length x y e) refl

  -- the same spans
  pub cuts_same : (a : Avi) (e : Items) → AllAlone ws 12 a.children → edit_cuts (renewed_avi ws a) e ≡ edit_cuts a e
  cuts_same a e h =
      let b = renewed_avi ws a in
      let cells = new_cells_renewed a e h in
      let fill = riff_fill (ends_file a) in
      let units_same : cuts (riff_fill (ends_file b)) 12 (units shut (new_cells b e)) ≡ cuts fill 12 (units shut (new_cells a e))
      = ap (λ (t : Bool). cuts (riff_fill t) 12 (units shut (new_cells b e))) (ends_same a) ∙ ap (λ (xs : List Cell). cuts fill 12 (units shut xs)) cells ∙ cuts_shut ws fill (new_cells a e) 12 12 in
      let laid_same : length (spell_all (new_children b e)) ≡ length (spell_all (new_children a e))
      = ap (λ (t : Bool). length (spell_all (lay (riff_fill t) (units shut (new_cells b e))))) (ends_same a) ∙ ap (λ (xs : List Cell). length (spell_all (lay fill (units shut xs)))) cells ∙ laid_shut ws fill (new_cells a e) 12 in
      let old_size : length (inner b.children b.left) ≡ length (inner a.children a.left) = omega (arith, renewed_length ws 12 a.children, length-append (spell_all b.children) a.left, length-append (spell_all a.children) a.left) in
      let new_size : length (inner (new_children b e) a.left) ≡ length (inner (new_children a e) a.left) = omega (arith, laid_same, length-append (spell_all (new_children b e)) a.left, length-append (spell_all (new_children a e)) a.left) in
      let pad : pad_after b e ≡ pad_after a e
      = ap (λ (k : ℕ). new_pad k (length (inner (new_children b e) a.left)) a.pad (behind b)) old_size ∙ ap (λ (k : ℕ). new_pad (length (inner a.children a.left)) k a.pad (behind b)) new_size
      ∙ pad_same (length (inner a.children a.left)) (length (inner (new_children a e) a.left)) a.pad (behind b) (behind a) (behind_length a) in
      ap (λ (x : List Cut). x ++ pad_cut (8 + length (inner b.children b.left)) a.pad (pad_after b e)) units_same
      ∙ ap (λ (k : ℕ). cuts fill 12 (units shut (new_cells a e)) ++ pad_cut (8 + k) a.pad (pad_after b e)) old_size
      ∙ ap (λ (x : List ℕ). cuts fill 12 (units shut (new_cells a e)) ++ pad_cut (8 + length (inner a.children a.left)) a.pad x) pad

  -- and the same size
  pub size_same : (a : Avi) (e : Items) → AllAlone ws 12 a.children → length (inner (new_children (renewed_avi ws a) e) a.left) ≡ length (inner (new_children a e) a.left)
  size_same a e h =
      let b = renewed_avi ws a in
      let cells = new_cells_renewed a e h in
      let fill = riff_fill (ends_file a) in
      let laid_same : length (spell_all (new_children b e)) ≡ length (spell_all (new_children a e))
      = ap (λ (t : Bool). length (spell_all (lay (riff_fill t) (units shut (new_cells b e))))) (ends_same a) ∙ ap (λ (xs : List Cell). length (spell_all (lay fill (units shut xs)))) cells ∙ laid_shut ws fill (new_cells a e) 12 in
      omega (arith, laid_same, length-append (spell_all (new_children b e)) a.left, length-append (spell_all (new_children a e)) a.left)
