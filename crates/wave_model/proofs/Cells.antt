-- The cells of a form, what is laid of them, and that nothing changes where no cell is edited.
use Rattle.std.proofs.Common.{◌≡◌, ℕ, Bool, true, false, leb, List, [], ◌∷◌, ◌++◌, length, map, refl, sym, ap, subst, ◌∙◌, arith, inl, inr}
use Rattle.std.specs.Prelude.{◌&&◌, ◌||◌, not}
use Rattle.std.specs.List.{flat_map, AllByRecursion}
use Rattle.std.proofs.lemmas.Bool.{ltb-true, and_parts}
use Rattle.std.proofs.lemmas.List.{length-append, append-nil}
use Rattle.std.proofs.lemmas.List.Concat.{flat_map-append}
use Rattle.container_model.specs.Chunk.{Chunk, spell_all, PadStands, Pads, Heads}
use Rattle.container_model.specs.Sizes.{Sizes, riff_front}
use Rattle.container_model.specs.Units.{Cell, kept, gap, edited, was, live, lacks_pad, is_empty, shut, units, Fill, lay}
use Rattle.container_model.proofs.Codec.{as_many}
use Rattle.container_model.proofs.Units.{AllCells}
use Rattle.container_model.proofs.Reread.{CellPads, Neutral}
use Rattle.carrier_model.specs.Info.{own_size, is_padding, riff_fill, fill_by}
use Rattle.carrier_model.proofs.Cells.{Gaps}
use Rattle.carrier_model.proofs.Views.{laid_view}
use Rattle.wave_model.specs.Wave.{cell_by, cell_of, cells_behind}
use Rattle.carrier_model.proofs.Steps.{NowCells, Own, KeptHeads, same_state, FirstKept}

-- ---- what holds of the cells

was_rest : (cs : List Chunk) → flat_map was (map cell_of cs) ≡ cs
was_rest [] = refl
was_rest (c ∷ cs) = rw (one (is_padding c), was_rest cs) refl
  where
    one : (t : Bool) → was (cell_by c t) ≡ c ∷ []
    one true = refl
    one false = refl

pub was_cells : (ds cs : List Chunk) → flat_map was (cells_behind ds cs) ≡ cs
was_cells [] [] = refl
was_cells [] (c ∷ cs) = ap (λ (x : List Chunk). c ∷ x) (was_rest cs)
was_cells (d ∷ ds) cs = was_rest cs

gaps_rest : (P : Chunk → Type 0) → ((c : Chunk) → is_padding c ≡ true → P c) → (cs : List Chunk) → Gaps P (map cell_of cs)
gaps_rest P p [] = tt
gaps_rest P p (c ∷ cs) = one (is_padding c) refl (gaps_rest P p cs)
  where
    one : (t : Bool) → is_padding c ≡ t → Gaps P (map cell_of cs) → Gaps P (cell_by c t ∷ map cell_of cs)
    one true e h = (p c e, h)
    one false e h = h

pub gaps_cells : (P : Chunk → Type 0) → ((c : Chunk) → is_padding c ≡ true → P c) → (ds cs : List Chunk) → Gaps P (cells_behind ds cs)
gaps_cells P p [] [] = tt
gaps_cells P p [] (c ∷ cs) = gaps_rest P p cs
gaps_cells P p (d ∷ ds) cs = gaps_rest P p cs

gaps_all : (P : Chunk → Type 0) (cs : List Chunk) → AllByRecursion P cs → Gaps P (map cell_of cs)
gaps_all P [] h = tt
gaps_all P (c ∷ cs) h = one (is_padding c) (gaps_all P cs h.1)
  where
    one : (t : Bool) → Gaps P (map cell_of cs) → Gaps P (cell_by c t ∷ map cell_of cs)
    one true g = (h.0, g)
    one false g = g

-- padding has what all chunks have
pub gaps_from : (P : Chunk → Type 0) (ds cs : List Chunk) → AllByRecursion P cs → Gaps P (cells_behind ds cs)
gaps_from P [] [] h = tt
gaps_from P [] (c ∷ cs) h = gaps_all P cs h.1
gaps_from P (d ∷ ds) cs h = gaps_all P cs h

all_rest : (P : Chunk → Type 0) (cs : List Chunk) → AllByRecursion P cs → AllCells P (map cell_of cs)
all_rest P [] h = tt
all_rest P (c ∷ cs) h = one (is_padding c) (all_rest P cs h.1)
  where
    one : (t : Bool) → AllCells P (map cell_of cs) → AllCells P (cell_by c t ∷ map cell_of cs)
    one true g = (h.0, g)
    one false g = (h.0, g)

pub all_cells : (P : Chunk → Type 0) (ds cs : List Chunk) → AllByRecursion P cs → AllCells P (cells_behind ds cs)
all_cells P [] [] h = tt
all_cells P [] (c ∷ cs) h = (h.0, all_rest P cs h.1)
all_cells P (d ∷ ds) cs h = all_rest P cs h

pads_rest : (cs : List Chunk) (left : List ℕ) → Pads cs left → CellPads (map cell_of cs) left
pads_rest [] left h = tt
pads_rest (c ∷ cs) left h = one (is_padding c) (pads_rest cs left h.1)
  where
    one : (t : Bool) → CellPads (map cell_of cs) left → CellPads (cell_by c t ∷ map cell_of cs) left
    one true g = (rw (was_rest cs) h.0, g)
    one false g = (rw (was_rest cs) h.0, g)

pub pads_cells : (ds cs : List Chunk) (left : List ℕ) → Pads cs left → CellPads (cells_behind ds cs) left
pads_cells [] [] left h = tt
pads_cells [] (c ∷ cs) left h = (rw (was_rest cs) h.0, pads_rest cs left h.1)
pads_cells (d ∷ ds) cs left h = pads_rest cs left h

now_rest : (P : Chunk → Type 0) (cs : List Chunk) → NowCells P (map cell_of cs)
now_rest P [] = tt
now_rest P (c ∷ cs) = one (is_padding c) (now_rest P cs)
  where
    one : (t : Bool) → NowCells P (map cell_of cs) → NowCells P (cell_by c t ∷ map cell_of cs)
    one true g = g
    one false g = g

pub now_cells : (P : Chunk → Type 0) (ds cs : List Chunk) → NowCells P (cells_behind ds cs)
now_cells P [] [] = tt
now_cells P [] (c ∷ cs) = now_rest P cs
now_cells P (d ∷ ds) cs = now_rest P cs

heads_rest : (s : Sizes) (cs : List Chunk) → AllByRecursion Own cs → Heads riff_front s cs → KeptHeads s (map cell_of cs)
heads_rest s [] o h = tt
heads_rest s (c ∷ cs) o h = one (is_padding c) refl (λ t g. heads_rest t cs o.1 g)
  where
    one : (t : Bool) → is_padding c ≡ t → ((u : Sizes) → Heads riff_front u cs → KeptHeads u (map cell_of cs)) → KeptHeads s (cell_by c t ∷ map cell_of cs)
    one true e again =
        let n : Neutral riff_front c = o.0 (and_parts (own_size c.form) _ e).0 in
        (n, again s (subst (λ (u : Sizes). Heads riff_front u cs) (same_state s h.0 c h.1 n) h.2))
    one false e again = (h.0, h.1, o.0, again h.0 h.2)

pub heads_cells : (s : Sizes) (ds cs : List Chunk) → AllByRecursion Own cs → Heads riff_front s cs → KeptHeads s (cells_behind ds cs)
heads_cells s [] [] o h = tt
heads_cells s [] (c ∷ cs) o h = (h.0, h.1, o.0, heads_rest h.0 cs o.1 h.2)
heads_cells s (d ∷ ds) cs o h = heads_rest s cs o h

-- ---- views to which padding and pads are nothing

pub record Ignores {X : Type 0} (v : Chunk → List X) : Type 0 where
  pub padding : (c : Chunk) → is_padding c ≡ true → v c ≡ []
  pub pads : (c : Chunk) → v (record c { pad = [] }) ≡ v c

module _ {X : Type 0} (v : Chunk → List X) (h : Ignores v) where
  view_rest : (cs : List Chunk) → flat_map v (flat_map live (map cell_of cs)) ≡ flat_map v cs
  view_rest [] = refl
  view_rest (c ∷ cs) = flat_map-append v (live (cell_of c)) (flat_map live (map cell_of cs)) ∙ rw (one (is_padding c) refl, view_rest cs) refl
    where
      one : (t : Bool) → is_padding c ≡ t → flat_map v (live (cell_by c t)) ≡ v c
      one true e = sym (h.padding c e)
      one false e = append-nil (v c)

  pub view_cells : (ds cs : List Chunk) → flat_map v (flat_map live (cells_behind ds cs)) ≡ flat_map v cs
  view_cells [] [] = refl
  view_cells [] (c ∷ cs) = ap (λ (x : List X). v c ++ x) (view_rest cs)
  view_cells (d ∷ ds) cs = view_rest cs

  fills : (ends last : Bool) (slot : List ℕ) (n : ℕ) → flat_map v (riff_fill ends last slot n) ≡ []
  fills ends last slot n = go (leb (length slot) n || (ends && last))
    where
      go : (t : Bool) → flat_map v (fill_by slot n t) ≡ []
      go true = refl
      go false = append-nil (v _) ∙ h.padding _ refl

  pub view_laid : (ends : Bool) (xs : List Cell) → Gaps (λ c. is_padding c ≡ true) xs → flat_map v (lay (riff_fill ends) (units shut xs)) ≡ flat_map v (flat_map live xs)
  view_laid ends xs g = laid_view v h.pads (riff_fill ends) (fills ends) xs (each xs g)
    where
      each : (xs : List Cell) → Gaps (λ c. is_padding c ≡ true) xs → Gaps (λ c. v c ≡ []) xs
      each [] g = tt
      each (kept c ∷ xs) g = each xs g
      each (gap c ∷ xs) g = (h.padding c g.0, each xs g.1)
      each (edited old now ∷ xs) g = each xs g

pub no_chunks : (cs : List Chunk) (left : List ℕ) → spell_all cs ++ left ≡ [] → cs ≡ []
no_chunks [] left n = refl
no_chunks (c ∷ cs) left n = absurd (omega (arith, as_many (c ∷ cs), length-append (spell_all (c ∷ cs)) left, ap length n))

-- ---- nothing is changed where nothing is edited

abbrev pub NoEdits : List Cell → Type 0
NoEdits [] = Unit {0}
NoEdits (kept c ∷ xs) = NoEdits xs
NoEdits (gap c ∷ xs) = NoEdits xs
NoEdits (edited old now ∷ xs) = ⊥

unedited_rest : (cs : List Chunk) → NoEdits (map cell_of cs)
unedited_rest [] = tt
unedited_rest (c ∷ cs) = one (is_padding c) (unedited_rest cs)
  where
    one : (t : Bool) → NoEdits (map cell_of cs) → NoEdits (cell_by c t ∷ map cell_of cs)
    one true h = h
    one false h = h

pub unedited : (ds cs : List Chunk) → NoEdits (cells_behind ds cs)
unedited [] [] = tt
unedited [] (c ∷ cs) = unedited_rest cs
unedited (d ∷ ds) cs = unedited_rest cs

behind_some : (xs : List Cell) (left : List ℕ) → NoEdits xs → is_empty xs ≡ false → spell_all (flat_map was xs) ++ left ≡ [] → ⊥
behind_some [] left h e n = absurd cc
behind_some (kept d ∷ xs) left h e n = omega (arith, as_many (d ∷ flat_map was xs), length-append (spell_all (d ∷ flat_map was xs)) left, ap length n)
behind_some (gap d ∷ xs) left h e n = omega (arith, as_many (d ∷ flat_map was xs), length-append (spell_all (d ∷ flat_map was xs)) left, ap length n)
behind_some (edited old now ∷ xs) left h e n = absurd h

still_next : (c : Chunk) (xs : List Cell) (left : List ℕ) → NoEdits xs → PadStands c.form (length c.body) c.pad (spell_all (flat_map was xs) ++ left) → (lacks_pad c && not (is_empty xs)) ≡ false
still_next c xs left h p = go (lacks_pad c) (is_empty xs) refl refl p
  where
    go : (t u : Bool) → lacks_pad c ≡ t → is_empty xs ≡ u → PadStands c.form (length c.body) c.pad (spell_all (flat_map was xs) ++ left) → (t && not u) ≡ false
    go true true e i p = refl
    go true false e i (inl s) = absurd (omega (arith, ltb-true _ _ e))
    go true false e i (inr s) = absurd (behind_some xs left h i s.1)
    go false u e i p = refl

pub still_all : (fill : Fill) (xs : List Cell) (left : List ℕ) → NoEdits xs → CellPads xs left → lay fill (units shut xs) ≡ flat_map was xs
unfolding units
still_all fill [] left h p = refl
still_all fill (kept c ∷ xs) left h p = rw (still_next c xs left h p.0) (ap (λ (x : List Chunk). c ∷ x) (still_all fill xs left h p.1))
still_all fill (gap c ∷ xs) left h p = rw (still_next c xs left h p.0) (ap (λ (x : List Chunk). c ∷ x) (still_all fill xs left h p.1))
still_all fill (edited old now ∷ xs) left h p = absurd h

-- ---- the first chunk

abbrev pub FirstIs : Chunk → List Chunk → Type 0
FirstIs c [] = ⊥
FirstIs c (d ∷ ds) = d ≡ c

-- a chunk whose pad stands is copied
pub first_laid : (fill : Fill) (c : Chunk) (xs : List Cell) → lacks_pad c ≡ false → FirstKept c xs → FirstIs c (lay fill (units shut xs))
unfolding units
first_laid fill c xs whole k = rw k.1 (rw whole refl)
