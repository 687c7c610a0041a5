-- The cells of a movie after an edit lack no pads, and none of their padding is user data.
use Rattle.std.proofs.Common.{◌≡◌, ℕ, Bool, true, false, cond, List, [], ◌∷◌, ◌++◌, map, refl, arith}
use Rattle.std.specs.List.{AllByRecursion, flat_map}
use Rattle.std.proofs.lemmas.Bool.{le-ltb}
use Rattle.container_model.specs.Chunk.{Chunk}
use Rattle.container_model.specs.Sizes.{inside}
use Rattle.container_model.specs.Units.{Cell, kept, gap, edited, lacks_pad, live}
use Rattle.container_model.proofs.Read.{Atom}
use Rattle.carrier_model.specs.Cells.{Act, Change, Side, Test, acted_cells, add, become, before, behind, beside, change, change_at, changed_cell, count_all, counted, insert, insert_cell, leave, meets, new_cell, nothing, only_gaps, settle_cells, some_meets}
use Rattle.carrier_model.specs.Steps.{Step, carried}
use Rattle.mov_model.specs.Atoms.{cell_by, cell_of, is_padding}
use Rattle.mov_model.proofs.Carry.{padding_not}
use Rattle.mov_model.proofs.Cells.{is_user, user_sort}
use Rattle.mov_plan.specs.Shapes.{ArePlain}

changed_plain : (d : Change) (c : Chunk) (xs : List Cell) → lacks_pad c ≡ false → ArePlain xs → ArePlain (changed_cell d c ∷ xs)
changed_plain leave c xs h g = (h, g)
changed_plain (become cs) c xs h g = g

settle_plain : (p : Chunk → Bool) (f : ℕ → Chunk → Change) (n : ℕ) (xs : List Cell) → ArePlain xs → ArePlain (settle_cells p f n xs)
settle_plain p f n [] h = tt
settle_plain p f n (kept c ∷ xs) h = changed_plain (change_at p f n c) c (settle_cells p f (counted p n c) xs) h.0 (settle_plain p f (counted p n c) xs h.1)
settle_plain p f n (gap c ∷ xs) h = (h.0, h.1, settle_plain p f n xs h.2)
settle_plain p f n (edited old now ∷ xs) h = settle_plain p f (count_all p n now) xs h

insert_plain : (s : Side) (t : Test) (c : Chunk) (xs : List Cell) → ArePlain xs → ArePlain (insert_cell s t c xs)
insert_plain s t c [] h = tt
insert_plain s t c (kept d ∷ xs) h = go s (meets t d) (insert_plain s t c xs h.1)
  where
    go : (s : Side) (u : Bool) → ArePlain (insert_cell s t c xs) → ArePlain (cond u (beside s (new_cell c) (kept d) ++ xs) (kept d ∷ insert_cell s t c xs))
    go behind true again = (h.0, h.1)
    go before true again = (h.0, h.1)
    go s false again = (h.0, again)
insert_plain s t c (gap d ∷ xs) h = go (only_gaps xs) (insert_plain s t c xs h.2)
  where
    go : (u : Bool) → ArePlain (insert_cell s t c xs) → ArePlain (cond u (new_cell c ∷ (gap d ∷ xs)) (gap d ∷ insert_cell s t c xs))
    go true again = h
    go false again = (h.0, h.1, again)
insert_plain s t c (edited old now ∷ xs) h = go (some_meets t now) (insert_plain s t c xs h)
  where
    go : (u : Bool) → ArePlain (insert_cell s t c xs) → ArePlain (cond u (edited old (insert s t c now) ∷ xs) (edited old now ∷ insert_cell s t c xs))
    go true again = h
    go false again = again

acted_plain : (a : Act) (xs : List Cell) → ArePlain xs → ArePlain (acted_cells a xs)
acted_plain nothing xs h = h
acted_plain (change p f) xs h = settle_plain p f 0 xs h
acted_plain (add s t c) xs h = insert_plain s t c xs h

pub carried_plain : (ss : List Step) (xs : List Cell) → ArePlain xs → ArePlain (carried ss xs)
carried_plain [] xs h = h
carried_plain (s ∷ ss) xs h = carried_plain ss (acted_cells (s (flat_map live xs)) xs) (acted_plain (s (flat_map live xs)) xs h)

pub read_plain : (cs : List Chunk) → AllByRecursion (Atom inside) cs → ArePlain (map cell_of cs)
read_plain [] h = tt
read_plain (c ∷ cs) h = go (is_padding c.id) refl (read_plain cs h.1)
  where
    has : lacks_pad c ≡ false
    has = le-ltb _ _ (omega (arith, h.0.pad_none))

    go : (t : Bool) → is_padding c.id ≡ t → ArePlain (map cell_of cs) → ArePlain (cell_by c t ∷ map cell_of cs)
    go true e again = (has, padding_not is_user user_sort c e, again)
    go false e again = (has, again)
