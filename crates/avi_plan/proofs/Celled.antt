-- The cells of a stream's list with another name, by place.
use Rattle.std.proofs.Common.{◌≡◌, ◌∙◌, ◌⊎◌, ℕ, suc, ◌+◌, ◌<◌, ◌≤◌, Bool, true, false, cond, List, [], ◌∷◌, ◌++◌, length, map, refl, sym, ap, arith, inl, inr}
use Rattle.std.specs.Prelude.{◌||◌, Some, None}
use Rattle.std.specs.List.{flat_map, list_any}
use Rattle.std.proofs.lemmas.Bool.{eq-eqb, ne_eqb}
use Rattle.std.proofs.lemmas.List.{length-append}
use Rattle.container_model.specs.Chunk.{Chunk, spell}
use Rattle.container_model.specs.Units.{Cell, kept, gap, edited, live}
use Rattle.container_model.proofs.Codec.{as_many}
use Rattle.carrier_model.specs.Cells.{Change, leave, become, changed_cell, settle_cells}
use Rattle.carrier_model.specs.Info.{is_padding}
use Rattle.carrier_model.specs.Names.{is_head, is_head_id, is_name, name_cells, nth_name, put_name, put_names, some_head}
use Rattle.avi_names.specs.Names.{behind_heads}
use Rattle.avi_model.specs.Named.{cell_by, cell_of}
use Rattle.avi_model.proofs.Placed.{padding_not_name}
use Rattle.avi_model.proofs.Types.{padding_id}
use Rattle.avi_plan.specs.Strls.{cells_from, name_cell, place_of, put_here}

-- ---- padding is no name, and no head

padding_no_head : (c : Chunk) → is_padding c ≡ true → is_head c ≡ false
padding_no_head c p = ap is_head_id (padding_id c p)

-- whether one of what stands there meets a test that padding doesn't meet
live_any : (p : Chunk → Bool) → ((c : Chunk) → is_padding c ≡ true → p c ≡ false) → (c : Chunk) (xs : List Cell) → list_any p (flat_map live (cell_of c ∷ xs)) ≡ (p c || list_any p (flat_map live xs))
live_any p none c xs = go (is_padding c) refl
  where
    go : (t : Bool) → is_padding c ≡ t → list_any p (flat_map live (cell_by c t ∷ xs)) ≡ (p c || list_any p (flat_map live xs))
    go true e = ap (λ (t : Bool). t || list_any p (flat_map live xs)) (sym (none c e))
    go false e = refl

pub any_named : (cs : List Chunk) → list_any is_name (flat_map live (map cell_of cs)) ≡ list_any is_name cs
any_named [] = refl
any_named (c ∷ cs) = live_any is_name padding_not_name c (map cell_of cs) ∙ ap (λ (t : Bool). is_name c || t) (any_named cs)

-- ---- names that are there

settled_one : (new : List Chunk) (n : ℕ) (met : Bool) (c : Chunk) (xs : List Cell) → nth_name new n c ≡ become (cond met [] new)
    → settle_cells is_name (nth_name new) n (cell_of c ∷ xs) ≡ name_cell new met c ∷ settle_cells is_name (nth_name new) (cond (is_name c) (suc n) n) xs
settled_one new n met c xs becomes = go (is_padding c) refl
  where
    rest : Bool → List Cell
    rest t = settle_cells is_name (nth_name new) (cond t (suc n) n) xs

    settled : (u : Bool) → changed_cell (cond u (nth_name new n c) leave) c ≡ cond u (edited (c ∷ []) (cond met [] new)) (kept c)
    settled true = ap (λ (d : Change). changed_cell d c) becomes
    settled false = refl

    go : (t : Bool) → is_padding c ≡ t → settle_cells is_name (nth_name new) n (cell_by c t ∷ xs) ≡ cond (is_name c) (edited (c ∷ []) (cond met [] new)) (cell_by c t) ∷ rest (is_name c)
    go true e =
        let no = padding_not_name c e in
        ap (λ (u : Bool). cond u (edited (c ∷ []) (cond met [] new)) (gap c) ∷ rest u) (sym no)
    go false e = ap (λ (x : Cell). x ∷ rest (is_name c)) (settled (is_name c))

-- behind the first name
settled_later : (new : List Chunk) (n at : ℕ) (cs : List Chunk) → settle_cells is_name (nth_name new) (suc n) (map cell_of cs) ≡ cells_from new None true at cs
settled_later new n at [] = refl
settled_later new n at (c ∷ cs) =
    let to = at + length (spell c) in
    settled_one new (suc n) true c (map cell_of cs) refl ∙ ap (λ (xs : List Cell). name_cell new true c ∷ xs) (go (is_name c) (λ k. settled_later new k to cs))
  where
    go : (t : Bool) → ((k : ℕ) → settle_cells is_name (nth_name new) (suc k) (map cell_of cs) ≡ cells_from new None true (at + length (spell c)) cs)
        → settle_cells is_name (nth_name new) (cond t (suc (suc n)) (suc n)) (map cell_of cs) ≡ cells_from new None true (at + length (spell c)) cs
    go true again = again (suc n)
    go false again = again n

settled_first : (new : List Chunk) (at : ℕ) (cs : List Chunk) → settle_cells is_name (nth_name new) 0 (map cell_of cs) ≡ cells_from new None false at cs
settled_first new at [] = refl
settled_first new at (c ∷ cs) =
    let to = at + length (spell c) in
    settled_one new 0 false c (map cell_of cs) refl ∙ ap (λ (xs : List Cell). name_cell new false c ∷ xs) (go (is_name c) (settled_later new 0 to cs) (settled_first new to cs))
  where
    go : (t : Bool) → settle_cells is_name (nth_name new) 1 (map cell_of cs) ≡ cells_from new None true (at + length (spell c)) cs
        → settle_cells is_name (nth_name new) 0 (map cell_of cs) ≡ cells_from new None false (at + length (spell c)) cs
        → settle_cells is_name (nth_name new) (cond t 1 0) (map cell_of cs) ≡ cells_from new None t (at + length (spell c)) cs
    go true later first = later
    go false later first = first

-- ---- no name is there

any_parts : (t u : Bool) → (t || u) ≡ false → (t ≡ false) × (u ≡ false)
any_parts true u h = absurd cc
any_parts false u h = (refl, h)

other_cell : (new : List Chunk) (met : Bool) (c : Chunk) → is_name c ≡ false → name_cell new met c ≡ cell_of c
other_cell new met c e = ap (λ (t : Bool). cond t (edited (c ∷ []) (cond met [] new)) (cell_of c)) e

-- where none is put
unnamed : (new : List Chunk) (met : Bool) (at : ℕ) (cs : List Chunk) → list_any is_name cs ≡ false → cells_from new None met at cs ≡ map cell_of cs
unnamed new met at [] h = refl
unnamed new met at (c ∷ cs) h =
    let p = any_parts (is_name c) (list_any is_name cs) h in
    let to = at + length (spell c) in
    ap (λ (x : Cell). x ∷ cells_from new None (met || is_name c) to cs) (other_cell new met c p.0) ∙ ap (λ (xs : List Cell). cell_of c ∷ xs) (unnamed new (met || is_name c) to cs p.1)

spell_some : (c : Chunk) → 0 < length (spell c)
spell_some c = omega (arith, as_many (c ∷ []), length-append (spell c) [])

elsewhere : (new : List Chunk) (p at : ℕ) → p < at → put_here new (Some p) at ≡ []
elsewhere new p at lt = ap (λ (t : Bool). cond t (edited [] new ∷ []) []) (ne_eqb p at (λ e. omega (arith, e, lt)))

-- behind the place of the new one
past : (new : List Chunk) (p : ℕ) (met : Bool) (at : ℕ) (cs : List Chunk) → p < at → list_any is_name cs ≡ false → cells_from new (Some p) met at cs ≡ map cell_of cs
past new p met at [] lt h = elsewhere new p at lt
past new p met at (c ∷ cs) lt h =
    let q = any_parts (is_name c) (list_any is_name cs) h in
    let to = at + length (spell c) in
    ap (λ (xs : List Cell). xs ++ (name_cell new met c ∷ cells_from new (Some p) (met || is_name c) to cs)) (elsewhere new p at lt)
    ∙ ap (λ (x : Cell). x ∷ cells_from new (Some p) (met || is_name c) to cs) (other_cell new met c q.0)
    ∙ ap (λ (xs : List Cell). cell_of c ∷ xs) (past new p (met || is_name c) to cs (omega (arith, lt)) q.1)

-- whether a head is among some chunks
abbrev some_heads : List Chunk → Bool
some_heads cs = list_any is_head cs

head_cells : (cs : List Chunk) → some_head (map cell_of cs) ≡ list_any is_head cs
head_cells [] = refl
head_cells (c ∷ cs) = live_any is_head padding_no_head c (map cell_of cs) ∙ ap (λ (t : Bool). is_head c || t) (head_cells cs)

no_heads : (found at : ℕ) (cs : List Chunk) → list_any is_head cs ≡ false → behind_heads found at cs ≡ found
no_heads found at [] h = refl
no_heads found at (c ∷ cs) h =
    let p = any_parts (is_head c) (list_any is_head cs) h in
    let to = at + length (spell c) in
    ap (λ (t : Bool). behind_heads (cond t to found) to cs) p.0 ∙ no_heads found to cs p.1

-- where a head is among them the place that was found before doesn't count
same_heads : (f g at : ℕ) (cs : List Chunk) → list_any is_head cs ≡ true → behind_heads f at cs ≡ behind_heads g at cs
same_heads f g at [] h = absurd cc
same_heads f g at (c ∷ cs) h = go (is_head c) h (λ x y k. same_heads x y (at + length (spell c)) cs k)
  where
    go : (t : Bool) → (t || list_any is_head cs) ≡ true → ((x y : ℕ) → list_any is_head cs ≡ true → behind_heads x (at + length (spell c)) cs ≡ behind_heads y (at + length (spell c)) cs)
        → behind_heads (cond t (at + length (spell c)) f) (at + length (spell c)) cs ≡ behind_heads (cond t (at + length (spell c)) g) (at + length (spell c)) cs
    go true h again = refl
    go false h again = again f g h

-- and it stands behind the first of them
heads_high : (f at : ℕ) (cs : List Chunk) → at ≤ f → at ≤ behind_heads f at cs
heads_high f at [] le = le
heads_high f at (c ∷ cs) le = go (is_head c) (λ g h. heads_high g (at + length (spell c)) cs h) (some_or f)
  where
    some_or : (f : ℕ) → (list_any is_head cs ≡ false) ⊎ (list_any is_head cs ≡ true)
    some_or f = by (list_any is_head cs) refl
      where
        by : (t : Bool) → list_any is_head cs ≡ t → (list_any is_head cs ≡ false) ⊎ (list_any is_head cs ≡ true)
        by true e = inr e
        by false e = inl e

    go : (t : Bool) → ((g : ℕ) → at + length (spell c) ≤ g → at + length (spell c) ≤ behind_heads g (at + length (spell c)) cs)
        → (list_any is_head cs ≡ false) ⊎ (list_any is_head cs ≡ true) → at ≤ behind_heads (cond t (at + length (spell c)) f) (at + length (spell c)) cs
    go true again o = omega (arith, again (at + length (spell c)) (omega arith))
    go false again (inl none) = omega (arith, no_heads f (at + length (spell c)) cs none, le)
    go false again (inr some) = omega (arith, same_heads f (at + length (spell c)) (at + length (spell c)) cs some, again (at + length (spell c)) (omega arith))

heads_past : (f at : ℕ) (c : Chunk) (cs : List Chunk) → (is_head c || list_any is_head cs) ≡ true → (behind_heads f at (c ∷ cs) ≡ behind_heads (at + length (spell c)) (at + length (spell c)) cs) × (at < behind_heads f at (c ∷ cs))
heads_past f at c cs h = (same, omega (arith, same, heads_high to to cs (omega arith), spell_some c))
  where
    to : ℕ
    to = at + length (spell c)

    same : behind_heads f at (c ∷ cs) ≡ behind_heads (at + length (spell c)) (at + length (spell c)) cs
    same = go (is_head c) h
      where
        go : (t : Bool) → (t || list_any is_head cs) ≡ true → behind_heads (cond t (at + length (spell c)) f) (at + length (spell c)) cs ≡ behind_heads (at + length (spell c)) (at + length (spell c)) cs
        go true h = refl
        go false h = same_heads f (at + length (spell c)) (at + length (spell c)) cs h

later : (new : List Chunk) (p at : ℕ) → at < p → put_here new (Some p) at ≡ []
later new p at lt = ap (λ (t : Bool). cond t (edited [] new ∷ []) []) (ne_eqb p at (λ e. omega (arith, e, lt)))

here : (new : List Chunk) (p at : ℕ) → p ≡ at → put_here new (Some p) at ≡ edited [] new ∷ []
here new p at e = ap (λ (t : Bool). cond t (edited [] new ∷ []) []) (eq-eqb p at e)

put : (new : List Chunk) (met : Bool) (at : ℕ) (cs : List Chunk) → list_any is_name cs ≡ false → put_name (edited [] new) (map cell_of cs) ≡ cells_from new (Some (behind_heads at at cs)) met at cs
put new met at [] h = sym (here new at at refl)
put new met at (c ∷ cs) h = go (is_head c || list_any is_head cs) refl (put new (met || is_name c) (at + length (spell c)) cs p.1)
  where
    p : (is_name c ≡ false) × (list_any is_name cs ≡ false)
    p = any_parts (is_name c) (list_any is_name cs) h

    to : ℕ
    to = at + length (spell c)

    heads : some_head (map cell_of (c ∷ cs)) ≡ (is_head c || list_any is_head cs)
    heads = head_cells (c ∷ cs)

    place : ℕ
    place = behind_heads at at (c ∷ cs)

    y : Cell
    y = edited [] new

    go : (t : Bool) → (is_head c || list_any is_head cs) ≡ t → put_name (edited [] new) (map cell_of cs) ≡ cells_from new (Some (behind_heads to to cs)) (met || is_name c) to cs
        → put_name (edited [] new) (map cell_of (c ∷ cs)) ≡ cells_from new (Some (behind_heads at at (c ∷ cs))) met at (c ∷ cs)
    go true e again =
        let q = heads_past at at c cs e in
        ap (λ (t : Bool). cond t (cell_of c ∷ put_name y (map cell_of cs)) (y ∷ (cell_of c ∷ map cell_of cs))) (heads ∙ e)
        ∙ ap (λ (xs : List Cell). cell_of c ∷ xs) again
        ∙ ap (λ (k : ℕ). cell_of c ∷ cells_from new (Some k) (met || is_name c) to cs) (sym q.0)
        ∙ ap (λ (x : Cell). x ∷ cells_from new (Some place) (met || is_name c) to cs) (sym (other_cell new met c p.0))
        ∙ ap (λ (xs : List Cell). xs ++ (name_cell new met c ∷ cells_from new (Some place) (met || is_name c) to cs)) (sym (later new place at q.1))
    go false e again =
        let same : place ≡ at = no_heads at at (c ∷ cs) e in
        ap (λ (t : Bool). cond t (cell_of c ∷ put_name y (map cell_of cs)) (y ∷ (cell_of c ∷ map cell_of cs))) (heads ∙ e)
        ∙ ap (λ (xs : List Cell). y ∷ (cell_of c ∷ xs)) (sym (past new place (met || is_name c) to cs (omega (arith, same, spell_some c)) p.1))
        ∙ ap (λ (x : Cell). y ∷ (x ∷ cells_from new (Some place) (met || is_name c) to cs)) (sym (other_cell new met c p.0))
        ∙ ap (λ (xs : List Cell). xs ++ (name_cell new met c ∷ cells_from new (Some place) (met || is_name c) to cs)) (sym (here new place at same))

-- ---- all of it

pub cells_are : (new : List Chunk) (at : ℕ) (cs : List Chunk) → name_cells new (map cell_of cs) ≡ cells_from new (place_of new at cs) false at cs
cells_are new at cs = ap (λ (t : Bool). cond t (settle_cells is_name (nth_name new) 0 (map cell_of cs)) (put_names new (map cell_of cs))) (any_named cs) ∙ go (list_any is_name cs) refl new
  where
    go : (t : Bool) → list_any is_name cs ≡ t → (ns : List Chunk) → cond t (settle_cells is_name (nth_name ns) 0 (map cell_of cs)) (put_names ns (map cell_of cs)) ≡ cells_from ns (place_of ns at cs) false at cs
    go true e [] = settled_first [] at cs
    go true e (n ∷ ns) = settled_first (n ∷ ns) at cs ∙ ap (λ (u : Bool). cells_from (n ∷ ns) (cond u None (Some (behind_heads at at cs))) false at cs) (sym e)
    go false e [] = sym (unnamed [] false at cs e)
    go false e (n ∷ ns) = put (n ∷ ns) false at cs e ∙ ap (λ (u : Bool). cells_from (n ∷ ns) (cond u None (Some (behind_heads at at cs))) false at cs) (sym e)
