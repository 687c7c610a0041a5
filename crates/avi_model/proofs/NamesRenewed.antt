-- What is written into the tables of a file changes no span of an edit of names: the same cells, with other bodies where chunks are kept.
use Rattle.std.proofs.Common.{◌≡◌, ℕ, zero, suc, ◌+◌, Bool, true, false, cond, List, [], ◌∷◌, ◌++◌, length, map, refl, sym, ap, ◌∙◌, arith}
use Rattle.std.specs.Prelude.{◌||◌}
use Rattle.std.specs.List.{flat_map, list_any}
use Rattle.std.proofs.lemmas.List.{length-append}
use Rattle.container_model.specs.Chunk.{Chunk, spell, spell_all}
use Rattle.container_model.specs.Written.{Write}
use Rattle.container_model.specs.Units.{Cell, kept, gap, edited, live}
use Rattle.container_model.proofs.Written.{renew, renewed}
use Rattle.carrier_model.specs.Cells.{leave, changed_cell, count_all, settle, settle_cells}
use Rattle.carrier_model.specs.Info.{is_padding}
use Rattle.carrier_model.specs.Names.{is_name, is_head, some_head, put_name, nth_name, put_names, name_cells}
use Rattle.carrier_model.proofs.Renewed.{renewed_cells}
use Rattle.avi_model.specs.Named.{cell_by, cell_of}

module _ (ws : List Write) where
  -- padding and names are left alone
  abbrev pub NameAlone : ℕ → Chunk → Type 0
  NameAlone at c = (is_padding c ≡ true → renew ws at c ≡ c) × (is_name c ≡ true → renew ws at c ≡ c)

  abbrev pub NamesAlone : ℕ → List Chunk → Type 0
  NamesAlone at [] = Unit {0}
  NamesAlone at (c ∷ cs) = NameAlone at c × NamesAlone (at + length (spell c)) cs

  -- cells whose kept names are left alone
  abbrev pub Alone : ℕ → List Cell → Type 0
  Alone at [] = Unit {0}
  Alone at (kept c ∷ xs) = (is_name c ≡ true → renew ws at c ≡ c) × Alone (at + length (spell c)) xs
  Alone at (gap c ∷ xs) = Alone (at + length (spell c)) xs
  Alone at (edited old now ∷ xs) = Alone (at + length (spell_all old)) xs

  cells_renewed : (at : ℕ) (cs : List Chunk) → NamesAlone at cs → map cell_of (renewed ws at cs) ≡ renewed_cells ws at (map cell_of cs)
  cells_renewed at [] h = refl
  cells_renewed at (c ∷ cs) h = go (is_padding c) refl (cells_renewed (at + length (spell c)) cs h.1)
    where
      go : (t : Bool) → is_padding c ≡ t → map cell_of (renewed ws (at + length (spell c)) cs) ≡ renewed_cells ws (at + length (spell c)) (map cell_of cs)
          → cell_by (renew ws at c) t ∷ map cell_of (renewed ws (at + length (spell c)) cs) ≡ renewed_cells ws at (cell_by c t ∷ map cell_of cs)
      go true e g = ap (λ (d : Chunk). gap d ∷ map cell_of (renewed ws (at + length (spell c)) cs)) (h.0.0 e) ∙ ap (λ (ys : List Cell). gap c ∷ ys) g
      go false e g = ap (λ (ys : List Cell). kept (renew ws at c) ∷ ys) g

  cells_alone : (at : ℕ) (cs : List Chunk) → NamesAlone at cs → Alone at (map cell_of cs)
  cells_alone at [] h = tt
  cells_alone at (c ∷ cs) h = go (is_padding c) (cells_alone (at + length (spell c)) cs h.1)
    where
      go : (t : Bool) → Alone (at + length (spell c)) (map cell_of cs) → Alone at (cell_by c t ∷ map cell_of cs)
      go true g = g
      go false g = (h.0.1, g)

  -- ---- a test of identifiers sees no difference

  any_renewed : (p : Chunk → Bool) → ((at : ℕ) (c : Chunk) → p (renew ws at c) ≡ p c) → (at : ℕ) (xs : List Cell) → list_any p (flat_map live (renewed_cells ws at xs)) ≡ list_any p (flat_map live xs)
  any_renewed p same at [] = refl
  any_renewed p same at (kept c ∷ xs) = ap (λ (b : Bool). b || list_any p (flat_map live (renewed_cells ws (at + length (spell c)) xs))) (same at c) ∙ ap (λ (b : Bool). p c || b) (any_renewed p same (at + length (spell c)) xs)
  any_renewed p same at (gap c ∷ xs) = any_renewed p same (at + length (spell c)) xs
  any_renewed p same at (edited old now ∷ xs) = both now (any_renewed p same (at + length (spell_all old)) xs)
    where
      both : (now : List Chunk) → list_any p (flat_map live (renewed_cells ws (at + length (spell_all old)) xs)) ≡ list_any p (flat_map live xs)
          → list_any p (now ++ flat_map live (renewed_cells ws (at + length (spell_all old)) xs)) ≡ list_any p (now ++ flat_map live xs)
      both [] e = e
      both (c ∷ cs) e = ap (λ (b : Bool). p c || b) (both cs e)

  -- ---- names that are there

  one_length : (at : ℕ) (c : Chunk) → at + length (spell_all (c ∷ [])) ≡ at + length (spell c)
  one_length at c = omega (arith, length-append (spell c) [])

  settle_renewed : (new : List Chunk) (n at : ℕ) (xs : List Cell) → Alone at xs → settle_cells is_name (nth_name new) n (renewed_cells ws at xs) ≡ renewed_cells ws at (settle_cells is_name (nth_name new) n xs)
  settle_renewed new n at [] h = refl
  settle_renewed new n at (kept c ∷ xs) h = go (is_name c) refl n (λ m. settle_renewed new m (at + length (spell c)) xs h.1)
    where
      next : ℕ
      next = at + length (spell c)

      became : (cs : List Chunk) (m : ℕ) → renew ws at c ≡ c → settle_cells is_name (nth_name new) m (renewed_cells ws (at + length (spell c)) xs) ≡ renewed_cells ws (at + length (spell c)) (settle_cells is_name (nth_name new) m xs)
          → edited (renew ws at c ∷ []) cs ∷ settle_cells is_name (nth_name new) m (renewed_cells ws (at + length (spell c)) xs) ≡ renewed_cells ws at (edited (c ∷ []) cs ∷ settle_cells is_name (nth_name new) m xs)
      became cs m i g =
          ap (λ (d : Chunk). edited (d ∷ []) cs ∷ settle_cells is_name (nth_name new) m (renewed_cells ws (at + length (spell c)) xs)) i ∙ ap (λ (ys : List Cell). edited (c ∷ []) cs ∷ ys) g
          ∙ ap (λ (q : ℕ). edited (c ∷ []) cs ∷ renewed_cells ws q (settle_cells is_name (nth_name new) m xs)) (sym (one_length at c))

      go : (t : Bool) → is_name c ≡ t → (n : ℕ) → ((m : ℕ) → settle_cells is_name (nth_name new) m (renewed_cells ws (at + length (spell c)) xs) ≡ renewed_cells ws (at + length (spell c)) (settle_cells is_name (nth_name new) m xs))
          → changed_cell (cond t (nth_name new n (renew ws at c)) leave) (renew ws at c) ∷ settle_cells is_name (nth_name new) (cond t (suc n) n) (renewed_cells ws (at + length (spell c)) xs)
          ≡ renewed_cells ws at (changed_cell (cond t (nth_name new n c) leave) c ∷ settle_cells is_name (nth_name new) (cond t (suc n) n) xs)
      go true e zero again = became new 1 (h.0 e) (again 1)
      go true e (suc n) again = became [] (suc (suc n)) (h.0 e) (again (suc (suc n)))
      go false e n again = ap (λ (ys : List Cell). kept (renew ws at c) ∷ ys) (again n)
  settle_renewed new n at (gap c ∷ xs) h = ap (λ (ys : List Cell). gap c ∷ ys) (settle_renewed new n (at + length (spell c)) xs h)
  settle_renewed new n at (edited old now ∷ xs) h = ap (λ (ys : List Cell). edited old (settle is_name (nth_name new) n now) ∷ ys) (settle_renewed new (count_all is_name n now) (at + length (spell_all old)) xs h)

  -- ---- a new name

  put_by : (cs : List Chunk) (at : ℕ) (x : Cell) (xs front : List Cell) (b : Bool) → front ≡ renewed_cells ws at (x ∷ put_name (edited [] cs) xs)
      → cond b front (edited [] cs ∷ renewed_cells ws at (x ∷ xs)) ≡ renewed_cells ws at (cond b (x ∷ put_name (edited [] cs) xs) (edited [] cs ∷ (x ∷ xs)))
  put_by cs at x xs front true e = e
  put_by cs at x xs front false e = let z : at + 0 ≡ at = omega arith in ap (λ (q : ℕ). edited [] cs ∷ renewed_cells ws q (x ∷ xs)) (sym z)

  put_renewed : (cs : List Chunk) (at : ℕ) (xs : List Cell) → put_name (edited [] cs) (renewed_cells ws at xs) ≡ renewed_cells ws at (put_name (edited [] cs) xs)
  put_renewed cs at [] = refl
  put_renewed cs at (kept c ∷ xs) =
      let next = at + length (spell c) in
      let front = kept (renew ws at c) ∷ put_name (edited [] cs) (renewed_cells ws next xs) in
      ap (λ (b : Bool). cond b front (edited [] cs ∷ renewed_cells ws at (kept c ∷ xs))) (any_renewed is_head (λ q c. refl) at (kept c ∷ xs))
      ∙ put_by cs at (kept c) xs front (some_head (kept c ∷ xs)) (ap (λ (ys : List Cell). kept (renew ws at c) ∷ ys) (put_renewed cs next xs))
  put_renewed cs at (gap c ∷ xs) =
      let next = at + length (spell c) in
      let front = gap c ∷ put_name (edited [] cs) (renewed_cells ws next xs) in
      ap (λ (b : Bool). cond b front (edited [] cs ∷ renewed_cells ws at (gap c ∷ xs))) (any_renewed is_head (λ q c. refl) at (gap c ∷ xs))
      ∙ put_by cs at (gap c) xs front (some_head (gap c ∷ xs)) (ap (λ (ys : List Cell). gap c ∷ ys) (put_renewed cs next xs))
  put_renewed cs at (edited old now ∷ xs) =
      let next = at + length (spell_all old) in
      let front = edited old now ∷ put_name (edited [] cs) (renewed_cells ws next xs) in
      ap (λ (b : Bool). cond b front (edited [] cs ∷ renewed_cells ws at (edited old now ∷ xs))) (any_renewed is_head (λ q c. refl) at (edited old now ∷ xs))
      ∙ put_by cs at (edited old now) xs front (some_head (edited old now ∷ xs)) (ap (λ (ys : List Cell). edited old now ∷ ys) (put_renewed cs next xs))

  names_put : (new : List Chunk) (at : ℕ) (xs : List Cell) → put_names new (renewed_cells ws at xs) ≡ renewed_cells ws at (put_names new xs)
  names_put [] at xs = refl
  names_put (c ∷ cs) at xs = put_renewed (c ∷ cs) at xs

  -- The edit of the names among cells with other bodies is the edit of the names, with other bodies.
  pub names_renewed : (new : List Chunk) (at : ℕ) (cs : List Chunk) → NamesAlone at cs → name_cells new (map cell_of (renewed ws at cs)) ≡ renewed_cells ws at (name_cells new (map cell_of cs))
  names_renewed new at cs h =
      let xs = map cell_of cs in
      ap (name_cells new) (cells_renewed at cs h)
      ∙ ap (λ (b : Bool). cond b (settle_cells is_name (nth_name new) 0 (renewed_cells ws at xs)) (put_names new (renewed_cells ws at xs))) (any_renewed is_name (λ q c. refl) at xs)
      ∙ go (list_any is_name (flat_map live xs))
    where
      go : (b : Bool) → cond b (settle_cells is_name (nth_name new) 0 (renewed_cells ws at (map cell_of cs))) (put_names new (renewed_cells ws at (map cell_of cs)))
          ≡ renewed_cells ws at (cond b (settle_cells is_name (nth_name new) 0 (map cell_of cs)) (put_names new (map cell_of cs)))
      go true = settle_renewed new 0 at (map cell_of cs) (cells_alone at cs h)
      go false = names_put new at (map cell_of cs)
