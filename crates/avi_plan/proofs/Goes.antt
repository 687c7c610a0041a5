-- Where the ranges between an edit's spans put the essence and the tables of a file: where the model puts them; and no span touches a table.
use Rattle.std.proofs.Common.{◌≡◌, ◌∙◌, ◌⊎◌, ℕ, ◌+◌, ◌^◌, ◌≤◌, ◌<◌, Bool, true, false, cond, List, [], ◌∷◌, length, map, Option, refl, sym, ap, subst, arith, inl, inr}
use Rattle.std.specs.Prelude.{unwrap_or}
use Rattle.std.specs.List.{AllByRecursion, flat_map, list_any}
use Rattle.me_bytes.specs.Bytes.{IsBytes}
use Rattle.part_tree.specs.Tables.{moved}
use Rattle.container_model.specs.Chunk.{Chunk}
use Rattle.container_model.specs.Splice.{Ascend, Cut, Outside, end_of, shift}
use Rattle.container_model.specs.Stood.{Stood}
use Rattle.container_model.specs.Tables.{Table}
use Rattle.container_model.specs.Tables as stood
use Rattle.container_model.specs.Units.{Cell, cuts, edited, gap, kept, live, shut, units}
use Rattle.container_model.proofs.Copied.{Moves_as_one}
use Rattle.container_model.proofs.Written.{length-written}
use Rattle.carrier_model.specs.Gaps.{moves_of}
use Rattle.carrier_model.specs.Info.{list_run}
use Rattle.carrier_model.specs.Names.{is_name, name_cells, nth_name, put_name, put_names, some_head}
use Rattle.carrier_model.specs.Cells.{settle_cells}
use Rattle.carrier_model.specs.RiffForm.{fill_of, pad_cut}
use Rattle.carrier_model.proofs.Gaps.{places_put}
use Rattle.opendml_index.specs.Index.{move}
use Rattle.avi_model.specs.After.{Changes, children_after, goes, joined, list_cuts, pad_after}
use Rattle.avi_model.specs.Avi.{Avi, avi_of, essence, inner, old_indexes, spell_avi}
use Rattle.avi_model.specs.Index.{indexes, writes}
use Rattle.avi_model.specs.JoinedSplices.{joined_cuts, old_list_cuts, old_place}
use Rattle.avi_model.specs.Named.{Names, Site, cell_of, hdrl_cuts, hdrl_named, hdrl_site, list_pad, name_cuts, named, new_names, riff_of, sites_in, strl_cuts, strl_fill, strl_named, strl_pieces}
use Rattle.avi_model.specs.NewFile.{new_cells}
use Rattle.avi_model.specs.Support.{Supported}
use Rattle.avi_model.proofs.Among.{Among, among_all}
use Rattle.avi_model.proofs.Fit.{FitsBy}
use Rattle.avi_model.proofs.JoinedGrows.{essence_grows}
use Rattle.avi_model.proofs.JoinedIs.{joined_laid}
use Rattle.avi_model.proofs.JoinedOne.{joined_ascend, joined_outside, joined_shifts}
use Rattle.avi_model.proofs.Laid.{IsLaid}
use Rattle.avi_model.proofs.Lies.{body_end}
use Rattle.avi_model.proofs.Merged.{GoesAsOne, Real, put_both, rigid_apart}
use Rattle.avi_model.proofs.Moves.{index_rests, moves_in, old_fine}
use Rattle.avi_model.proofs.OneSplice.{AllReal, Fresh, both_real, fresh_cells, pad_real, real_new, real_settled, units_real}
use Rattle.avi_model.proofs.Read.{renewed_avi}
use Rattle.avi_plan.specs.Drops.{Drops}
use Rattle.avi_plan.proofs.Drops.{drops_all, drops_ascend, drops_outside, drops_shift}

-- ---- each span replaces bytes, or brings some

fresh_real : (xs : List Cell) → Fresh xs → AllReal xs
fresh_real [] h = tt
fresh_real (kept c ∷ xs) h = fresh_real xs h
fresh_real (gap c ∷ xs) h = fresh_real xs h
fresh_real (edited old now ∷ xs) h = absurd h

one_more : (x : Cell) (xs ys : List Cell) → Fresh (x ∷ xs) → AllReal ys → AllReal (x ∷ ys)
one_more (kept c) xs ys h g = g
one_more (gap c) xs ys h g = g
one_more (edited old now) xs ys h g = absurd h

but_one : (x : Cell) (xs : List Cell) → Fresh (x ∷ xs) → Fresh xs
but_one (kept c) xs h = h
but_one (gap c) xs h = h
but_one (edited old now) xs h = absurd h

real_put : (c : Chunk) (cs : List Chunk) (xs : List Cell) → Fresh xs → AllReal (put_name (edited [] (c ∷ cs)) xs)
real_put c cs [] h = (omega arith, tt)
real_put c cs (x ∷ xs) h = go (some_head (x ∷ xs)) (real_put c cs xs (but_one x xs h))
  where
    go : (t : Bool) → AllReal (put_name (edited [] (c ∷ cs)) xs) → AllReal (cond t (x ∷ put_name (edited [] (c ∷ cs)) xs) (edited [] (c ∷ cs) ∷ (x ∷ xs)))
    go true g = one_more x xs (put_name (edited [] (c ∷ cs)) xs) h g
    go false g = (omega arith, fresh_real (x ∷ xs) h)

real_puts : (new : List Chunk) (xs : List Cell) → Fresh xs → AllReal (put_names new xs)
real_puts [] xs h = fresh_real xs h
real_puts (c ∷ cs) xs h = real_put c cs xs h

real_names : (new : List Chunk) (xs : List Cell) → Fresh xs → AllReal (name_cells new xs)
real_names new xs h = go (list_any is_name (flat_map live xs))
  where
    go : (t : Bool) → AllReal (cond t (settle_cells is_name (nth_name new) 0 xs) (put_names new xs))
    go true = real_settled is_name (nth_name new) 0 xs h
    go false = real_puts new xs h

strl_real : (e : Names) (s : Site) → AllByRecursion Real (strl_cuts e s)
strl_real e s =
    let new = new_names e s.stream in
    let xs = map cell_of (list_run s.chunk).chunks in (
      omega arith,
      both_real (cuts (strl_fill s.ends s.chunk) (s.at + 12) (strl_pieces new s.chunk)) (list_pad s (strl_named s.ends new s.chunk))
          (units_real (strl_fill s.ends s.chunk) (s.at + 12) shut (name_cells new xs) tt (real_names new xs (fresh_cells (list_run s.chunk).chunks)))
          (pad_real (s.at + 8 + length s.chunk.body) s.chunk.pad (strl_named s.ends new s.chunk).pad),
    )

strls_real : (e : Names) (ss : List Site) → AllByRecursion Real (flat_map (strl_cuts e) ss)
strls_real e [] = tt
strls_real e (s ∷ ss) = both_real (strl_cuts e s) (flat_map (strl_cuts e) ss) (strl_real e s) (strls_real e ss)

hdrl_real : (e : Names) (s : Site) → AllByRecursion Real (hdrl_cuts e s)
hdrl_real e s =
    (omega arith, both_real (flat_map (strl_cuts e) (sites_in e s)) (list_pad s (hdrl_named e s.ends s.chunk)) (strls_real e (sites_in e s)) (pad_real (s.at + 8 + length s.chunk.body) s.chunk.pad (hdrl_named e s.ends s.chunk).pad))

hdrls_real : (e : Names) (ss : List Site) → AllByRecursion Real (flat_map (hdrl_cuts e) ss)
hdrls_real e [] = tt
hdrls_real e (s ∷ ss) = both_real (hdrl_cuts e s) (flat_map (hdrl_cuts e) ss) (hdrl_real e s) (hdrls_real e ss)

moved_real : (f : ℕ → ℕ) (cs : List Cut) → AllByRecursion Real cs → AllByRecursion Real (map (λ (c : Cut). record c { at = f c.at }) cs)
moved_real f [] h = tt
moved_real f (c ∷ cs) h = (h.0, moved_real f cs h.1)

pub joined_real : (a : Avi) (e : Changes) → AllByRecursion Real (joined_cuts a e)
joined_real a e =
    let n = named a e.names in
    put_both Real (name_cuts a e.names) (old_list_cuts a e) (hdrls_real e.names (hdrl_site a))
    (moved_real (old_place a e.names) (list_cuts a e)
    (both_real (cuts (fill_of (riff_of n)) 12 (units shut (new_cells n e.infos))) (pad_cut (8 + length (inner n.children n.left)) a.pad (pad_after a e)) (units_real (fill_of (riff_of n)) 12 shut (new_cells n e.infos) tt (real_new n e.infos))
    (pad_real (8 + length (inner n.children n.left)) a.pad (pad_after a e))))

-- ---- the essence goes where the model puts it

module _ (o : List ℕ) (bytes : IsBytes o) (s : Supported o) (e : Changes) (small : length (inner (children_after (renewed_avi (writes (move (goes (avi_of o) e)) o) (avi_of o)) e) (avi_of o).left) < 2 ^ 32)
    (ds : List Cut) (drops : Drops o (joined_cuts (avi_of o) e) ds) where
  abbrev a : Avi
  a = avi_of o

  abbrev b : Avi
  b = renewed_avi (writes (move (goes (avi_of o) e)) o) (avi_of o)

  abbrev Free : ℕ → Type 0
  Free p = Outside (name_cuts (avi_of o) e.names) p × Outside (list_cuts (avi_of o) e) (shift (name_cuts (avi_of o) e.names) p)

  facts : IsLaid o (goes (avi_of o) e) (λ p. Outside (name_cuts (avi_of o) e.names) p × Outside (list_cuts (avi_of o) e) (shift (name_cuts (avi_of o) e.names) p)) (joined (renewed_avi (writes (move (goes (avi_of o) e)) o) (avi_of o)) e)
  facts = joined_laid o bytes s e small (essence_grows o bytes s e small)

  pub needed_ascend : Ascend 0 ds (length o)
  needed_ascend = drops_ascend o 0 (length o) (joined_cuts a e) ds drops (joined_ascend o bytes s e)

  -- a place that the edit leaves alone
  placed_at : (q : ℕ) → Free q → q < length o → moved (moves_of ds (length o)) q ≡ goes (avi_of o) e q
  placed_at q free lt =
      let out = joined_outside o bytes s e q free.0 free.1 in
      let here = places_put ds (length o) q needed_ascend (drops_outside o q (joined_cuts a e) ds drops out) lt in
      ap (λ (p : Option ℕ). unwrap_or p q) here ∙ sym (drops_shift o (joined_cuts a e) ds q (joined_ascend o bytes s e) drops) ∙ joined_shifts o bytes s e q out

  pub essence_goes : (m : Stood) → Among m (essence (avi_of o)) → (q : ℕ) → m.at + 8 ≤ q → q < m.at + 8 + length m.chunk.body → moved (moves_of ds (length o)) q ≡ goes (avi_of o) e q
  essence_goes m i q low high =
      let st = moves_in o bytes s (goes a e) Free (joined b e) facts m i q 1 low (omega (arith, high)) (omega arith) in
      let z : q + 0 ≡ q = omega arith in
      placed_at q (subst Free z (st.rigid 0 (omega arith)).0) (omega (arith, st.lies, length-written (writes (move (goes a e)) o) 0 o))

  -- ---- no span touches a table

  module _ (fit : FitsBy (joined (renewed_avi (writes (move (goes (avi_of o) e)) o) (avi_of o)) e) (goes (avi_of o) e) o (spell_avi (joined (renewed_avi (writes (move (goes (avi_of o) e)) o) (avi_of o)) e))) where
    -- a range with its header keeps clear of the spans
    apart : (head k : ℕ) → 0 < k → ((i : ℕ) → i < k → Free (head + i) × (goes (avi_of o) e (head + i) ≡ goes (avi_of o) e head + i)) → AllByRecursion (λ (d : Cut). (head + k ≤ d.at) ⊎ (end_of d ≤ head)) ds
    apart head k some g = drops_all o (λ (d : Cut). (head + k ≤ d.at) ⊎ (end_of d ≤ head)) (joined_cuts a e) ds drops (rigid_apart 0 (length o) head k (goes a e head) (joined_cuts a e) (joined_ascend o bytes s e) some (joined_real a e) as_one)
      where
        as_one : GoesAsOne (joined_cuts (avi_of o) e) head k (goes (avi_of o) e head)
        as_one i lt = let z = g i lt in let out = joined_outside o bytes s e (head + i) z.0.0 z.0.1 in (out, joined_shifts o bytes s e (head + i) out ∙ z.1)

    -- where a table's body begins, behind its header
    pub record IsApart (t : Table) : Type 0 where
      pub low : 8 ≤ t.at
      pub clear : AllByRecursion (λ (d : Cut). (t.at + length t.body ≤ d.at) ⊎ (end_of d + 8 ≤ t.at)) ds

    turn : (head : ℕ) (t : Table) (cs : List Cut) → t.at ≡ head + 8 → AllByRecursion (λ (d : Cut). (head + (8 + length t.body) ≤ d.at) ⊎ (end_of d ≤ head)) cs → AllByRecursion (λ (d : Cut). (t.at + length t.body ≤ d.at) ⊎ (end_of d + 8 ≤ t.at)) cs
    turn head t [] at h = tt
    turn head t (d ∷ cs) at h = (one h.0, turn head t cs at h.1)
      where
        one : (head + (8 + length t.body) ≤ d.at) ⊎ (end_of d ≤ head) → (t.at + length t.body ≤ d.at) ⊎ (end_of d + 8 ≤ t.at)
        one (inl l) = inl (omega (arith, l, at))
        one (inr l) = inr (omega (arith, l, at))

    pub index_apart : (t : Table) → Among t (indexes o) → IsApart t
    index_apart t i =
        let q = index_rests o bytes s (goes a e) Free (joined b e) facts fit t i in
        record { low = omega (arith, q.at_is); clear = turn q.head t ds q.at_is (apart q.head (8 + length t.body) (omega arith) (λ k lt. q.rigid k lt)) }

    pub old_apart : (x : Stood) → Among x (old_indexes (avi_of o)) → IsApart (stood.table_of x)
    old_apart x i =
        let moves = among_all (Moves_as_one (goes a e) Free) (old_indexes a) facts.olds.1 x i in
        let k = body_end x (old_fine o bytes s (goes a e) Free (joined b e) facts fit x i).head in
        record { low = omega arith; clear = turn x.at (stood.table_of x) ds refl (apart x.at (8 + length x.chunk.body) (omega arith) (λ j lt. moves j (omega (arith, k, lt)))) }
